pub mod Rows
pub mod Division
pub mod Energy
pub mod EnergyExamples
