pub mod Cases
pub mod RowLaws
pub mod Ceiling
pub mod LongDivision
pub mod Shares
pub mod EnergyLaws
