pub mod Log
pub mod Demand3
