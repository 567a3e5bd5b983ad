pub mod Months
pub mod Limits
pub mod Purses
pub mod Washups
pub mod Demonstrations
