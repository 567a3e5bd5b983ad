pub mod Slices
pub mod Orders
pub mod Answers
