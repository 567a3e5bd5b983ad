pub mod Runs
pub mod Blocks
