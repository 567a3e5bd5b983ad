pub mod Running
pub mod RunDemand3
pub mod BlockRuns
