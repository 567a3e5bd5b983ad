pub mod RunLaws
pub mod RunTurns
pub mod PostingSteps
pub mod PostingTurns
pub mod PostingLaws
pub mod RunReplies
pub mod RunDemand3
pub mod BlockRuns
