mod Examples
mod MonthLaws
mod RetentionLaws
mod GroupLaws
mod NoticeLaws
mod ClaimLaws
mod Ranks
mod SharingLaws
mod Renumbering
mod TierLaws
mod LossLaws
mod RoundLaws
mod Running
mod SettleLaws
mod EnoughRounds
mod LateLaws
pub mod Laws
