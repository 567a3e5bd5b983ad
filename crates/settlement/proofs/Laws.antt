-- The laws of a month: all that a crate above may use of its definitions.

-- where a tier stands in a flat array; retention is at most the tier 5 part, and that at most all that is owing
pub use Rattle.settlement.proofs.MonthLaws.{tier_at_lem, tier_le, tier5_le}
pub use Rattle.settlement.proofs.RetentionLaws.{retention_sound, notice_due}
-- groups and reserves within their values; where each participant is in a group of its own retention is 01's
pub use Rattle.settlement.proofs.GroupLaws.{group_within, reserve_within, grouping_allowed_lem, allowed_cong, retention_cong, separate_retention}
-- payable amounts and full claims
pub use Rattle.settlement.proofs.NoticeLaws.{full_max, full_balance, retained_le_full, full_le, payable_le, full_total}
-- step 1
pub use Rattle.settlement.proofs.ClaimLaws.{set_off_le, unpaid_exact, arrears_exact, claim_exact, claim_le, arrears_le, claim_balance, claim_total, claim_cong, arrears_cong}
-- an amount shared by weights to the last cent
pub use Rattle.settlement.proofs.SharingLaws.{shares_are_exact}
pub use Rattle.settlement.proofs.Renumbering.{order_among_equals_alone}
-- steps 2 to 5
pub use Rattle.settlement.proofs.SettleLaws.{available_exact, revised_le, revised_sum_to_available, revised_all, scaled_le_claim, scaled_le_revised}
pub use Rattle.settlement.proofs.SettleLaws.{paid_le, paid_near, paid_full, rounds_le, rounds_none, held_exact, held_le}
pub use Rattle.settlement.proofs.SettleLaws.{negatives_set_to_zero, held_by_rounding_up}
pub use Rattle.settlement.proofs.EnoughRounds.{rounds_suffice, settlement_ends}
-- late money
pub use Rattle.settlement.proofs.LateLaws.{fill_sum, fill_mono, shortage_cong, shortage_sum, paid_through, pay, late_exact, late_le, late_full, late_open, tiers_in_order}
