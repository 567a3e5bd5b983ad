use mathlib.Core.Path.{◌∙◌}
use native.Mathlib.Nat.{le_trans}
use Rattle.exact.proofs.RowLaws.{cells_cong, sum_mono}
use Rattle.settlement.specs.Month.{tier_at}
use Rattle.settlement.specs.Late.{late_payment}
use Rattle.settlement.proofs.MonthLaws.{tier_cells_at, over_tiers_mono}
use Rattle.settlement.proofs.TierLaws.{met_cong}
use Rattle.settlement.proofs.LateLaws.{shortage_le}
use Rattle.settlement.proofs.late.late_payments.Goals as goal

pub meet_tiers-requires : goal.meet_tiers-requires
meet_tiers-requires c =
    let x = c.args in
    (c.requires.0, rw c.shortages-wanted.ensures (le_trans (sum_mono _ _ x.n (λ i h. over_tiers_mono _ (tier_at x.to) i (λ t k. rw (tier_cells_at _ x.n t i k h) (shortage_le _ _ _ t i)))) c.requires.1))

pub returns : goal.returns
unfolding late_payment
returns c =
    let s = c.args in
    rw c.shortages-wanted.ensures at c.meet_tiers.ensures ∙ cells_cong _ _ _ (met_cong _ _ _ _ (λ t i a b. tier_cells_at _ s.n t i a b))
