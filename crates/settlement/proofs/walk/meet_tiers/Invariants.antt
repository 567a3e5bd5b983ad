use Prim.Native.Nat.{◌-◌, ◌≤◌}
use mathlib.Core.Path.{◌≡◌}
use Rattle.exact.specs.Rows.{sum, cells}
use Rattle.settlement.specs.Month.{tiers, tier_at}
use Rattle.settlement.specs.Tiers.{left_for, tier_share}
use Rattle.settlement.proofs.walk.meet_tiers.Given as goal

abbrev pub invariant-loop-t : goal.invariant-loop-t
invariant-loop-t l = (l.t ≤ tiers) × (l.out ≡ cells (λ i. sum (λ s. tier_share l.n (tier_at l.wanted) l.money s i) l.t) l.n) × (l.left ≡ left_for l.n (tier_at l.wanted) l.money l.t)

abbrev pub decreases-loop-t : goal.decreases-loop-t
decreases-loop-t l = tiers - l.t
