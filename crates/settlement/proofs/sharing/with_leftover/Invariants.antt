use Prim.Native.Nat.{◌+◌, ◌-◌, ◌≤◌}
use mathlib.Core.Path.{◌≡◌}
use Rattle.exact.specs.Rows.{at, sum, cells}
use Rattle.settlement.specs.Sharing.{leftover_cent}
use Rattle.settlement.proofs.Ranks.{equals}
use Rattle.settlement.proofs.sharing.with_leftover.Given as goal

abbrev pub invariant-loop-i : goal.invariant-loop-i
invariant-loop-i l = (l.i ≤ l.n) × (l.out ≡ cells (λ k. at l.cents k + leftover_cent (at l.remainders) l.n l.leftover k) l.i) × (l.spare ≡ l.initial.spare - sum (equals (at l.remainders) (l.least - 1)) l.i)

abbrev pub decreases-loop-i : goal.decreases-loop-i
decreases-loop-i l = l.n - l.i
