use Prim.Native.Nat.{◌-◌, ◌≤◌}
use mathlib.Core.Path.{◌≡◌}
use Rattle.exact.specs.Rows.{at, cells}
use Rattle.settlement.specs.Sharing.{floor_share, remainder}
use Rattle.settlement.proofs.sharing.floor_shares.Given as goal

abbrev pub invariant-loop-i : goal.invariant-loop-i
invariant-loop-i l = (l.i ≤ l.n) × (l.cents ≡ cells (floor_share (at l.weights) l.amount l.whole) l.i) × (l.remainders ≡ cells (remainder (at l.weights) l.amount l.whole) l.i)

abbrev pub decreases-loop-i : goal.decreases-loop-i
decreases-loop-i l = l.n - l.i
