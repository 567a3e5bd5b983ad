use Prim.Native.Nat.{◌-◌, ◌≤◌}
use Rattle.exact.specs.Rows.{at}
use Rattle.settlement.specs.inner.Cuts.{CutBetween}
use Rattle.settlement.proofs.sharing.cut.Given as goal

abbrev pub invariant-loop-least : goal.invariant-loop-least
invariant-loop-least l = CutBetween (at l.remainders) l.n l.leftover l.low l.least × (l.least ≤ l.whole)

abbrev pub decreases-loop-least : goal.decreases-loop-least
decreases-loop-least l = l.least - l.low
