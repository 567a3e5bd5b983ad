use Prim.Native.Nat.{◌-◌}
use mathlib.Core.Path.{◌≡◌}
use Rattle.exact.specs.Rows.{at, sum}
use Rattle.settlement.specs.Rounds.{weight}
use Rattle.settlement.proofs.Running.{Running}
use Rattle.settlement.proofs.spread.spread.Given as goal

abbrev pub invariant-loop-negative : goal.invariant-loop-negative
invariant-loop-negative l =
    Running l.n (at l.revised) (at l.initial.balances) l.initial.negative l.balances l.negative l.count × (l.positive ≡ sum (weight (at l.revised) (at l.balances)) l.n)

abbrev pub decreases-loop-negative : goal.decreases-loop-negative
decreases-loop-negative l = l.n - l.count
