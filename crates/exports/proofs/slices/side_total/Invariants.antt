use Prim.Native.Nat.{◌+◌}
use mathlib.Core.Path.{◌≡◌}
use Rattle.exact.specs.Rows.{at, sum}
use Rattle.settlement.specs.Month.{side_limit}
use Rattle.exports.proofs.slices.side_total.Given as goal

abbrev pub invariant-loop-cents : goal.invariant-loop-cents
invariant-loop-cents l = l.room + sum (at l.s) l.cents-index ≡ side_limit
