use mathlib.Core.Path.{◌≡◌}
use lib.ListN.{length}
use Rattle.exact.specs.Rows.{at, cells}
use Rattle.settlement.specs.Groups.{group_count, group_sum}
use Rattle.settlement.proofs.groups.group_sums.Given as goal

abbrev pub invariant-loop-cents : goal.invariant-loop-cents
invariant-loop-cents l = l.out ≡ cells (group_sum (at l.fn.groups) (length l.yielded) (at l.fn.a)) group_count
