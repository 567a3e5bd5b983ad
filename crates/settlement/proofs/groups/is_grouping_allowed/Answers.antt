use Prim.Native.Nat.{◌≤◌, ◌<◌}
use borrow.Author.Tests.{lt-ltb, le-ltb}
use Rattle.exact.specs.Rows.{at, largest}
use Rattle.settlement.specs.Groups.{group_count, grouping_allowed}
use Rattle.settlement.proofs.groups.is_grouping_allowed.Goals as goal

pub returns-then-largest : goal.returns-then-largest
unfolding grouping_allowed
returns-then-largest c =
    let x = c.args in
    let within : largest (at x.grouping.groups) x.n < group_count = rw c.largest.ensures at c.if-largest.true in
    rw (lt-ltb _ _ within, c.largest-then-largest.ensures)

pub returns-else-largest : goal.returns-else-largest
unfolding grouping_allowed
returns-else-largest c =
    let x = c.args in
    let outside : group_count ≤ largest (at x.grouping.groups) x.n = rw c.largest.ensures at c.if-largest.false in
    rw (c.largest.ensures, le-ltb _ _ outside)
