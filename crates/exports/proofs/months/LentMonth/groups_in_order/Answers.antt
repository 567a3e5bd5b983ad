use borrow.Author.Tests.{le-leb, lt-leb}
use Rattle.exports.specs.Orders.{all_of, groups_in_order}
use Rattle.exports.proofs.OrderLaws.{last_test}
use Rattle.exports.proofs.months.LentMonth.groups_in_order.Goals as goal
use Rattle.exports.proofs.months.LentMonth.groups_in_order.Goals.{then-self-lt-PLACES-via-then-self-lt-PLACES, then-self-lt-PLACES-via-else-self-lt-PLACES+then-self-lt-GROUPS}

pub returns-then-self-lt-PLACES : goal.returns-then-self-lt-PLACES
unfolding all_of groups_in_order
returns-then-self-lt-PLACES c =
    elim c.then-self-lt-PLACES.branch [
      | then-self-lt-PLACES-via-then-self-lt-PLACES w ↦ simp (lt-leb _ _ w.if-self-lt-PLACES.true)
      | then-self-lt-PLACES-via-else-self-lt-PLACES+then-self-lt-GROUPS w ↦ simp (le-leb _ _ w.if-self-lt-PLACES.false, lt-leb _ _ w.if-self-lt-GROUPS.true)
    ]

pub returns : goal.returns
unfolding all_of groups_in_order
returns c =
    simp (le-leb _ _ c.if-self-lt-PLACES.false, le-leb _ _ c.if-self-lt-GROUPS.false)
    (rw (c.is_grouping_allowed.ensures, c.grouping.ensures) (last_test _))
