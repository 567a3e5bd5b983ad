use borrow.Author.Tests.{le-leb, lt-leb}
use Rattle.exports.specs.Orders.{all_of, owing_in_order}
use Rattle.exports.proofs.OrderLaws.{tiers_tested}
use Rattle.exports.proofs.orders.owing_in_order.Goals as goal
use Rattle.exports.proofs.orders.owing_in_order.Goals.{then-room-lt-PLACES-via-then-room-lt-PLACES, then-room-lt-PLACES-via-else-room-lt-PLACES+then-n-lt1, then-room-lt-PLACES-via-else-room-lt-PLACES+else-n-lt1+then-n-gt-PLACES, then-room-lt-PLACES-via-else-room-lt-PLACES+else-n-lt1+else-n-gt-PLACES+then-to}

pub returns-then-room-lt-PLACES : goal.returns-then-room-lt-PLACES
unfolding all_of owing_in_order
returns-then-room-lt-PLACES c =
    elim c.then-room-lt-PLACES.branch [
      | then-room-lt-PLACES-via-then-room-lt-PLACES w ↦ simp (lt-leb _ _ w.if-room-lt-PLACES.true)
      | then-room-lt-PLACES-via-else-room-lt-PLACES+then-n-lt1 w ↦ simp (le-leb _ _ w.if-room-lt-PLACES.false, lt-leb _ _ w.if-n-lt1.true)
      | then-room-lt-PLACES-via-else-room-lt-PLACES+else-n-lt1+then-n-gt-PLACES w ↦ simp (le-leb _ _ w.if-room-lt-PLACES.false, le-leb _ _ w.if-n-lt1.false, lt-leb _ _ w.if-n-gt-PLACES.true)
      | then-room-lt-PLACES-via-else-room-lt-PLACES+else-n-lt1+else-n-gt-PLACES+then-to w ↦ simp (le-leb _ _ w.if-room-lt-PLACES.false, le-leb _ _ w.if-n-lt1.false, le-leb _ _ w.if-n-gt-PLACES.false, lt-leb _ _ w.if-to.true)
    ]

pub returns : goal.returns
returns c =
    rw c.side_total.ensures
    (tiers_tested _ _ _ c.if-room-lt-PLACES.false c.if-n-lt1.false c.if-n-gt-PLACES.false c.if-to.false)
