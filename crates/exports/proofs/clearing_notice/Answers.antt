use mathlib.Core.Path.{refl, sym, ◌∙◌}
use Rattle.exports.specs.Slices.{left, written}
use Rattle.exports.proofs.OrderLaws.{fitting}
use Rattle.exports.proofs.clearing_notice.Goals as goal

pub returns-then-not-in_order : goal.returns-then-not-in_order
unfolding left
returns-then-not-in_order c = record {
  answer = sym c.if-not-in_order.true ∙ (rw c.min-room.ensures at c.in_order.ensures);
  retention_after = refl;
  payable_after = refl;
}

-- the arguments are in order where the test is passed
pub notice-noticed-requires : goal.notice-noticed-requires
notice-noticed-requires c = (fitting _ _ _ _ _ _ (sym c.in_order.ensures ∙ c.if-not-in_order.false)).sound

pub returns : goal.returns
unfolding left written
returns c = record {
  answer = sym c.if-not-in_order.false ∙ (rw c.min-room.ensures at c.in_order.ensures);
  retention_after = c.put_cells.ensures ∙ rw c.notice-noticed.ensures refl;
  payable_after = c.put_cells-2.ensures ∙ rw c.notice-noticed.ensures refl;
}
