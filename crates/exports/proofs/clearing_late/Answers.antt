use mathlib.Core.Path.{refl, sym, ◌∙◌}
use native.Mathlib.Omega.{arith}
use Rattle.exports.specs.Slices.{left, written}
use Rattle.exports.proofs.OrderLaws.{late_fitting}
use Rattle.exports.proofs.clearing_late.Goals as goal

pub returns-then-not-late_money_in_order : goal.returns-then-not-late_money_in_order
unfolding left
returns-then-not-late_money_in_order c = record { answer = sym c.if-not-late_money_in_order.true ∙ c.late_money_in_order.ensures; pays_after = refl }

-- the arguments are in order where the test is passed
pub late_of-requires : goal.late_of-requires
late_of-requires c =
    let k = late_fitting _ _ _ _ _ _ (sym c.late_money_in_order.ensures ∙ c.if-not-late_money_in_order.false) in
    (k.sound, omega (arith, k.roomy), omega (arith, k.roomy))

pub put_cells-requires : goal.put_cells-requires
put_cells-requires c =
    let k = late_fitting _ _ _ _ _ _ (sym c.late_money_in_order.ensures ∙ c.if-not-late_money_in_order.false) in
    (omega arith, omega (arith, k.roomy))

pub returns : goal.returns
unfolding left written
returns c = record {
  answer = sym c.if-not-late_money_in_order.false ∙ c.late_money_in_order.ensures;
  pays_after = c.put_cells.ensures ∙ rw c.late_of.ensures refl;
}
