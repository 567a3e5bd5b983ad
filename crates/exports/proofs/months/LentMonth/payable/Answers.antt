use mathlib.Core.Path.{sym, ap, ◌∙◌}
use native.Mathlib.Omega.{arith}
use Rattle.exact.proofs.RowLaws.{holds}
use Rattle.settlement.specs.declared.noticing.Noticed.{Noticed}
use Rattle.exports.specs.Orders.{all_of, received_in_order}
use Rattle.exports.proofs.EachLaws.{each_tested}
use Rattle.exports.proofs.OrderLaws.{fitting, then_tested}
use Rattle.exports.proofs.SliceLaws.{front_holds}
use Rattle.exports.proofs.months.LentMonth.payable.Goals as goal

-- the first test is of the month's sums
pub returns-then-not-in_order : goal.returns-then-not-in_order
unfolding all_of received_in_order
returns-then-not-in_order c =
    let first = rw c.min.ensures at c.in_order.ensures in
    simp (sym first ∙ c.if-not-in_order.true)

pub notice-requires : goal.notice-requires
notice-requires c = (fitting _ _ _ _ _ _ (sym c.in_order.ensures ∙ c.if-not-in_order.false)).sound

pub front-requires : goal.front-requires
front-requires c =
    let k = fitting _ _ _ _ _ _ (sym c.in_order.ensures ∙ c.if-not-in_order.false) in
    omega (arith, k.roomy, c.min.ensures)

pub each_at_most-requires : goal.each_at_most-requires
each_at_most-requires c = (fitting _ _ _ _ _ _ (sym c.in_order.ensures ∙ c.if-not-in_order.false)).sound.0.to_side.few

-- the second test is of what was received and what is payable, and the payable row is the notice's
pub returns : goal.returns
unfolding all_of received_in_order
returns c =
    let first = rw c.min.ensures at c.in_order.ensures in
    let row = ap (λ (r : Noticed). r.payable) c.notice.ensures in
    let few = (fitting _ _ _ _ _ _ (sym c.in_order.ensures ∙ c.if-not-in_order.false)).sound.0.to_side.few in
    let second = each_tested _ _ c.args.self.now.n (omega (arith, few)) (omega (arith, few)) (front_holds _ _ _ c.front.ensures) (holds _ _ row) in
    simp (sym first ∙ c.if-not-in_order.false, sym second ∙ sym c.each_at_most.ensures)
    (c.then_some.ensures ∙ rw row (then_tested _ _))
