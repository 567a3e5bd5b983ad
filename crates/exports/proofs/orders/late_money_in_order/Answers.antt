use Prim.Native.Nat.{ℕ, ◌-◌, min}
use mathlib.Core.Path.{◌≡◌, refl, sym, ◌∙◌}
use mathlib.Core.Bool.{Bool}
use mathlib.Core.List.{List}
use native.Mathlib.Omega.{arith}
use lib.ListN.{length}
use Rattle.exact.specs.Rows.{at, sum, cells, places}
use Rattle.exact.proofs.RowLaws.{sum_term, Holds, holds, sum_holds}
use Rattle.settlement.specs.Month.{over_tiers, tier_at}
use Rattle.exports.specs.Slices.{front, row_of, owing_of, tier_places}
use Rattle.exports.specs.Orders.{all_of, owing_in_order, late_money_in_order}
use Rattle.exports.proofs.EachLaws.{each_tested, each_excess}
use Rattle.exports.proofs.OrderLaws.{tiers_fitting, last_test}
use Rattle.exports.proofs.SliceLaws.{front_holds}
use Rattle.exports.proofs.orders.late_money_in_order.Goals as goal

-- the first test is of the side owing to participants
tiers_tested : (n : ℕ) (to claims paid : List ℕ) (room : ℕ) {b : Bool} {inner outer : ℕ}
    → b ≡ owing_in_order n to outer → outer ≡ min (length claims) inner → inner ≡ min (length paid) room
    → b ≡ owing_in_order n to (min (length claims) (min (length paid) room))
tiers_tested n to claims paid room e o i = e ∙ rw (o, i) refl

-- what is owing, in a slice
owing_holds : (n : ℕ) (to : List ℕ) {flat owing : List ℕ} → owing ≡ cells (over_tiers (tier_at flat)) n → flat ≡ front tier_places to → Holds owing (owing_of to) n
owing_holds n to o f = holds _ _ (o ∙ rw f refl)

-- what is unpaid of the claims
unpaid_sum : (n : ℕ) (claims paid : List ℕ) {unpaid row claims_row : List ℕ}
    → unpaid ≡ cells (λ i. at claims_row i - at row i) n → row ≡ front places paid → claims_row ≡ front places claims
    → sum (at unpaid) n ≡ sum (λ i. row_of claims i - row_of paid i) n
unpaid_sum n claims paid e r s = sum_holds (holds _ _ (e ∙ rw (r, s) refl))

pub returns-then-not-owing_in_order : goal.returns-then-not-owing_in_order
unfolding all_of late_money_in_order
returns-then-not-owing_in_order c =
    let a = c.args in
    let first = tiers_tested a.n a.to.now a.claims.now a.paid.now a.room c.owing_in_order.ensures c.min-2.ensures c.min.ensures in
    simp (sym first ∙ c.if-not-owing_in_order.true)

pub over_tiers-owing-requires : goal.over_tiers-owing-requires
over_tiers-owing-requires c =
    let a = c.args in
    let k = (tiers_fitting _ _ _ (sym c.owing_in_order.ensures ∙ c.if-not-owing_in_order.false)).sound in
    (k.few, λ i h. rw c.front.ensures (omega (arith, k.total, sum_term (owing_of a.to.now) a.n i h)))

-- the second test is of the claims and what is owing
pub returns-then-not-each_at_most : goal.returns-then-not-each_at_most
unfolding all_of late_money_in_order
returns-then-not-each_at_most c =
    let a = c.args in
    let passed = sym c.owing_in_order.ensures ∙ c.if-not-owing_in_order.false in
    let few = (tiers_fitting _ _ _ passed).sound.few in
    let first = tiers_tested a.n a.to.now a.claims.now a.paid.now a.room c.owing_in_order.ensures c.min-2.ensures c.min.ensures in
    let claims = front_holds _ _ a.n c.front-claims.ensures in
    let owing = owing_holds a.n a.to.now c.over_tiers-owing.ensures c.front.ensures in
    let second = c.each_at_most.ensures ∙ each_tested _ _ a.n (omega (arith, few)) (omega (arith, few)) claims owing in
    simp (sym first ∙ c.if-not-owing_in_order.false, sym second ∙ c.if-not-each_at_most.true)

-- the third is of what was paid and the claims
pub returns-then-not-each_at_most-2 : goal.returns-then-not-each_at_most-2
unfolding all_of late_money_in_order
returns-then-not-each_at_most-2 c =
    let a = c.args in
    let passed = sym c.owing_in_order.ensures ∙ c.if-not-owing_in_order.false in
    let few = (tiers_fitting _ _ _ passed).sound.few in
    let first = tiers_tested a.n a.to.now a.claims.now a.paid.now a.room c.owing_in_order.ensures c.min-2.ensures c.min.ensures in
    let claims = front_holds _ _ a.n c.front-claims.ensures in
    let paid = front_holds _ _ a.n c.front-paid.ensures in
    let owing = owing_holds a.n a.to.now c.over_tiers-owing.ensures c.front.ensures in
    let second = c.each_at_most.ensures ∙ each_tested _ _ a.n (omega (arith, few)) (omega (arith, few)) claims owing in
    let third = c.each_at_most-2.ensures ∙ each_tested _ _ a.n (omega (arith, few)) (omega (arith, few)) paid claims in
    simp (sym first ∙ c.if-not-owing_in_order.false, sym second ∙ c.if-not-each_at_most.false, sym third ∙ c.if-not-each_at_most-2.true)

pub total-requires : goal.total-requires
total-requires c =
    let a = c.args in
    let k = (tiers_fitting _ _ _ (sym c.owing_in_order.ensures ∙ c.if-not-owing_in_order.false)).sound in
    let claims = front_holds _ _ a.n c.front-claims.ensures in
    let owing = owing_holds a.n a.to.now c.over_tiers-owing.ensures c.front.ensures in
    let second = c.each_at_most.ensures ∙ each_tested _ _ a.n (omega (arith, k.few)) (omega (arith, k.few)) claims owing in
    let unpaid = unpaid_sum a.n a.claims.now a.paid.now c.excesses.ensures c.front-paid.ensures c.front-claims.ensures in
    (k.few, rw unpaid (omega (arith, k.total, each_excess (row_of a.claims.now) (owing_of a.to.now) (row_of a.paid.now) a.n (sym second ∙ c.if-not-each_at_most.false))))

pub returns : goal.returns
unfolding all_of late_money_in_order
returns c =
    let a = c.args in
    let passed = sym c.owing_in_order.ensures ∙ c.if-not-owing_in_order.false in
    let few = (tiers_fitting _ _ _ passed).sound.few in
    let first = tiers_tested a.n a.to.now a.claims.now a.paid.now a.room c.owing_in_order.ensures c.min-2.ensures c.min.ensures in
    let claims = front_holds _ _ a.n c.front-claims.ensures in
    let paid = front_holds _ _ a.n c.front-paid.ensures in
    let owing = owing_holds a.n a.to.now c.over_tiers-owing.ensures c.front.ensures in
    let second = c.each_at_most.ensures ∙ each_tested _ _ a.n (omega (arith, few)) (omega (arith, few)) claims owing in
    let third = c.each_at_most-2.ensures ∙ each_tested _ _ a.n (omega (arith, few)) (omega (arith, few)) paid claims in
    let unpaid = unpaid_sum a.n a.claims.now a.paid.now c.excesses.ensures c.front-paid.ensures c.front-claims.ensures in
    simp (sym first ∙ c.if-not-owing_in_order.false, sym second ∙ c.if-not-each_at_most.false, sym third ∙ c.if-not-each_at_most-2.false)
    (rw (c.total.ensures, unpaid) (last_test _))
