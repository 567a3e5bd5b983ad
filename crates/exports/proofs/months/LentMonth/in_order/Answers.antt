use mathlib.Core.Path.{◌≡◌, sym, ◌∙◌}
use mathlib.Core.List.{List}
use Prim.Native.Nat.{ℕ, ◌+◌, ◌*◌, min}
use lib.Dec.{eqb}
use borrow.Author.Tests.{le-leb, lt-leb, eq-eqb, ne_eqb}
use Rattle.exact.specs.Rows.{at, sum}
use Rattle.settlement.specs.Month.{tiers, side_limit}
use Rattle.exports.specs.Slices.{row_of, owing_of}
use Rattle.exports.specs.Orders.{TiersSound, all_of, in_order}
use Rattle.exports.proofs.OrderLaws.{tiers_fitting, totals_tested, last_test}
use Rattle.exports.proofs.months.LentMonth.in_order.Goals as goal
use Rattle.exports.proofs.months.LentMonth.in_order.Goals.{then-not-owing_in_order-via-then-not-owing_in_order, then-not-owing_in_order-via-else-not-owing_in_order+then-self-lt-PLACES, then-not-owing_in_order-via-else-not-owing_in_order+else-self-lt-PLACES+then-side_total}

-- the third test is of the two sides' totals
totals : (n : ℕ) (by to : List ℕ) (by_total to_total : ℕ) → TiersSound n to → by_total ≡ min (sum (at by) n) (side_limit + 1)
    → to_total ≡ min (sum (at to) (tiers * n)) (side_limit + 1) → eqb by_total to_total ≡ eqb (sum (row_of by) n) (sum (owing_of to) n)
totals n by to by_total to_total s b t = rw (b, t) (totals_tested n by to s)

pub returns-then-not-owing_in_order : goal.returns-then-not-owing_in_order
unfolding all_of in_order
returns-then-not-owing_in_order c =
    elim c.then-not-owing_in_order.branch [
      | then-not-owing_in_order-via-then-not-owing_in_order w ↦ simp (sym c.owing_in_order.ensures ∙ w.if-not-owing_in_order.true)
      | then-not-owing_in_order-via-else-not-owing_in_order+then-self-lt-PLACES w ↦ simp (sym c.owing_in_order.ensures ∙ w.if-not-owing_in_order.false, lt-leb _ _ w.if-self-lt-PLACES.true)
      | then-not-owing_in_order-via-else-not-owing_in_order+else-self-lt-PLACES+then-side_total w ↦
          let passed = sym c.owing_in_order.ensures ∙ w.if-not-owing_in_order.false in
          let third = totals _ _ _ _ _ (tiers_fitting _ _ _ passed).sound w.side_total.ensures w.side_total-else-self-lt-PLACES.ensures in
          simp (passed, le-leb _ _ w.if-self-lt-PLACES.false, sym third ∙ ne_eqb _ _ w.if-side_total.true)
    ]

pub returns : goal.returns
unfolding all_of in_order
returns c =
    let passed = sym c.owing_in_order.ensures ∙ c.if-not-owing_in_order.false in
    let third = totals _ _ _ _ _ (tiers_fitting _ _ _ passed).sound c.side_total.ensures c.side_total-else-self-lt-PLACES.ensures in
    simp (passed, le-leb _ _ c.if-self-lt-PLACES.false, sym third ∙ eq-eqb _ _ c.if-side_total.false)
    (c.groups_in_order.ensures ∙ last_test _)
