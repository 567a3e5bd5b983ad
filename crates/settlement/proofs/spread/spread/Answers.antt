-- `Running` says where the rounds stand; each way out of the loop and each turn of it is one of its laws.
use Prim.Native.Nat.{ℕ, ◌-◌, ◌<◌}
use mathlib.Core.Path.{◌≡◌, refl, sym, ◌∙◌}
use mathlib.Core.List.{List}
use native.Mathlib.Nat.{pos_of_ne-zero}
use native.Mathlib.Omega.{arith}
use Rattle.exact.specs.Rows.{at, sum, cells}
use Rattle.exact.proofs.RowLaws.{cells_again, cells_both, holds, holds_own, sum_holds, sum_mono}
use Rattle.settlement.specs.Rounds.{negatives_at_zero, loss, spread}
use Rattle.settlement.proofs.LossLaws.{loss_le}
use Rattle.settlement.proofs.RoundLaws.{Alike, holds_alike, spread_alike}
use Rattle.settlement.proofs.Running.{backing_held, running_start, running_bound, running_backing, running_done, running_spent, running_less, running_step}
use Rattle.settlement.proofs.spread.spread.Goals as goal

-- what the rounds make of the array that (a) left, they make of the amounts themselves
start_alike : (n : ℕ) (v above below : ℕ → ℕ) {balances : List ℕ} {negative : ℕ} → balances ≡ cells (negatives_at_zero above below) n → negative ≡ sum below n
    → Alike n (spread n v (at balances) negative) (spread n v (negatives_at_zero above below) (sum below n))
start_alike n v above below b e = rw e (spread_alike n _ _ (λ _ _. refl) _ _ _ (holds _ _ b).reads)

-- a round that runs has a W above 0
weight_some : {positive w : ℕ} → positive ≡ w → (positive ≡ 0 → ⊥) → 0 < w
weight_some e h = pos_of_ne-zero (λ z. h (e ∙ z))

pub negatives_at_zero-balances-requires : goal.negatives_at_zero-balances-requires
negatives_at_zero-balances-requires c = c.requires.few

pub total-negative-requires : goal.total-negative-requires
total-negative-requires c = (c.requires.few, omega (arith, c.requires.deficit_bound))

pub total_of_positive-positive-requires : goal.total_of_positive-positive-requires
total_of_positive-positive-requires c = (c.requires.few, omega (arith, c.requires.revised_total))

pub loop-negative-init : goal.loop-negative-init
loop-negative-init c =
    let row = c.negatives_at_zero-balances.ensures in
    (running_start _ _ _ _ _ (rw row (cells_again _ _)) (rw c.total-negative.ensures (backing_held row c.requires)), omega (arith, c.total_of_positive-positive.ensures))

pub losses-lost-requires : goal.losses-lost-requires
losses-lost-requires c = let i = c.loop-negative.invariant in (running_backing _ _ _ _ i.0, i.1)

pub excesses-left-requires : goal.excesses-left-requires
excesses-left-requires c = c.loop-negative.invariant.0.backing.few

pub total-requires : goal.total-requires
total-requires c =
    let l = c.loop-negative in
    let x = c.args in (
      l.invariant.0.backing.few,
      omega (arith, sum_holds (holds _ _ c.losses-lost.ensures), running_bound _ _ _ _ l.invariant.0, sum_mono (loss x.n (at x.revised) (at l.balances) l.negative) (at l.balances) x.n (λ i _. loss_le x.n (at x.revised) (at l.balances) l.negative i)),
    )

pub total_of_positive-positive-requires-in-loop-negative : goal.total_of_positive-positive-requires-in-loop-negative
total_of_positive-positive-requires-in-loop-negative c = let b = c.loop-negative.invariant.0.backing in (b.few, omega (arith, b.revised_total))

pub overflow_add-count : goal.overflow_add-count
overflow_add-count c =
    let i = c.loop-negative.invariant in
    omega (arith, running_less _ _ _ _ i.0 (pos_of_ne-zero c.if-negative-eq0.false) (weight_some i.1 c.if-positive-eq0.false))

pub loop-negative-smaller : goal.loop-negative-smaller
loop-negative-smaller c =
    let i = c.loop-negative.invariant in
    omega (arith, running_less _ _ _ _ i.0 (pos_of_ne-zero c.if-negative-eq0.false) (weight_some i.1 c.if-positive-eq0.false))

pub loop-negative-preserved : goal.loop-negative-preserved
loop-negative-preserved c =
    let l = c.loop-negative in
    let lost = holds _ _ c.losses-lost.ensures in
    let left = c.excesses-left.ensures ∙ cells_both ◌-◌ (holds_own l.balances _) lost in (
      rw (left, c.saturating_sub-negative.ensures, c.total.ensures, sum_holds lost)
          (running_step _ _ _ _ l.invariant.0 (pos_of_ne-zero c.if-negative-eq0.false) (weight_some l.invariant.1 c.if-positive-eq0.false)),
      omega (arith, c.total_of_positive-positive-in-loop-negative.ensures),
    )

pub returns-then-negative-eq0 : goal.returns-then-negative-eq0
returns-then-negative-eq0 c =
    holds_alike (start_alike _ _ _ _ c.negatives_at_zero-balances.ensures c.total-negative.ensures) (running_done _ _ _ _ c.loop-negative.invariant.0 c.if-negative-eq0.true)

pub returns-then-positive-eq0 : goal.returns-then-positive-eq0
returns-then-positive-eq0 c =
    let i = c.loop-negative.invariant in
    holds_alike (start_alike _ _ _ _ c.negatives_at_zero-balances.ensures c.total-negative.ensures) (running_spent _ _ _ _ i.0 (sym i.1 ∙ c.if-positive-eq0.true))
