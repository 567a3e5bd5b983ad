-- The order of participants matters only among equal remainders.
use mathlib.Core.Path.{◌≡◌, sym, ap, ◌∙◌}
use mathlib.Core.Bool.{cond}
use mathlib.Core.Logic.{⊎_elim}
use Prim.Native.Nat.{ℕ, ◌+◌, ◌-◌, ◌*◌, ◌/◌, ◌%◌, ◌<◌}
use borrow.Author.Tests.{eq-eqb, ne_eqb}
use lib.Dec.{eqb, ltb}
use Rattle.exact.specs.Rows.{sum}
use Rattle.exact.proofs.Cases.{eq_or_ne}
use Rattle.exact.proofs.RowLaws.{sum_cong, sum_single, sum_swap}
use Rattle.settlement.specs.Sharing.{before, rank, leftover_cent, floor_share, remainder, leftover, share_by_weight, Renumbering, OrderAmongEqualsAlone}

module _ (n : ℕ) (r : Renumbering n) where
  -- a term of each participant stands under its old number or under its new one
  same_term : (f : ℕ → ℕ) (j k : ℕ) → j < n → k < n → cond (eqb (r.from k) j) (f (r.from k)) 0 ≡ cond (eqb (r.to j) k) (f j) 0
  same_term f j k lj lk =
      ⊎_elim
      (λ (e : r.from k ≡ j). rw (eq-eqb (r.from k) j e, eq-eqb (r.to j) k (ap r.to (sym e) ∙ r.back k lk)) (ap f e))
      (λ (ne : r.from k ≡ j → ⊥). rw (ne_eqb (r.from k) j ne, ne_eqb (r.to j) k (λ q. ne (ap r.from (sym q) ∙ r.there j lj))))
      (eq_or_ne (r.from k) j)

  -- a sum is the same in every order
  renumbered_sum : (f : ℕ → ℕ) → sum (λ k. f (r.from k)) n ≡ sum f n
  renumbered_sum f =
      sum_cong _ _ n (λ k l. sym (sum_single (r.from k) (f (r.from k)) n (r.from_within k l)))
      ∙ sum_swap (λ j k. cond (eqb (r.from k) j) (f (r.from k)) 0) n n
      ∙ sum_cong _ _ n (λ j lj. sum_cong _ _ n (λ k lk. same_term f j k lj lk) ∙ sum_single (r.to j) (f j) n (r.to_within j lj))

  -- remainders under their new numbers, and one whose equals come before it, or after it, as they did
  module _ (rest : ℕ → ℕ) (i : ℕ) (member : i < n) (equals : (j : ℕ) → j < n → rest j ≡ rest i → ltb (r.to j) (r.to i) ≡ ltb j i) where
    same_before : (k : ℕ) → k < n → before (λ k. rest (r.from k)) (r.to i) k ≡ before rest i (r.from k)
    unfolding before
    same_before k l =
        rw (r.there i member)
        (⊎_elim
        (λ (e : rest i ≡ rest (r.from k)).
        let order : ltb k (r.to i) ≡ ltb (r.from k) i =
        ap (λ (j : ℕ). ltb j (r.to i)) (sym (r.back k l)) ∙ equals (r.from k) (r.from_within k l) (sym e) in
        rw (order))
        (λ (ne : rest i ≡ rest (r.from k) → ⊥). rw (ne_eqb (rest i) (rest (r.from k)) ne))
        (eq_or_ne (rest i) (rest (r.from k))))

    pub same_cent : (c : ℕ) → leftover_cent (λ k. rest (r.from k)) n c (r.to i) ≡ leftover_cent rest n c i
    unfolding leftover_cent rank
    same_cent c = ap (λ (k : ℕ). cond {A = ℕ} (ltb k c) 1 0) (sum_cong _ _ n same_before ∙ renumbered_sum (before rest i))

pub order_among_equals_alone : OrderAmongEqualsAlone
unfolding share_by_weight leftover floor_share remainder
order_among_equals_alone w amount total n r i member equals =
    rw (renumbered_sum n r (λ j. w j * amount / total), r.there i member)
    (ap (λ (c : ℕ). w i * amount / total + c) (same_cent n r (λ j. w j * amount % total) i member equals (amount - sum (λ j. w j * amount / total) n)))
