-- Laws of the order of remainders: no two have the same rank, so that c cents find c owners; and whom a cut divides.
use mathlib.Core.Path.{◌≡◌, refl, sym, ap, ◌∙◌}
use mathlib.Core.Logic.{◌⊎◌, inl, inr, ⊎_elim}
use mathlib.Core.Bool.{cond}
use Prim.Native.Nat.{ℕ, zero, suc, ◌+◌, ◌-◌, ◌≤◌, ◌<◌, min}
use native.Mathlib.Omega.{arith}
use borrow.Author.Tests.{lt-ltb, le-ltb, eq-eqb, ne_eqb, le-leb, lt-leb}
use lib.Dec.{ltb, eqb, leb}
use Rattle.exact.specs.Rows.{sum}
use Rattle.exact.proofs.Cases.{cases, cases_le, cases_eq, le_or_lt, eq_or_ne}
use Rattle.exact.proofs.RowLaws.{sum_none, sum_suc, sum_cong, sum_mono, sum_add, sum_const, sum_zero, sum_tail, sum_same_or_less}
use Rattle.settlement.specs.Sharing.{before, rank, leftover_cent}
use Rattle.settlement.specs.inner.Cuts.{count_from, CutBetween}

-- 1 where a is below b, else 0
below_is : (a b : ℕ) → cond (ltb a b) 1 0 ≡ min 1 (b - a)
below_is a b =
    ⊎_elim (λ (h : b ≤ a). rw (le-ltb a b h) (omega arith)) (λ (h : a < b). rw (lt-ltb a b h) (omega arith)) (le_or_lt b a)

-- a strict order: of two one comes before the other, and who comes before one comes before those after it
module _ (rest : ℕ → ℕ) where
  before_larger : (i j : ℕ) → rest i < rest j → before rest i j ≡ 1
  unfolding before
  before_larger i j h = rw (lt-ltb (rest i) (rest j) h)

  before_smaller : (i j : ℕ) → rest j < rest i → before rest i j ≡ 0
  unfolding before
  before_smaller i j h = rw (le-ltb (rest i) (rest j) (omega arith), ne_eqb (rest i) (rest j) (λ e. omega arith))

  before_equal : (i j : ℕ) → rest i ≡ rest j → before rest i j ≡ cond (ltb j i) 1 0
  unfolding before
  before_equal i j e = rw (le-ltb (rest i) (rest j) (omega arith), eq-eqb (rest i) (rest j) e)

  before_cases : (i j : ℕ) → ((before rest i j ≡ 1) × (rest i < rest j + min 1 (i - j))) ⊎ ((before rest i j ≡ 0) × (rest j + min 1 (i - j) ≤ rest i))
  before_cases i j =
      ⊎_elim
      (λ (l : rest j ≤ rest i).
      ⊎_elim
      (λ (e : rest i ≡ rest j).
      ⊎_elim (λ (h : i ≤ j). inr (omega (arith, before_equal i j e, below_is j i), omega arith))
      (λ (h : j < i). inl (omega (arith, before_equal i j e, below_is j i), omega arith))
      (le_or_lt i j))
      (λ (ne : rest i ≡ rest j → ⊥). inr (before_smaller i j (omega arith), omega arith))
      (eq_or_ne (rest i) (rest j)))
      (λ (l : rest i < rest j). inl (before_larger i j l, omega arith))
      (le_or_lt (rest j) (rest i))

  before_self : (i : ℕ) → before rest i i ≡ 0
  before_self i = ⊎_elim (λ u. absurd (omega (arith, u.1))) (λ u. u.0) (before_cases i i)

  before_either : (i j : ℕ) → i < j → before rest i j + before rest j i ≡ 1
  before_either i j h =
      ⊎_elim
      (λ u. ⊎_elim (λ v. absurd (omega (arith, u.1, v.1))) (λ v. omega (arith, u.0, v.0)) (before_cases j i))
      (λ u. ⊎_elim (λ v. omega (arith, u.0, v.0)) (λ v. absurd (omega (arith, u.1, v.1))) (before_cases j i))
      (before_cases i j)

  before_through : (i j k : ℕ) → before rest i j ≡ 1 → before rest j k ≤ before rest i k
  before_through i j k h =
      ⊎_elim
      (λ t.
      ⊎_elim
      (λ u. ⊎_elim (λ v. omega (arith, u.0, v.0)) (λ v. absurd (omega (arith, t.1, u.1, v.1))) (before_cases i k))
      (λ u. omega (arith, u.0))
      (before_cases j k))
      (λ t. absurd (omega (arith, t.0)))
      (before_cases i j)

  rank_suc : (n i : ℕ) → rank rest (suc n) i ≡ rank rest n i + before rest i n
  unfolding rank
  rank_suc n i = sum_suc (before rest i) n

  rank_le : (n i : ℕ) → rank rest n i ≤ n
  unfolding rank
  rank_le n i = omega (
    arith,
    sum_mono (before rest i) (λ _. 1) n (λ j _. ⊎_elim (λ u. omega (arith, u.0)) (λ u. omega (arith, u.0)) (before_cases i j)),
    sum_const 1 n,
  )

  -- of n participants, those after the next one have its rank or a higher one, and those before it a lower one
  rank_after : (n i : ℕ) → before rest i n ≡ 1 → rank rest n n ≤ rank rest n i
  unfolding rank
  rank_after n i h = sum_mono (before rest n) (before rest i) n (λ j _. before_through i n j h)

  rank_before : (n i : ℕ) → i < n → before rest i n ≡ 0 → rank rest n i < rank rest n n
  unfolding rank
  rank_before n i l h =
      ⊎_elim
      (λ (e : (k : ℕ) → k < n → before rest i k ≡ before rest n k). absurd (omega (arith, e i l, before_self i, before_either i n l)))
      (λ (s : sum (before rest i) n < sum (before rest n) n). s)
      (sum_same_or_less (before rest i) (before rest n) n (λ k _. before_through n i k (omega (arith, before_either i n l))))

  pub cent_is : (n c i : ℕ) → leftover_cent rest n c i ≡ min 1 (c - rank rest n i)
  unfolding leftover_cent
  cent_is n c i = below_is (rank rest n i) c

  -- c cents, not more than there are participants, find c owners
  pub cents_total : (n c : ℕ) → c ≤ n → sum (leftover_cent rest n c) n ≡ c
  cents_total zero c h = omega (arith, sum_none (leftover_cent rest 0 c))
  cents_total (suc n) c h =
      let own : rank rest (suc n) n ≡ rank rest n n = omega (arith, rank_suc n n, before_self n) in
      let all = sum_suc (leftover_cent rest (suc n) c) n in
      ⊎_elim
      (λ (l : c ≤ rank rest n n).
      let same = sum_cong (leftover_cent rest (suc n) c) (leftover_cent rest n c) n (λ i b.
      ⊎_elim (λ t. omega (arith, t.0, rank_suc n i, rank_after n i t.0, cent_is (suc n) c i, cent_is n c i))
      (λ t. omega (arith, t.0, rank_suc n i, cent_is (suc n) c i, cent_is n c i))
      (before_cases i n)) in
      omega (arith, all, own, same, cents_total n c (omega (arith, rank_le n n)), cent_is (suc n) c n))
      (λ (l : rank rest n n < c).
      let same = sum_cong (leftover_cent rest (suc n) c) (leftover_cent rest n (c - 1)) n (λ i b.
      ⊎_elim (λ t. omega (arith, t.0, rank_suc n i, cent_is (suc n) c i, cent_is n (c - 1) i))
      (λ t. omega (arith, t.0, rank_suc n i, rank_before n i b t.0, cent_is (suc n) c i, cent_is n (c - 1) i))
      (before_cases i n)) in
      omega (arith, all, own, same, cents_total n (c - 1) (omega arith), cent_is (suc n) c n))
      (le_or_lt c (rank rest n n))

-- ranks and cents go by the remainders below n
pub cent_cong : (rest other : ℕ → ℕ) (n c : ℕ) → ((i : ℕ) → i < n → rest i ≡ other i) → (i : ℕ) → i < n → leftover_cent rest n c i ≡ leftover_cent other n c i
unfolding leftover_cent rank before
cent_cong rest other n c same i h = ap (λ (r : ℕ). cond (ltb r c) 1 0) (sum_cong _ _ n (λ j l. rw (same i h, same j l)))

-- 1 where j has just the remainder t
abbrev pub equals : (ℕ → ℕ) → ℕ → ℕ → ℕ
equals rest t j = cond (eqb (rest j) t) 1 0

-- a cut among the remainders of n participants
module _ (rest : ℕ → ℕ) (n : ℕ) where
  abbrev from : ℕ → ℕ → ℕ
  from t j = cond (leb t (rest j)) 1 0

  from_cases : (t j : ℕ) → ((from t j ≡ 1) × (t ≤ rest j)) ⊎ ((from t j ≡ 0) × (rest j < t))
  from_cases t j =
      ⊎_elim (λ (h : t ≤ rest j). inl (rw (le-leb t (rest j) h), h)) (λ (h : rest j < t). inr (rw (lt-leb t (rest j) h), h)) (le_or_lt t (rest j))

  pub count_le : (t : ℕ) → count_from rest n t ≤ n
  unfolding count_from
  count_le t = omega (
    arith,
    sum_mono (from t) (λ _. 1) n (λ j _. ⊎_elim (λ u. omega (arith, u.0)) (λ u. omega (arith, u.0)) (from_cases t j)),
    sum_const 1 n,
  )

  pub count_all : count_from rest n 0 ≡ n
  unfolding count_from
  count_all = sum_cong (from 0) (λ _. 1) n (λ j _. rw (le-leb 0 (rest j) (omega arith))) ∙ omega (arith, sum_const 1 n)

  pub count_past : (t : ℕ) → ((j : ℕ) → j < n → rest j < t) → count_from rest n t ≡ 0
  unfolding count_from
  count_past t h = sum_zero (from t) n (λ j l. rw (lt-leb t (rest j) (h j l)))

  pub count_mono : (s t : ℕ) → s ≤ t → count_from rest n t ≤ count_from rest n s
  unfolding count_from
  count_mono s t h =
      sum_mono (from t) (from s) n (λ j _.
      ⊎_elim (λ u. ⊎_elim (λ v. omega (arith, u.0, v.0)) (λ v. absurd (omega (arith, u.1, v.1))) (from_cases s j)) (λ u. omega (arith, u.0)) (from_cases t j))

  -- from t on fewer come before one than there are
  rank_within : (t i : ℕ) → i < n → t ≤ rest i → rank rest n i < count_from rest n t
  unfolding rank count_from
  rank_within t i l h =
      ⊎_elim
      (λ (e : (j : ℕ) → j < n → before rest i j ≡ from t j).
      absurd (⊎_elim (λ u. omega (arith, e i l, before_self rest i, u.0)) (λ u. omega (arith, u.1)) (from_cases t i)))
      (λ (s : sum (before rest i) n < sum (from t) n). s)
      (sum_same_or_less (before rest i) (from t) n (λ j _.
      ⊎_elim (λ u. ⊎_elim (λ v. omega (arith, u.0, v.0)) (λ v. absurd (omega (arith, u.1, v.1))) (from_cases t j)) (λ u. omega (arith, u.0)) (before_cases rest i j)))

  -- below t all of them come before one
  pub rank_past : (t i : ℕ) → rest i < t → count_from rest n t ≤ rank rest n i
  unfolding rank count_from
  rank_past t i h =
      sum_mono (from t) (before rest i) n (λ j _.
      ⊎_elim (λ u. ⊎_elim (λ v. omega (arith, u.0, v.0)) (λ v. absurd (omega (arith, u.1, v.1))) (before_cases rest i j)) (λ u. omega (arith, u.0)) (from_cases t j))

  -- 1 where j has the remainder of i and comes before it
  unfoldable tied : ℕ → ℕ → ℕ
  tied i j = cond (ltb j i) (equals rest (rest i) j) 0

  tied_total : (i : ℕ) → i ≤ n → sum (tied i) n ≡ sum (equals rest (rest i)) i
  unfolding tied
  tied_total i l =
      sum_tail (tied i) i n l (λ j a _. rw (le-ltb j i a))
      ∙ sum_cong (tied i) (equals rest (rest i)) i (λ j a. rw (lt-ltb j i a))

  before_tied : (i j : ℕ) → before rest i j ≡ from (rest i + 1) j + tied i j
  unfolding tied
  before_tied i j =
      let none : cond {A = ℕ} (ltb j i) 0 0 ≡ 0 = cases (λ (z : ℕ). z ≡ 0) (ltb j i) (λ _. refl) (λ _. refl) in
      ⊎_elim
      (λ (l : rest j ≤ rest i). rw (lt-leb (rest i + 1) (rest j) (omega arith))
      (⊎_elim
      (λ (e : rest i ≡ rest j). rw (before_equal rest i j e, eq-eqb (rest j) (rest i) (sym e)) (omega arith))
      (λ (ne : rest i ≡ rest j → ⊥). rw (before_smaller rest i j (omega arith), ne_eqb (rest j) (rest i) (λ e. ne (sym e))) (omega (arith, none)))
      (eq_or_ne (rest i) (rest j))))
      (λ (l : rest i < rest j). rw (before_larger rest i j l, le-leb (rest i + 1) (rest j) (omega arith), ne_eqb (rest j) (rest i) (λ e. omega arith)) (omega (arith, none)))
      (le_or_lt (rest j) (rest i))

  rank_tied : (i : ℕ) → i ≤ n → rank rest n i ≡ count_from rest n (rest i + 1) + sum (equals rest (rest i)) i
  unfolding rank count_from
  rank_tied i l = omega (
    arith,
    sum_cong (before rest i) (λ j. from (rest i + 1) j + tied i j) n (λ j _. before_tied i j),
    sum_add (from (rest i + 1)) (tied i) n,
    tied_total i l,
  )

  -- at the cut between `least` and the remainder just below it: from `least` on each gets a cent, and of those just below the first
  -- get the cents that are spare
  pub cut_cent : (leftover least i : ℕ) → CutBetween rest n leftover (least - 1) least → i < n
      → leftover_cent rest n leftover i
      ≡ cond (leb least (rest i)) 1 (cond (eqb (rest i) (least - 1)) (min 1 (leftover - count_from rest n least - sum (equals rest (least - 1)) i)) 0)
  cut_cent leftover least i c l =
      let is = cent_is rest n leftover i in
      cases_le (λ z. leftover_cent rest n leftover i ≡ z) least (rest i)
      (λ h. omega (arith, is, c.few, rank_within least i l h))
      (λ h. cases_eq (λ z. leftover_cent rest n leftover i ≡ z) (rest i) (least - 1)
      (λ e.
      let s : rest i + 1 ≡ least = omega (arith, c.apart) in
      omega (arith, is, c.few, rank_tied i (omega arith), ap (count_from rest n) s, ap (λ (t : ℕ). sum (equals rest t) i) e))
      (λ ne. omega (arith, is, c.enough, rank_past (least - 1) i (omega arith))))
