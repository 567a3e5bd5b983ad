-- The laws of sums, of the largest, and of arrays that hold a row.
use Prim.Native.Nat.{ℕ, zero, suc, ◌+◌, ◌*◌, ◌≤◌, ◌<◌, max}
use mathlib.Core.Path.{◌≡◌, refl, sym, ap, ap₂, ◌∙◌}
use mathlib.Core.Bool.{cond}
use mathlib.Core.Logic.{◌⊎◌, inl, inr, ⊎_elim}
use mathlib.Core.List.{List, [], ◌∷◌, ◌++◌, append_assoc}
use native.Mathlib.Omega.{arith}
use native.Mathlib.Nat.{eq-or-lt_of_le, le_of_suc-le-suc, not-suc-le-zero, suc_inj, max-le}
use native.Mathlib.Numerals.{add-one}
use lib.Dec.{eqb}
use lib.ListN.{get_or, take, drop, set, length, length-set, length-append, length-drop, length-replicate, get_or-append, get_or-eq_default, replicate, get_or-replicate}
use lib.Seq.{take-suc, drop-cons, drop_at, set_at, get_or_at, set-get_or, get_or-set_same, get_or-set_other, ext_get_or}
use Rattle.std.specs.List.{sum_by, fold}
use Rattle.std.proofs.lemmas.List.{drop_all, length-take}
use Rattle.std.proofs.lemmas.List.Sums.{sum_by_more, fold_more}
use Rattle.exact.proofs.Cases.{cases_eq, le_or_lt, eq_or_ne}
use Rattle.exact.specs.Rows.{places, at, sum, largest, table, filled, cells}

module _ (f : ℕ → ℕ) where
  pub sum_none : sum f 0 ≡ 0
  unfolding sum
  sum_none = refl

  pub sum_suc : (n : ℕ) → sum f (suc n) ≡ sum f n + f n
  unfolding sum
  sum_suc n = refl

  -- the same, as a loop counts
  pub sum_more : (n : ℕ) → sum f (n + 1) ≡ sum f n + f n
  sum_more n = rw (add-one n) (sum_suc n)

  -- a part of the terms sums to at most as much as all of them
  pub sum_part : (n m : ℕ) → n ≤ m → sum f n ≤ sum f m
  unfolding sum
  sum_part n zero h = rw (let e : n ≡ 0 = omega arith in e) (omega arith)
  sum_part n (suc m) h =
      ⊎_elim (λ e. rw e (omega arith))
      (λ (l : n < suc m). omega (arith, sum_part n m (omega arith)))
      (eq-or-lt_of_le h)

  pub sum_term : (n i : ℕ) → i < n → f i ≤ sum f n
  sum_term n i h = omega (arith, sum_more i, sum_part (i + 1) n (omega arith))

  pub sum_times : (c n : ℕ) → sum (λ i. f i * c) n ≡ sum f n * c
  unfolding sum
  sum_times c zero = omega arith
  sum_times c (suc n) = omega (arith, sum_times c n)

  -- a sum whose later terms are 0
  pub sum_tail : (k m : ℕ) → k ≤ m → ((i : ℕ) → k ≤ i → i < m → f i ≡ 0) → sum f m ≡ sum f k
  unfolding sum
  sum_tail k zero h z = let e : zero ≡ k = omega arith in ap (sum f) e
  sum_tail k (suc m) h z =
      ⊎_elim (λ e. ap (sum f) (sym e))
      (λ (l : k < suc m). omega (arith, z m (omega arith) (omega arith), sum_tail k m (omega arith) (λ i a b. z i a (omega arith))))
      (eq-or-lt_of_le h)

module _ (f g : ℕ → ℕ) where
  pub sum_cong : (n : ℕ) → ((i : ℕ) → i < n → f i ≡ g i) → sum f n ≡ sum g n
  unfolding sum
  sum_cong zero h = refl
  sum_cong (suc n) h = omega (arith, h n (omega arith), sum_cong n (λ i k. h i (omega arith)))

  pub sum_mono : (n : ℕ) → ((i : ℕ) → i < n → f i ≤ g i) → sum f n ≤ sum g n
  unfolding sum
  sum_mono zero h = omega arith
  sum_mono (suc n) h = omega (arith, h n (omega arith), sum_mono n (λ i k. h i (omega arith)))

  pub sum_add : (n : ℕ) → sum (λ i. f i + g i) n ≡ sum f n + sum g n
  unfolding sum
  sum_add zero = refl
  sum_add (suc n) = omega (arith, sum_add n)

  -- of two rows, one at most the other: they are equal, or the sum is smaller
  pub sum_same_or_less : (n : ℕ) → ((i : ℕ) → i < n → f i ≤ g i) → ((i : ℕ) → i < n → f i ≡ g i) ⊎ (sum f n < sum g n)
  unfolding sum
  sum_same_or_less zero h = inl (λ i k. omega arith)
  sum_same_or_less (suc n) h =
      go (sum_same_or_less n (λ i k. h i (omega arith))) (eq-or-lt_of_le (h n (omega arith)))
    where
      go : ((i : ℕ) → i < n → f i ≡ g i) ⊎ (sum f n < sum g n) → (f n ≡ g n) ⊎ (f n < g n)
          → ((i : ℕ) → i < suc n → f i ≡ g i) ⊎ (sum f n + f n < sum g n + g n)
      go (inl e) (inl q) = inl (λ i k.
          ⊎_elim (λ p. ap f (suc_inj p) ∙ q ∙ sym (ap g (suc_inj p))) (λ l. e i (omega arith)) (eq-or-lt_of_le k))
      go (inl e) (inr q) = inr (omega (arith, sum_cong n e))
      go (inr l) q = inr (omega (arith, l, h n (omega arith)))

pub sum_const : (c n : ℕ) → sum (λ i. c) n ≡ n * c
unfolding sum
sum_const c zero = omega arith
sum_const c (suc n) = omega (arith, sum_const c n)

pub sum_zero : (f : ℕ → ℕ) (n : ℕ) → ((i : ℕ) → i < n → f i ≡ 0) → sum f n ≡ 0
sum_zero f n h = sum_cong f (λ i. 0) n h ∙ omega (arith, sum_const 0 n)

-- a sum in which one term alone is not 0
pub sum_single : (i c n : ℕ) → i < n → sum (λ j. cond (eqb i j) c 0) n ≡ c
unfolding sum
sum_single i c zero h = absurd (not-suc-le-zero h)
sum_single i c (suc n) h =
    cases_eq (λ z. sum (λ j. cond (eqb i j) c 0) n + z ≡ c) i n
    (λ e. omega (arith, sum_zero (λ j. cond (eqb i j) c 0) n (λ j l. cases_eq (λ z. z ≡ 0) i j (λ q. absurd (omega arith)) (λ _. refl))))
    (λ ne. omega (arith, sum_single i c n (omega arith)))

-- sums over two indices in either order
pub sum_swap : (f : ℕ → ℕ → ℕ) (n k : ℕ) → sum (λ i. sum (λ t. f t i) k) n ≡ sum (λ t. sum (f t) n) k
unfolding sum
sum_swap f n zero = omega (arith, sum_const 0 n)
sum_swap f n (suc k) = omega (arith, sum_add (λ i. sum (λ t. f t i) k) (f k) n, sum_swap f n k)

module _ (f : ℕ → ℕ) where
  pub largest_le : (c n : ℕ) → ((i : ℕ) → i < n → f i ≤ c) → largest f n ≤ c
  unfolding largest
  largest_le c zero h = omega arith
  largest_le c (suc n) h = max-le (largest_le c n (λ i k. h i (omega arith))) (h n (omega arith))

  pub largest_term : (n i : ℕ) → i < n → f i ≤ largest f n
  unfolding largest
  largest_term zero i h = absurd (not-suc-le-zero h)
  largest_term (suc n) i h =
      ⊎_elim (λ (e : i ≡ n). rw e (omega arith))
      (λ (l : i < n). omega (arith, largest_term n i l))
      (eq-or-lt_of_le (le_of_suc-le-suc h))

  pub largest_cong : (g : ℕ → ℕ) (n : ℕ) → ((i : ℕ) → i < n → f i ≡ g i) → largest f n ≡ largest g n
  unfolding largest
  largest_cong g zero h = refl
  largest_cong g (suc n) h = rw (largest_cong g n (λ k l. h k (omega arith)), h n (omega arith))

module _ {A : Type 0} (f : ℕ → A) where
  table_length : (n : ℕ) → length (table f n) ≡ n
  unfolding table
  table_length zero = refl
  table_length (suc n) = length-append (table f n) (f n ∷ []) ∙ rw (table_length n) (add-one n)

  table_at : (n i : ℕ) (d : A) → i < n → get_or (table f n) i d ≡ f i
  unfolding table
  table_at zero i d h = absurd (not-suc-le-zero h)
  table_at (suc n) i d h =
      ⊎_elim (λ (e : i ≡ n). rw e (get_or_at (table f n) (f n) [] d n (table_length n)))
      (λ (l : i < n). get_or-append (table f n) (f n ∷ []) d i (rw table_length l) ∙ table_at n i d l)
      (eq-or-lt_of_le (le_of_suc-le-suc h))

  table_cong : (g : ℕ → A) (n : ℕ) → ((i : ℕ) → i < n → f i ≡ g i) → table f n ≡ table g n
  unfolding table
  table_cong g zero h = refl
  table_cong g (suc n) h = rw (table_cong g n (λ k l. h k (omega arith)), h n (omega arith))

  -- before the first turn of a loop that fills a list, and a turn of it; z is any element
  pub filled_none : (d : List A) → d ≡ filled f 0 d
  unfolding table filled
  filled_none d = refl

  pub filled_more : (z : A) (n : ℕ) (d : List A) → n < length d → set (filled f n d) n (f n) ≡ filled f (n + 1) d
  unfolding table filled
  filled_more z n d h =
      rw (add-one, drop-cons d n z h)
      (set_at (table f n) (get_or d n z) (drop (suc n) d) (f n) n (table_length n) ∙ sym (append_assoc (table f n) (f n ∷ []) (drop (suc n) d)))

  pub filled_length : (n : ℕ) (d : List A) → n ≤ length d → length (filled f n d) ≡ length d
  unfolding filled
  filled_length n d h = omega (arith, length-append (table f n) (drop n d), table_length n, length-drop n d)

  -- filled in its first places apart from the others
  pub filled_take : (n : ℕ) (d : List A) → n ≤ length d → filled f n (take n d) ++ drop n d ≡ filled f n d
  unfolding filled
  filled_take n d h = rw (let e : drop n (take n d) ≡ [] = drop_all n (take n d) (omega (arith, length-take n d)) in e) (append_assoc (table f n) [] (drop n d))

  pub filled_at : (n i : ℕ) (d : List A) (z : A) → i < n → get_or (filled f n d) i z ≡ f i
  unfolding filled
  filled_at n i d z h =
      get_or-append (table f n) (drop n d) z i (rw table_length h) ∙ table_at n i z h

  -- what a list has already may be put into it again
  filled_same : (z : A) (n : ℕ) (d : List A) → n ≤ length d → ((i : ℕ) → i < n → f i ≡ get_or d i z) → filled f n d ≡ d
  filled_same z zero d h e = sym (filled_none d)
  filled_same z (suc n) d h e =
      rw (add-one n) at (sym (filled_more z n d h))
      ∙ rw (filled_same z n d (omega arith) (λ i k. e i (omega arith)), e n (omega arith)) (set-get_or d n z)

  -- the places from n on stay, and only they count
  pub filled_drop : (n : ℕ) (d : List A) → drop n (filled f n d) ≡ drop n d
  unfolding filled
  filled_drop n d = drop_at (table f n) (drop n d) n (table_length n)

  pub filled_over : (n : ℕ) (d e : List A) → drop n d ≡ drop n e → filled f n d ≡ filled f n e
  unfolding filled
  filled_over n d e h = ap (λ (l : List A). table f n ++ l) h

  -- filled twice is filled once
  pub filled_again : (n : ℕ) (d : List A) → filled f n (filled f n d) ≡ filled f n d
  filled_again n d = filled_over n (filled f n d) d (filled_drop n d)

  pub filled_cong : (g : ℕ → A) (n : ℕ) (d : List A) → ((i : ℕ) → i < n → f i ≡ g i) → filled f n d ≡ filled g n d
  unfolding filled
  filled_cong g n d h = ap (λ (l : List A). l ++ drop n d) (table_cong g n h)

-- a list all of whose places are filled from another has the front of that one
pub table_take : (s : List ℕ) (n : ℕ) → n ≤ length s → table (at s) n ≡ take n s
unfolding table
table_take s zero h = refl
table_take s (suc n) h = rw (table_take s n (omega arith)) (sym (take-suc s n 0 h))

-- a list that is filled from another has the front of that one, and its own places behind it
pub filled_from : (s d : List ℕ) (n : ℕ) → n ≤ length s → filled (at s) n d ≡ take n s ++ drop n d
unfolding filled
filled_from s d n h = ap (λ (l : List ℕ). l ++ drop n d) (table_take s n h)

-- the sum of f, and the largest, over the front of a list, as a chain reckons them; d is any element
module _ {X : Type 0} (f : X → ℕ) (s : List X) (d : X) where
  pub sum_taken : (n : ℕ) → n ≤ length s → sum_by f (take n s) ≡ sum (λ i. f (get_or s i d)) n
  unfolding sum
  sum_taken zero h = refl
  sum_taken (suc n) h = rw (← add-one n) (omega (arith, sum_by_more f s n d (omega arith), sum_taken n (omega arith)))

  pub largest_taken : (n : ℕ) → n ≤ length s → fold (λ m x. max m (f x)) 0 (take n s) ≡ largest (λ i. f (get_or s i d)) n
  unfolding largest
  largest_taken zero h = refl
  largest_taken (suc n) h = rw (← add-one n, fold_more (λ (m : ℕ) (x : X). max m (f x)) 0 s n d (omega arith), largest_taken n (omega arith))

-- an array of zeros has 0 at every place, and past its end
pub zero_at : (k i : ℕ) → at (replicate k 0) i ≡ 0
zero_at k i =
    ⊎_elim
    (λ h. get_or-eq_default (replicate k 0) 0 (omega (arith, length-replicate {A = ℕ} k 0)))
    (λ h. get_or-replicate {A = ℕ} k i 0 0 h)
    (le_or_lt k i)

module _ (f : ℕ → ℕ) where
  -- a row's array is one of zeros that was filled
  pub filled_cells : (n : ℕ) → filled f n (replicate places 0) ≡ cells f n
  unfolding cells
  filled_cells n = refl

  -- it is filled cell by cell
  pub cells_none : replicate places 0 ≡ cells f 0
  unfolding cells
  cells_none = filled_none f (replicate places 0)

  pub cells_more : (n : ℕ) → n < places → set (cells f n) n (f n) ≡ cells f (n + 1)
  unfolding cells
  cells_more n h = filled_more f 0 n (replicate places 0) h

  pub cells_length : (n : ℕ) → n ≤ places → length (cells f n) ≡ places
  unfolding cells
  cells_length n h = filled_length f n (replicate places 0) h

  pub cells_at : (n i : ℕ) → i < n → at (cells f n) i ≡ f i
  unfolding cells
  cells_at n i h = filled_at f n i (replicate places 0) 0 h

  pub cells_cong : (g : ℕ → ℕ) (n : ℕ) → ((i : ℕ) → i < n → f i ≡ g i) → cells f n ≡ cells g n
  unfolding cells
  cells_cong g n h = filled_cong f g n (replicate places 0) h

  -- a row that was put into an array is read as it was
  pub cells_again : (n : ℕ) → cells f n ≡ cells (at (cells f n)) n
  cells_again n = cells_cong (at (cells f n)) n (λ i h. sym (cells_at n i h))

  -- a row of zeros
  pub cells_zero : (n : ℕ) → n ≤ places → ((i : ℕ) → i < n → f i ≡ 0) → replicate places 0 ≡ cells f n
  unfolding cells
  cells_zero n h z =
      sym (filled_same f 0 n (replicate places 0) h (λ i k. z i k ∙ sym (get_or-replicate {A = ℕ} places i 0 0 (omega arith))))

-- one cell of a whole array is set, and the row that it then holds differs there alone
pub cells_set : (f g : ℕ → ℕ) (j : ℕ) → j < places → ((i : ℕ) → (i ≡ j → ⊥) → f i ≡ g i) → set (cells f places) j (g j) ≡ cells g places
cells_set f g j h same =
    let sized : length (cells f places) ≡ places = cells_length f places (omega arith) in
    ext_get_or 0 (set (cells f places) j (g j)) (cells g places) (simp length-set (sized ∙ sym (cells_length g places (omega arith))))
    (λ i l.
    let k : i < places = omega (arith, length-set (cells f places) j (g j)) in
    ⊎_elim
    (λ (e : i ≡ j). rw e (get_or-set_same (cells f places) j (g j) 0 (omega arith) ∙ sym (cells_at g places j h)))
    (λ ne. get_or-set_other (cells f places) j i (g j) 0 ne ∙ cells_at f places i k ∙ same i ne ∙ sym (cells_at g places i k))
    (eq_or_ne i j))

-- the array a holds the row f below n
pub record Holds (a : List ℕ) (f : ℕ → ℕ) (n : ℕ) : Type 0 where
  pub reads : (i : ℕ) → i < n → at a i ≡ f i

pub holds : {a : List ℕ} (f : ℕ → ℕ) (n : ℕ) → a ≡ cells f n → Holds a f n
holds f n e = record { reads = λ i h. rw e (cells_at f n i h) }

pub holds_own : (a : List ℕ) (n : ℕ) → Holds a (at a) n
holds_own a n = record { reads = λ _ _. refl }

-- a row that is reckoned cell by cell from two arrays is reckoned from the rows that they hold
pub cells_both : (op : ℕ → ℕ → ℕ) {a b : List ℕ} {f g : ℕ → ℕ} {n : ℕ} → Holds a f n → Holds b g n
    → cells (λ i. op (at a i) (at b i)) n ≡ cells (λ i. op (f i) (g i)) n
cells_both op {n = n} p q = cells_cong _ _ n (λ i h. ap₂ op (p.reads i h) (q.reads i h))

pub sum_holds : {a : List ℕ} {f : ℕ → ℕ} {n : ℕ} → Holds a f n → sum (at a) n ≡ sum f n
sum_holds {n = n} p = sum_cong _ _ n p.reads
