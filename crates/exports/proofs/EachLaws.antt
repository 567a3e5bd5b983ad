-- Laws of rows of which each cell is at most the other's.
use Prim.Native.Nat.{ℕ, zero, suc, ◌-◌, ◌≤◌, ◌<◌}
use mathlib.Core.Path.{◌≡◌, refl, sym, ap, ap₂, ◌∙◌}
use mathlib.Core.Bool.{Bool, true, false, cond, ◌&&◌, true≢false}
use mathlib.Core.Logic.{⊎_elim}
use mathlib.Core.List.{List}
use native.Mathlib.Omega.{arith}
use native.Mathlib.Nat.{eq-or-lt_of_le, le_of_suc-le-suc, not-suc-le-zero}
use native.Mathlib.Numerals.{add-one}
use borrow.Author.Tests.{leb-true}
use lib.Dec.{leb}
use lib.ListN.{length, take, get_or}
use Rattle.std.specs.List.{list_all, zip}
use Rattle.std.proofs.lemmas.List.{get_or-take, length-take, take_all}
use Rattle.std.proofs.lemmas.List.Folds.{list_all_more}
use Rattle.std.proofs.lemmas.Slice.Zip.{get_or-zip, length-zip}
use Rattle.exact.specs.Rows.{at, sum}
use Rattle.exact.proofs.RowLaws.{sum_mono, Holds}
use Rattle.exports.specs.Orders.{each_at_most}

pub both_true : (a b : Bool) → cond a b false ≡ true → (a ≡ true) × (b ≡ true)
both_true true b h = (refl, h)
both_true false b h = absurd (true≢false (sym h))

module _ (f g : ℕ → ℕ) where
  pub each_reads : (n : ℕ) → each_at_most f g n ≡ true → (i : ℕ) → i < n → f i ≤ g i
  unfolding each_at_most
  each_reads zero e i h = absurd (not-suc-le-zero h)
  each_reads (suc n) e i h =
      let b = both_true _ _ e in
      ⊎_elim (λ (q : i ≡ n). rw q (leb-true _ _ b.1)) (λ (l : i < n). each_reads n b.0 i l)
      (eq-or-lt_of_le (le_of_suc-le-suc h))

  -- what the first row has above a third is no more than the second in sum
  pub each_excess : (h : ℕ → ℕ) (n : ℕ) → each_at_most f g n ≡ true → sum (λ i. f i - h i) n ≤ sum g n
  each_excess h n e = sum_mono (λ i. f i - h i) g n (λ i k. omega (arith, each_reads n e i k))

each_cong : (f g h k : ℕ → ℕ) (n : ℕ) → ((i : ℕ) → i < n → f i ≡ h i) → ((i : ℕ) → i < n → g i ≡ k i) → each_at_most f g n ≡ each_at_most h k n
unfolding each_at_most
each_cong f g h k zero p q = refl
each_cong f g h k (suc n) p q = rw (each_cong f g h k n (λ i l. p i (omega arith)) (λ i l. q i (omega arith)), p n (omega arith), q n (omega arith))

-- the same over the fronts of two arrays side by side, as a chain looks at them
abbrev at_most : ℕ × ℕ → Bool
at_most p = leb p.0 p.1

both : (x y : Bool) → (x && y) ≡ cond x y false
both true y = refl
both false y = refl

module _ (a b : List ℕ) (n : ℕ) (p : n ≤ length a) (q : n ≤ length b) where
  abbrev sides : List (ℕ × ℕ)
  sides = zip (take n a) (take n b)

  sides_length : length sides ≡ n
  sides_length = omega (arith, length-zip (take n a) (take n b), length-take n a, length-take n b)

  sides_at : (i : ℕ) → i < n → get_or sides i (0, 0) ≡ (at a i, at b i)
  sides_at i h =
      get_or-zip (take n a) (take n b) i (0, 0) (omega (arith, length-take n a)) (omega (arith, length-take n b))
      ∙ ap₂ (λ (x y : ℕ). (x, y)) (get_or-take n a i 0 h) (get_or-take n b i 0 h)

  sides_each : (k : ℕ) → k ≤ n → list_all at_most (take k sides) ≡ each_at_most (at a) (at b) k
  unfolding each_at_most
  sides_each zero h = refl
  sides_each (suc k) h =
      rw (← add-one k, list_all_more at_most sides k (0, 0) (omega (arith, sides_length)), sides_each k (omega arith), sides_at k h)
      (both (each_at_most (at a) (at b) k) (leb (at a k) (at b k)))

  -- of two rows that the arrays hold
  pub each_tested : {f g : ℕ → ℕ} → Holds a f n → Holds b g n → list_all (λ p. leb p.0 p.1) (zip (take n a) (take n b)) ≡ each_at_most f g n
  each_tested r t =
      ap (list_all at_most) (sym (take_all n sides (omega (arith, sides_length))))
      ∙ sides_each n (omega arith)
      ∙ each_cong (at a) (at b) _ _ n r.reads t.reads
