-- Proofs by the two cases of a test on numbers.
use mathlib.Core.Path.{◌≡◌, refl}
use mathlib.Core.Bool.{Bool, true, false, cond}
use mathlib.Core.Logic.{◌⊎◌, inl, inr}
use Prim.Native.Nat.{ℕ, ◌≤◌, ◌<◌}
use lib.Dec.{leb, eqb}
use borrow.Author.Tests.{leb-true, leb-false, eqb-true, eqb-false}

-- a fact P about a choice, from P of each of the two values
module _ {A : Type 0} (P : A → Type 0) {x y : A} where
  pub cases : (t : Bool) → (t ≡ true → P x) → (t ≡ false → P y) → P (cond t x y)
  cases true h k = h refl
  cases false h k = k refl

  pub cases_le : (a b : ℕ) → (a ≤ b → P x) → (b < a → P y) → P (cond (leb a b) x y)
  cases_le a b h k = cases (leb a b) (λ e. h (leb-true a b e)) (λ e. k (leb-false a b e))

  pub cases_eq : (a b : ℕ) → (a ≡ b → P x) → ((a ≡ b → ⊥) → P y) → P (cond (eqb a b) x y)
  cases_eq a b h k = cases (eqb a b) (λ e. h (eqb-true a b e)) (λ e. k (eqb-false a b e))

pub le_or_lt : (a b : ℕ) → (a ≤ b) ⊎ (b < a)
le_or_lt a b = go (leb a b) refl
  where
    go : (t : Bool) → leb a b ≡ t → (a ≤ b) ⊎ (b < a)
    go true e = inl (leb-true a b e)
    go false e = inr (leb-false a b e)

pub eq_or_ne : (a b : ℕ) → (a ≡ b) ⊎ (a ≡ b → ⊥)
eq_or_ne a b = go (eqb a b) refl
  where
    go : (t : Bool) → eqb a b ≡ t → (a ≡ b) ⊎ (a ≡ b → ⊥)
    go true e = inl (eqb-true a b e)
    go false e = inr (eqb-false a b e)
