-- Laws of lists of checks, and of tests of which none holds.
use Prim.Native.Nat.{ℕ, zero, suc, ◌<◌}
use mathlib.Core.Path.{◌≡◌, refl}
use mathlib.Core.Bool.{Bool, true, false, cond, false≢true}
use mathlib.Core.List.{List, [], ◌∷◌, ◌++◌}
use mathlib.Core.Logic.{◌⊎◌, inl, inr}
use native.Mathlib.Omega.{arith}
use borrow.Author.Tests.{eq-eqb}
use lib.Dec.{eqb, eqb-suc-zero}
use Rattle.exact.proofs.Cases.{cases, cases_eq}
use Rattle.book.specs.Checks.{Check, on, refusal}
use Rattle.book.specs.layouts.Allowed.{none}

-- every test of a list is false
abbrev pub AllFalse : List Bool → Type 0
AllFalse [] = Unit {0}
AllFalse (t ∷ l) = (t ≡ false) × AllFalse l

pub none_false : (l : List Bool) → none l ≡ true → AllFalse l
none_false [] e = tt
none_false (true ∷ l) e = absurd (false≢true e)
none_false (false ∷ l) e = (refl, none_false l e)

-- the tests of a list of checks, and whether every check has a number
abbrev pub tests : List Check → List Bool
tests [] = []
tests (c ∷ l) = c.fails ∷ tests l

abbrev pub numbered : List Check → Bool
numbered [] = true
numbered (c ∷ l) = cond (eqb c.number 0) false (numbered l)

-- a first check that does not refuse passes, and hands on to those after it
first_pass : (t : Bool) (k r : ℕ) (rest : Bool) → cond (eqb k 0) false rest ≡ true → cond t k r ≡ 0 → (t ≡ false) × (rest ≡ true) × (r ≡ 0)
first_pass true k r rest q e = absurd (false≢true (rw (eq-eqb k 0 e) at q))
first_pass false zero r rest q e = absurd (false≢true q)
first_pass false (suc k) r rest q e = (refl, rw (eqb-suc-zero k) at q, e)

pub passes : (t : Bool) (k : ℕ) (l : List Check) → refusal (on t (suc k) ∷ l) ≡ 0 → (t ≡ false) × (refusal l ≡ 0)
passes true k l e = absurd (omega arith)
passes false k l e = (refl, e)

-- where nothing is refused, every check passes
pub all_pass : (l : List Check) → numbered l ≡ true → refusal l ≡ 0 → AllFalse (tests l)
all_pass [] q e = tt
all_pass (c ∷ l) q e =
    let f = first_pass c.fails c.number (refusal l) (numbered l) q e in
    (f.0, all_pass l f.1 f.2)

-- no check of a list has that number
abbrev without : ℕ → List Check → Bool
without k [] = true
without k (c ∷ l) = cond (eqb c.number k) false (without k l)

number_differs : (j k : ℕ) (rest : Bool) → cond (eqb j k) false rest ≡ true → (j ≡ k → ⊥) × (rest ≡ true)
number_differs j k rest = cases_eq (λ t. t ≡ true → (j ≡ k → ⊥) × (rest ≡ true)) j k (λ _ q. absurd (false≢true q)) (λ ne q. (ne, q))

-- a last check that passes where those before it do is not the one that refuses
pub last_passes : (k : ℕ) (l : List Check) (t : Bool) → without (suc k) l ≡ true → (AllFalse (tests l) → t ≡ false) → refusal (l ++ (on t (suc k) ∷ [])) ≡ suc k → ⊥
last_passes k [] t q f e = let z = rw (f tt) at e in omega (arith, z)
last_passes k (c ∷ l) t q f e =
    let d = number_differs c.number (suc k) (without (suc k) l) q in
    cases (λ j. j ≡ suc k → ⊥) c.fails (λ _ r. d.0 r) (λ p r. last_passes k l t d.1 (λ a. f (p, a)) r) e

-- a list of checks whose numbers are all above k refuses with no number up to k
abbrev pub AllAbove : ℕ → List Check → Type 0
AllAbove k [] = Unit {0}
AllAbove k (c ∷ l) = (k < c.number) × AllAbove k l

pub refuses_above : (k : ℕ) (l : List Check) → AllAbove k l → (refusal l ≡ 0) ⊎ (k < refusal l)
refuses_above k [] h = inl refl
refuses_above k (c ∷ l) h = go c.fails (refuses_above k l h.1)
  where
    go : (t : Bool) → (refusal l ≡ 0) ⊎ (k < refusal l) → (cond t c.number (refusal l) ≡ 0) ⊎ (k < cond t c.number (refusal l))
    go true rest = inr h.0
    go false rest = rest
