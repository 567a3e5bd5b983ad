-- Limits, and that a sound state is within the places of the record: its limits are up to the market's.
use Prim.Native.Nat.{ℕ, ◌≤◌}
use mathlib.Core.Path.{◌≡◌}
use mathlib.Core.Bool.{true, false≢true}
use native.Mathlib.Omega.{arith}
use borrow.Author.Tests.{le-leb, leb-true, ne_eqb}
use lib.ListN.{length}
use Rattle.exact.specs.Rows.{places}
use Rattle.exact.proofs.Cases.{cases_eq}
use Rattle.book.specs.rules.Limits.{period_places, within}
use Rattle.book.specs.rules.State.{State}
use Rattle.book.specs.rules.Valid.{SoundState}

-- a number that is 1 to the most is at least 1, and at most the most
pub within_both : (most x : ℕ) → within most x ≡ true → (1 ≤ x) × (x ≤ most)
within_both most x =
    cases_eq (λ t. t ≡ true → (1 ≤ x) × (x ≤ most)) x 0
    (λ _ e. absurd (false≢true e))
    (λ ne e. (omega (arith, ne), leb-true x most e))

pub both_within : (most x : ℕ) → 1 ≤ x → x ≤ most → within most x ≡ true
both_within most x some few = rw (ne_eqb x 0 (λ e. omega arith), le-leb x most few)

module _ {s : State} (f : SoundState s) where
  pub many_places : s.n ≤ places
  many_places = omega (arith, f.many, f.limited.participants)

  pub few_places : length s.periods ≤ period_places
  few_places = omega (arith, f.few, f.limited.periods)
