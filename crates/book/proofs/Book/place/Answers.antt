use Prim.Native.Nat.{ℕ, ◌+◌, ◌<◌}
use mathlib.Core.Path.{◌≡◌, refl, sym, ◌∙◌}
use mathlib.Core.List.{List, [], ◌∷◌}
use native.Mathlib.Omega.{arith}
use borrow.Author.Tests.{eq-eqb, ne_eqb}
use lib.ListN.{length}
use Rattle.std.proofs.Common.{Option, Some, None, MatchOption, rules, tests}
use Rattle.std.specs.List.{HoldsAt, AllWithin}
use Rattle.std.proofs.lemmas.Iterator.{IsFirst-from_position, YieldsList-from_slice, index_from_first}
use Rattle.book.specs.rules.State.{find, view}
use Rattle.book.specs.rules.Insides.{record_of}
use Rattle.book.specs.declared.Period.{Period}
use Rattle.book.proofs.records.Packing.{count_is, count_few}
use Rattle.book.proofs.Book.place.Goals as goal

hit : (m : ℕ) (p : Period) (ps : List Period) → p.number ≡ m → find m (p ∷ ps) ≡ 0
unfolding find
hit m p ps q = rw (eq-eqb p.number m q)

miss : (m : ℕ) (p : Period) (ps : List Period) → (p.number ≡ m → ⊥) → find m (p ∷ ps) ≡ find m ps + 1
unfolding find
miss m p ps ne = rw (ne_eqb p.number m ne) (omega arith)

none : (m : ℕ) → find m [] ≡ 0
unfolding find
none m = refl

-- the first period of that number is where it is found
located : (m : ℕ) (ps : List Period) (count : ℕ) → count ≡ length ps → (r : Option ℕ)
    → MatchOption r (AllWithin (λ (p : Period). p.number ≡ m → ⊥) ps 0 (length ps))
    (λ i. (i < length ps) × HoldsAt (λ (p : Period). p.number ≡ m) ps i × AllWithin (λ (p : Period). p.number ≡ m → ⊥) ps 0 i)
    → MatchOption r (find m ps ≡ count) (λ j. (j ≡ find m ps) × (j < count))
located m ps count e None h =
    index_from_first (find m) (λ (p : Period). p.number ≡ m) (λ (p : Period). p.number ≡ m → ⊥) (none m) (hit m) (miss m) ps None h ∙ sym e
located m ps count e (Some i) h =
    (sym (index_from_first (find m) (λ (p : Period). p.number ≡ m) (λ (p : Period). p.number ≡ m → ⊥) (none m) (hit m) (miss m) ps (Some i) h), omega (arith, h.0))

pub shared_ref_as_front-used : goal.shared_ref_as_front-used
shared_ref_as_front-used c = count_few c.self.invariant

pub returns : goal.returns
returns c =
    let m = c.args.number in
    let b = record_of c.self.inside in
    let ps = (view b).periods in
    rw (← c.self.view_is) record {
      valid = c.self.invariant;
      found = located m ps b.count (count_is c.self.invariant) _
          (IsFirst-from_position _ _ _ (λ (p : Period). p.number ≡ m) (λ (p : Period). p.number ≡ m → ⊥) c.position.ensures.ran (YieldsList-from_slice ps cc) (λ x q k. search (rules, tests)) (λ x q k. search (rules, tests)));
    }
