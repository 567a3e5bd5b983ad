use Prim.Native.Nat.{ℕ}
use mathlib.Core.Path.{◌≡◌, refl, ap, ◌∙◌}
use native.Mathlib.Omega.{arith}
use Rattle.std.proofs.Common.{Option, Some, None, MatchOption}
use Rattle.book.specs.rules.State.{find, view}
use Rattle.book.specs.declared.answers.Refusal.TheVariants.{NotInBook}
use Rattle.book.proofs.records.Packing.{count_is}
use Rattle.book.proofs.records.Replies.{refuses, not_found}
use Rattle.book.proofs.Book.change_named.Goals as goal

-- where there is no place, the entry names none
nowhere : {P : Type 0} (Q : ℕ → Type 0) (r : Option ℕ) → MatchOption r P Q → ((j : ℕ) → r ≡ Some j → ⊥) → P
nowhere Q None m other = m
nowhere Q (Some j) m other = absurd (other j refl)

pub returns-in_default : goal.returns-in_default
returns-in_default c =
    let r = c.requires in
    let v = c.place.ensures.valid in
    let none = nowhere _ _ c.place.ensures.found c.in_default.not-Some in
    refuses v c.args.e.entry _ NotInBook (not_found v _ _ r.0 r.1 r.2 (omega (arith, count_is v, rw c.period.ensures at none)))

pub change_at-requires : goal.change_at-requires
change_at-requires c =
    let r = c.requires in
    record {
      some = r.0.some;
      enough = r.0.enough;
      fields = r.0.fields;
      not_open = r.1;
      not_purse = r.2;
      at_place = c.in-Some.ensures.found.0 ∙ ap (λ (k : ℕ). find k (view c.args.self.now).periods) c.period.ensures;
      used = c.in-Some.ensures.found.1;
    }
