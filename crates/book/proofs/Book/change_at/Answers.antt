use Prim.Native.Nat.{ℕ, ◌<◌}
use mathlib.Core.Path.{◌≡◌, sym, ap, subst, ◌∙◌}
use mathlib.Core.Bool.{Bool}
use mathlib.Core.List.{List}
use native.Mathlib.Omega.{arith}
use lib.ListN.{length, get_or}
use Rattle.std.proofs.Common.{Result, Ok, Err}
use Rattle.std.proofs.lemmas.Result.{err_from_is_err_and}
use Rattle.book.specs.rules.Purses.{after_drawing}
use Rattle.book.specs.rules.State.{State, view, pack, no_period, held_by, removed}
use Rattle.book.specs.rules.Refusals.{Input, barring}
use Rattle.book.specs.rules.Valid.{Valid}
use Rattle.book.specs.inner.OnePeriod.{Affects, effect, effect_of}
use Rattle.book.specs.inner.Ways.{NamedAt}
use Rattle.book.specs.declared.entries.Entry.{Entry}
use Rattle.book.specs.declared.Book.{Book}
use Rattle.book.specs.declared.answers.Refusal.{Refusal}
use Rattle.book.specs.declared.effects.Effect.{Effect}
use Rattle.book.proofs.rules.LimitLaws.{many_places}
use Rattle.book.proofs.records.Packing.{place_few, count_is}
use Rattle.book.proofs.records.Bounds.{arrears_bound}
use Rattle.book.proofs.records.Named.{Found, named_entry, drawn_valid, drawn_view, drawn_read, drawn_book}
use Rattle.book.proofs.records.Effects.{Drawn, Affected, affected, found_affects, effect_sound, leaves_held, left_alone, taken_out, put_back}
use Rattle.book.proofs.records.Replies.{enters_valid}
use Rattle.book.proofs.Book.change_at.Goals as goal

-- the record s behind the book s₀, whose period at place j the entry names; what it draws was moved, which left the book b₀
module _ {s₀ s b₀ b : Book} {e : Entry} {j : ℕ} (w : List ℕ) (same : s ≡ s₀) (v : Valid s) (named : NamedAt s₀ e (length w) j)
    (drew : b₀ ≡ pack (after_drawing (view s₀) e)) (read : b ≡ b₀) where
  found : Found s e w j
  found = named_entry w v (rw (← same) at named)

  drawn : Drawn s e j b₀
  drawn = (rw (← same) at drew) ∙ sym (drawn_book found)

  affects : Affects b₀.n b₀.grouping e (get_or b.periods j no_period) b₀.held w
  affects = rw (read, drawn, drawn_read found) (found_affects found)

  -- what is known once the period was read and the entry had its effect on it
  module _ {barred : Bool} (bars : barred ≡ barring e (view s₀).periods) (r : Result Effect Refusal) (after : List ℕ)
      (q : effect_of (get_or b.periods j no_period) b₀.held r after ≡ effect b₀.n b₀.grouping e barred (get_or b.periods j no_period) b₀.held w) where
    pub record Known : Type 0 where
      pub is_found : Found s e w j
      pub is_drawn : Drawn s e j b₀
      pub is_affected : Affected s e w r after

    known : Known
    known = record {
      is_found = found;
      is_drawn = drawn;
      is_affected = affected found b₀ barred r after (rw (← same) at bars) drawn (rw read at q);
    }

pub draw_for-requires : goal.draw_for-requires
draw_for-requires c =
    let m = c.requires in
    record { some = m.some; enough = omega arith; fields = m.fields; not_open = m.not_open; not_purse = m.not_purse; at_place = m.at_place; used = m.used }

pub offset_bounds-self-inside-j : goal.offset_bounds-self-inside-j
offset_bounds-self-inside-j c = omega (arith, place_few c.self.view_is c.self.invariant c.requires.used)

pub bounds-self-inside-j : goal.bounds-self-inside-j
bounds-self-inside-j c = omega (arith, place_few c.self.view_is c.self.invariant c.requires.used)

pub apply_to_period-requires : goal.apply_to_period-requires
apply_to_period-requires c = affects c.args.words.now c.self.view_is c.self.invariant c.requires c.draw_for.ensures c.self-2.view_is

pub returns-in_err-effect : goal.returns-in_err-effect
returns-in_err-effect c =
    let why = c.in_err-effect.field-0.0 in
    let p = err_from_is_err_and c.from_residual.result c.from_residual.ensures.1 in
    let k = known c.args.words.now c.self.view_is c.self.invariant c.requires c.draw_for.ensures c.self-2.view_is c.is_barred-barred.ensures (Err why) _ c.in_err-effect.ensures in
    rw (p.1, p.2, ← c.self.view_is) (left_alone k.is_found k.is_drawn why _ k.is_affected)

pub is_leaving-requires : goal.is_leaving-requires
is_leaving-requires c =
    let k = known c.args.words.now c.self.view_is c.self.invariant c.requires c.draw_for.ensures c.self-2.view_is c.is_barred-barred.ensures (Ok c.in_ok-effect.effect) _ c.in_ok-effect.ensures in
    (many_places c.self.invariant.fit, λ z. omega (arith, arrears_bound _ _ (effect_sound k.is_found _ k.is_affected) z))

pub remove_period-requires : goal.remove_period-requires
remove_period-requires c =
    let k = known c.args.words.now c.self.view_is c.self.invariant c.requires c.draw_for.ensures c.self-2.view_is c.is_barred-barred.ensures (Ok c.in_ok-effect.effect) _ c.in_ok-effect.ensures in
    let f = k.is_found in
    let leaving = sym c.is_leaving.ensures ∙ c.if-is_leaving.true in
    subst (λ (b : Book). (c.args.j < length (view b).periods) × (c.in_ok-effect.effect.held ≡ held_by (removed (view b) c.args.j))) (sym k.is_drawn)
    (omega (arith, count_is (drawn_valid f), f.used), leaves_held f _ k.is_affected leaving ∙ ap (λ (s : State). held_by (removed s c.args.j)) (sym (drawn_view f)))

pub returns-then-is_leaving : goal.returns-then-is_leaving
returns-then-is_leaving c =
    let k = known c.args.words.now c.self.view_is c.self.invariant c.requires c.draw_for.ensures c.self-2.view_is c.is_barred-barred.ensures (Ok c.in_ok-effect.effect) _ c.in_ok-effect.ensures in
    rw (← c.self.view_is)
    (taken_out k.is_found k.is_drawn c.in_ok-effect.effect _ k.is_affected (sym c.is_leaving.ensures ∙ c.if-is_leaving.true) _ c.remove_period.ensures)

pub offset_bounds-self-inside-j-else-is_leaving : goal.offset_bounds-self-inside-j-else-is_leaving
offset_bounds-self-inside-j-else-is_leaving c = omega (arith, place_few c.self.view_is c.self.invariant c.requires.used)

pub bounds-self-inside-j-else-is_leaving : goal.bounds-self-inside-j-else-is_leaving
bounds-self-inside-j-else-is_leaving c = omega (arith, place_few c.self.view_is c.self.invariant c.requires.used)

pub invariant_of-self : goal.invariant_of-self
invariant_of-self c =
    let k = known c.args.words.now c.self.view_is c.self.invariant c.requires c.draw_for.ensures c.self-2.view_is c.is_barred-barred.ensures (Ok c.in_ok-effect.effect) _ c.in_ok-effect.ensures in
    let x : Input = record { entry = c.args.e.entry; words = c.args.words.now } in
    let o = c.in_ok-effect.effect in
    enters_valid c.self.invariant x (Ok (record { rounds = o.rounds; paid = o.paid })) _ c.apply_to_period.new.words
    (put_back k.is_found (c.self-2.view_is ∙ k.is_drawn) o _ k.is_affected (sym c.is_leaving.ensures ∙ c.if-is_leaving.false))

pub returns-else-is_leaving : goal.returns-else-is_leaving
returns-else-is_leaving c =
    let k = known c.args.words.now c.self.view_is c.self.invariant c.requires c.draw_for.ensures c.self-2.view_is c.is_barred-barred.ensures (Ok c.in_ok-effect.effect) _ c.in_ok-effect.ensures in
    rw (← c.self.view_is) (put_back k.is_found (c.self-2.view_is ∙ k.is_drawn) c.in_ok-effect.effect _ k.is_affected (sym c.is_leaving.ensures ∙ c.if-is_leaving.false))
