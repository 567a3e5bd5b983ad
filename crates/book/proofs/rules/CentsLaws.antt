-- The cents that an accepted entry brings in are those that it pays and those that the book holds more.
use Prim.Native.Nat.{ℕ, suc, ◌+◌}
use mathlib.Core.Path.{◌≡◌, ap, ◌∙◌}
use mathlib.Core.Bool.{true, false}
use mathlib.Core.List.{List, [], ◌∷◌}
use mathlib.Core.Logic.{⊎_elim}
use native.Mathlib.Omega.{arith}
use borrow.Author.Tests.{eqb-true}
use lib.ListN.{take, drop}
use Rattle.exact.specs.Rows.{places, at, sum}
use Rattle.exact.proofs.Cases.{cases}
use Rattle.book.specs.Checks.{refusal}
use Rattle.book.specs.layouts.Entries.{kind_of}
use Rattle.book.specs.rules.Kinds.{period_of, is_open, is_purse, receipt_cents, purse_of, purse_cents, cents_in}
use Rattle.book.specs.rules.Periods.{fresh, zeros, raised, holds, leaves, Change, changed}
use Rattle.book.specs.rules.State.{State, held_in, held_by, find, period_at, replaced, removed, added, with_purses}
use Rattle.book.specs.rules.Purses.{after_drawing}
use Rattle.book.specs.rules.Refusals.{Input, checks}
use Rattle.book.specs.rules.Step.{stored, payout_words, acted, step}
use Rattle.book.specs.rules.Valid.{Sound, SoundState}
use Rattle.book.specs.inner.Ways.{Entered}
use Rattle.book.specs.declared.entries.Entry.{Entry}
use Rattle.book.specs.declared.Period.{Period}
use Rattle.book.proofs.rules.LimitLaws.{many_places}
use Rattle.book.proofs.rules.CellLaws.{raised_sum}
use Rattle.book.proofs.rules.ChangeLaws.{Changes, no_pays}
use Rattle.book.proofs.rules.DrawingLaws.{after_fit, after_names, after_entered, after_held}
use Rattle.book.proofs.rules.EntryChanges.{change_cents, left_empty}
use Rattle.book.proofs.rules.ListLaws.{find_split, held_join}
use Rattle.book.proofs.rules.StepLaws.{Opens, Raises, Names, enters, by_kind, step_accepted, accepted_opens, accepted_raises, accepted_names}
use Rattle.book.proofs.rules.ValidLaws.{fresh_holds, named_in_book, named_changes}
use Rattle.book.proofs.rules.WordLaws.{payout_sum}

-- an entry that names a period in the book
module _ (s : State) (x : Input) (f : SoundState s) (i : Entered s x) (o : Names s x) where
  abbrev k : ℕ
  k = find (period_of x.entry) s.periods

  abbrev p : Period
  p = period_at (period_of x.entry) s.periods

  abbrev c : Change
  c = changed s.n s.grouping x.entry (period_at (period_of x.entry) s.periods)

  abbrev older : List Period
  older = take (find (period_of x.entry) s.periods) s.periods

  abbrev younger : List Period
  younger = drop (suc (find (period_of x.entry) s.periods)) s.periods

  d : Changes s.n (receipt_cents x.entry) p c
  d = named_changes s x f i o

  sound : Sound s.n p
  sound = (named_in_book s x f i o).sound

  all : held_in s.n s.periods ≡ held_in s.n older + (holds s.n p + held_in s.n younger)
  unfolding held_in
  all = ap (held_in s.n) (find_split (period_of x.entry) s.periods o.found) ∙ held_join s.n older (p ∷ younger)

  -- the period stays, or leaves
  pub held_replaced : let c = changed s.n s.grouping x.entry (period_at (period_of x.entry) s.periods) in
      held_by (replaced s (find (period_of x.entry) s.periods) c.period) + sum (at c.pays) s.n ≡ held_by s + receipt_cents x.entry
  unfolding held_by replaced held_in
  held_replaced = omega (arith, all, held_join s.n older (c.period ∷ younger), change_cents s.n p sound (receipt_cents x.entry) c d)

  pub held_removed : let c = changed s.n s.grouping x.entry (period_at (period_of x.entry) s.periods) in leaves s.n c.period ≡ true
      → held_by (removed s (find (period_of x.entry) s.periods)) + sum (at c.pays) s.n ≡ held_by s + receipt_cents x.entry
  unfolding held_by removed
  held_removed l = omega (
    arith,
    all,
    held_join s.n older younger,
    change_cents s.n p sound (receipt_cents x.entry) c d,
    left_empty s.n p sound (receipt_cents x.entry) c d l,
  )

  acted_cents : held_by (acted s x).state + sum (at (acted s x).words) s.n ≡ held_by s + receipt_cents x.entry
  unfolding acted stored
  acted_cents = omega (
    arith,
    payout_sum s.n c.pays x.words,
    cases (λ (t : State). held_by t + sum (at c.pays) s.n ≡ held_by s + receipt_cents x.entry) (leaves s.n c.period) held_removed (λ _. held_replaced),
  )

-- what comes in, by kind
open_brings_nothing : (e : Entry) → is_open e ≡ true → cents_in e ≡ 0
open_brings_nothing e o = rw (eqb-true (kind_of e) 1 o)

purse_brings : (e : Entry) → is_purse e ≡ true → cents_in e ≡ purse_cents e
purse_brings e q = rw (eqb-true (kind_of e) 7 q) (omega arith)

named_brings : (e : Entry) → is_purse e ≡ false → cents_in e ≡ receipt_cents e
named_brings e q = rw q (omega arith)

module _ (s : State) (x : Input) (f : SoundState s) where
  abbrev n : ℕ
  n = s.n

  opened_cents : Opens s x → held_by (added s (fresh (period_of x.entry))) + sum (at (payout_words s.n (zeros places) x.words)) s.n ≡ held_by s + cents_in x.entry
  unfolding held_by added held_in
  opened_cents o = omega (
    arith,
    held_join n s.periods (fresh (period_of x.entry) ∷ []),
    fresh_holds n (period_of x.entry),
    payout_sum n (zeros places) x.words,
    no_pays n,
    open_brings_nothing x.entry o.is_open_lem,
  )

  pub raised_held : Raises s x → held_by (with_purses s (raised s.purses (purse_of x.entry) (purse_cents x.entry))) ≡ held_by s + purse_cents x.entry
  unfolding held_by
  raised_held o = omega (arith, raised_sum s.purses (purse_of x.entry) (purse_cents x.entry) (omega (arith, o.member, many_places f, f.purses_size)) n o.member)

  raised_cents : Raises s x → held_by (with_purses s (raised s.purses (purse_of x.entry) (purse_cents x.entry))) + sum (at (payout_words s.n (zeros places) x.words)) s.n
      ≡ held_by s + cents_in x.entry
  raised_cents o = omega (arith, raised_held o, payout_sum n (zeros places) x.words, no_pays n, purse_brings x.entry o.is_purse_lem)

  named_cents : Entered s x → Names s x
      → held_by (acted (after_drawing s x.entry) x).state + sum (at (acted (after_drawing s x.entry) x).words) s.n ≡ held_by s + cents_in x.entry
  named_cents i o = omega (
    arith,
    acted_cents (after_drawing s x.entry) x (after_fit s x.entry f o.found) (after_entered s x i) (after_names s x f o),
    after_held s x.entry f o.found,
    named_brings x.entry o.not_purse,
  )

  pub step_cents : refusal (checks s x) ≡ 0 → held_by (step s x).state + sum (at (step s x).words) s.n ≡ held_by s + cents_in x.entry
  step_cents e =
      let i = enters s x e in
      ⊎_elim
      (λ o. rw (step_accepted s x e, accepted_opens s x o) (opened_cents o))
      (⊎_elim (λ o. rw (step_accepted s x e, accepted_raises s x o) (raised_cents o)) (λ o. rw (step_accepted s x e, accepted_names s x o) (named_cents i.0 o)))
      (by_kind s x i.1)
