-- The book as an entry that names a period finds it, with what is drawn moved: as sound, and holding as much, as before.
use Prim.Native.Nat.{ℕ, suc, ◌+◌, ◌-◌, ◌<◌, min}
use mathlib.Core.Path.{◌≡◌, refl, sym, ap, subst, ◌∙◌}
use mathlib.Core.Bool.{Bool, true, false, cond, false≢true}
use mathlib.Core.List.{List, ◌∷◌, ◌++◌}
use native.Mathlib.Omega.{arith}
use borrow.Author.Tests.{eqb-true}
use lib.ListN.{length, take, drop, length-append}
use Rattle.exact.specs.Rows.{at, sum}
use Rattle.book.specs.Checks.{refusal}
use Rattle.book.specs.layouts.Entries.{kind_of, entry_of}
use Rattle.book.specs.rules.Kinds.{period_of, is_settle}
use Rattle.book.specs.rules.Periods.{is_noticed}
use Rattle.book.specs.rules.State.{State, held_in, held_by, find, period_at, earlier_arrears, replaced, with_periods, with_purses}
use Rattle.book.specs.rules.Purses.{drawn_from, with_drawn, purses_left, settles, periods_after, purses_after, after_drawing}
use Rattle.book.specs.rules.Refusals.{Input, period_checks, barring}
use Rattle.book.specs.rules.Valid.{All, InBook, SoundState}
use Rattle.book.specs.inner.Ways.{Entered}
use Rattle.book.specs.declared.Stage.TheVariants.{Noticed}
use Rattle.book.specs.declared.entries.Entry.{Entry}
use Rattle.book.specs.declared.Period.{Period}
use Rattle.book.proofs.layouts.EntryLaws.{of_kind}
use Rattle.book.proofs.rules.LimitLaws.{many_places}
use Rattle.book.proofs.rules.Passing.{noticed_stage, settle_passes}
use Rattle.book.proofs.rules.KindLaws.{settle_not_receipt}
use Rattle.book.proofs.rules.ListLaws.{all_join, all_left, all_right, find_split, take_replaced, drop_replaced, find_replaced, period_replaced, held_join}
use Rattle.book.proofs.rules.PurseLaws.{drawn_purse, drawn_unpaid, drawn_same, moved_cong, left_cong, drawn_number, drawn_stage, moved_holds, moved_in_book, left_length, left_at, left_total}
use Rattle.book.proofs.rules.StepLaws.{Names}

-- an entry that settles a period is a settle entry, and the period is noticed
module _ (e : Entry) (p : Period) where
  both : (t u : Bool) → cond t u false ≡ true → (t ≡ true) × (u ≡ true)
  both true u q = (refl, q)
  both false u q = absurd (false≢true q)

  pub settling : settles e p ≡ true → (is_settle e ≡ true) × (p.stage ≡ Noticed)
  settling q = let f = both (is_settle e) (is_noticed p.stage) q in (f.0, noticed_stage p.stage f.1)

-- a settle entry that passes the checks of its period settles it
pub settle_settles : (n : ℕ) (barred : Bool) (e : Entry) (p : Period) → is_settle e ≡ true → refusal (period_checks n barred e p) ≡ 0 → settles e p ≡ true
unfolding entry_of
settle_settles n barred e p q =
    of_kind (λ (e : Entry). refusal (period_checks n barred e p) ≡ 0 → settles e p ≡ true) 6 e (eqb-true (kind_of e) 6 q) (λ z. ap is_noticed (settle_passes p z))

module _ (s : State) (e : Entry) where
  abbrev named : Period
  named = period_at (period_of e) s.periods

  -- a fact of the periods and purses that an entry finds, from that where it settles its period and where it does not
  pub by_drawing : (P : List Period → List ℕ → Type 0)
      → (settles e (period_at (period_of e) s.periods) ≡ true → let p = period_at (period_of e) s.periods in
      P (replaced s (find (period_of e) s.periods) (with_drawn s.n (drawn_from s p) p)).periods (purses_left s.n (drawn_from s p) s.purses))
      → (settles e (period_at (period_of e) s.periods) ≡ false → P s.periods s.purses) → P (periods_after s e) (purses_after s e)
  unfolding periods_after purses_after
  by_drawing P settled still = go (settles e named) settled still
    where
      ps : List Period
      ps = (replaced s (find (period_of e) s.periods) (with_drawn s.n (drawn_from s named) named)).periods

      left : List ℕ
      left = purses_left s.n (drawn_from s named) s.purses

      go : (t : Bool) → (t ≡ true → P ps left) → (t ≡ false → P s.periods s.purses) → P (cond t ps s.periods) (cond t left s.purses)
      go true f g = f refl
      go false f g = g refl

  -- a settle entry finds its period with what is drawn received, and the purses without it, if the period is noticed
  module _ (found : find (period_of e) s.periods < length s.periods) (settle : is_settle e ≡ true) (o : List ℕ)
      (drawable : (i : ℕ) → i < s.n → at o i ≡ cond (earlier_arrears i (period_at (period_of e) s.periods).number s.periods) 0 (at s.purses i)) where
    abbrev drawn : ℕ → ℕ
    drawn = let p = period_at (period_of e) s.periods in λ i. min (at o i) (at p.payable i - at p.received i)

    noticed : (t : Bool) → settles e named ≡ t → is_noticed named.stage ≡ t
    noticed t q = rw settle at q

    pub settle_finds : let p = period_at (period_of e) s.periods in let drawn : ℕ → ℕ = λ i. min (at o i) (at p.payable i - at p.received i) in
        (cond (is_noticed p.stage) (with_drawn s.n drawn p) p ≡ period_at (period_of e) (periods_after s e))
        × (cond (is_noticed p.stage) (purses_left s.n drawn s.purses) s.purses ≡ purses_after s e)
    unfolding replaced
    settle_finds = by_drawing (λ ps purses. (cond (is_noticed named.stage) (with_drawn s.n drawn named) named ≡ period_at (period_of e) ps)
        × (cond (is_noticed named.stage) (purses_left s.n drawn s.purses) s.purses ≡ purses))
        (λ q. rw (noticed true q) (
          moved_cong s.n drawn (drawn_from s named) (drawn_same s named o drawable) named
              ∙ sym (period_replaced (period_of e) s.periods (with_drawn s.n (drawn_from s named) named) found (drawn_number s.n (drawn_from s named) named)),
          left_cong s.n drawn (drawn_from s named) (drawn_same s named o drawable) s.purses,
        ))
        (λ q. rw (noticed false q) (refl, refl))

  -- no other entry than a settle entry draws
  pub no_drawing : is_settle e ≡ false → after_drawing s e ≡ s
  no_drawing q = by_drawing (λ ps purses. with_purses (with_periods s ps) purses ≡ s)
      (λ t. absurd (false≢true (sym q ∙ (settling e named t).0)))
      (λ _. refl)

settle_passes_checks : (n : ℕ) (barred : Bool) (e : Entry) (p : Period) → is_settle e ≡ true → p.stage ≡ Noticed → refusal (period_checks n barred e p) ≡ 0
unfolding entry_of
settle_passes_checks n barred e p q noticed =
    of_kind (λ (e : Entry). refusal (period_checks n barred e p) ≡ 0) 6 e (eqb-true (kind_of e) 6 q) (rw noticed refl)

pub settles_passes : (n : ℕ) (barred : Bool) (e : Entry) (p : Period) → settles e p ≡ true → refusal (period_checks n barred e p) ≡ 0
settles_passes n barred e p q = let t = settling e p q in settle_passes_checks n barred e p t.0 t.1

-- the entry names a period in the book
module _ (s : State) (e : Entry) (f : SoundState s) (found : find (period_of e) s.periods < length s.periods) where
  abbrev k : ℕ
  k = period_of e

  abbrev ps : List Period
  ps = s.periods

  abbrev p : Period
  p = period_at (period_of e) s.periods

  abbrev older : List Period
  older = take (find (period_of e) s.periods) s.periods

  abbrev younger : List Period
  younger = drop (suc (find (period_of e) s.periods)) s.periods

  abbrev p' : Period
  p' = with_drawn s.n (drawn_from s (period_at (period_of e) s.periods)) (period_at (period_of e) s.periods)

  split : All (InBook s.n s.grouping) (older ++ p ∷ younger)
  split = subst (All (InBook s.n s.grouping)) (find_split k ps found) f.each

  in_book : InBook s.n s.grouping p
  in_book = (all_right (InBook s.n s.grouping) older (p ∷ younger) split).0

  sizes : length (older ++ p' ∷ younger) ≡ length ps
  sizes = omega (arith, length-append older (p' ∷ younger), length-append older (p ∷ younger), ap length (find_split k ps found))

  pub after_fit : SoundState (after_drawing s e)
  unfolding replaced
  after_fit = by_drawing s e (λ ps purses. SoundState (with_purses (with_periods s ps) purses))
      (λ q. record {
        limited = f.limited;
        many = f.many;
        few = omega (arith, f.few, sizes);
        grouped = f.grouped;
        each = all_join (InBook s.n s.grouping) older (p' ∷ younger) (all_left (InBook s.n s.grouping) older (p ∷ younger) split)
            (moved_in_book s.n (drawn_from s p) p (settling e p q).1 (λ i _. drawn_unpaid s p i) in_book, (all_right (InBook s.n s.grouping) older (p ∷ younger) split).1);
        purses_size = left_length s.n (drawn_from s p) s.purses (many_places f);
        purse_le = λ i h. omega (arith, left_at s.n (drawn_from s p) s.purses i h, f.purse_le i h);
      })
      (λ _. f)

  pub after_held : held_by (after_drawing s e) ≡ held_by s
  unfolding replaced held_by held_in
  after_held = by_drawing s e (λ ps purses. held_in s.n ps + sum (at purses) s.n ≡ held_in s.n s.periods + sum (at s.purses) s.n)
      (λ q. omega (
        arith,
        held_join s.n older (p' ∷ younger),
        held_join s.n older (p ∷ younger),
        ap (held_in s.n) (find_split k ps found),
        moved_holds s.n (drawn_from s p) p in_book.sound,
        left_total s.n (drawn_from s p) s.purses (λ i _. drawn_purse s p i),
      ))
      (λ _. refl)

  -- the period stands where it did
  pub after_find : find (period_of e) (periods_after s e) ≡ find (period_of e) s.periods
  unfolding replaced
  after_find = by_drawing s e (λ ps _. find (period_of e) ps ≡ find (period_of e) s.periods) (λ q. find_replaced k ps p' found (drawn_number s.n (drawn_from s p) p)) (λ _. refl)

  pub after_length : length (periods_after s e) ≡ length s.periods
  unfolding replaced
  after_length = by_drawing s e (λ ps _. length ps ≡ length s.periods) (λ q. sizes) (λ _. refl)

  -- those before and behind it are the same
  pub after_older : take (find (period_of e) s.periods) (periods_after s e) ≡ take (find (period_of e) s.periods) s.periods
  unfolding replaced
  after_older = by_drawing s e (λ ps _. take (find k s.periods) ps ≡ take (find k s.periods) s.periods) (λ _. take_replaced (find k ps) ps p' found) (λ _. refl)

  pub after_younger : drop (suc (find (period_of e) s.periods)) (periods_after s e) ≡ drop (suc (find (period_of e) s.periods)) s.periods
  unfolding replaced
  after_younger = by_drawing s e (λ ps _. drop (suc (find k s.periods)) ps ≡ drop (suc (find k s.periods)) s.periods) (λ _. drop_replaced (find k ps) ps p' found) (λ _. refl)

  -- and its checks answer as before
  pub after_checks : (barred : Bool) → refusal (period_checks s.n barred e (period_at (period_of e) (periods_after s e))) ≡ refusal (period_checks s.n barred e (period_at (period_of e) s.periods))
  unfolding replaced
  after_checks barred = by_drawing s e (λ ps _. refusal (period_checks s.n barred e (period_at (period_of e) ps)) ≡ refusal (period_checks s.n barred e (period_at (period_of e) s.periods)))
      (λ q.
      let t = settling e p q in
      subst (λ (r : Period). refusal (period_checks s.n barred e r) ≡ refusal (period_checks s.n barred e p)) (sym (period_replaced k ps p' found (drawn_number s.n (drawn_from s p) p)))
      (settle_passes_checks s.n barred e p' t.0 (drawn_stage s.n (drawn_from s p) p ∙ t.1) ∙ sym (settles_passes s.n barred e p q)))
      (λ _. refl)

  -- whether the entry is barred is the same: a settle entry is no receipt
  after_barring : barring e (periods_after s e) ≡ barring e s.periods
  after_barring = by_drawing s e (λ ps _. barring e ps ≡ barring e s.periods) (λ q. rw (settle_not_receipt e (settling e p q).0)) (λ _. refl)

pub after_names : (s : State) (x : Input) → SoundState s → Names s x → Names (after_drawing s x.entry) x
after_names s x f o =
    let e = x.entry in
    record {
      not_open = o.not_open;
      not_purse = o.not_purse;
      found = omega (arith, o.found, after_find s e f o.found, after_length s e f o.found);
      passed = after_checks s e f o.found (barring e (periods_after s e))
          ∙ subst (λ (t : Bool). refusal (period_checks s.n t e (period_at (period_of e) s.periods)) ≡ 0) (sym (after_barring s e f o.found)) o.passed;
    }

pub after_entered : (s : State) (x : Input) → Entered s x → Entered (after_drawing s x.entry) x
after_entered s x i = record { some = i.some; enough = i.enough; fields = i.fields }
