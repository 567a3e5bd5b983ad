-- A book just made is valid, every entry leaves a valid book, a refused one leaves it as it was.
use Prim.Native.Nat.{ℕ, zero, suc, ◌+◌, ◌-◌, ◌*◌, ◌≤◌, ◌<◌}
use mathlib.Core.Path.{◌≡◌, refl, sym, ap, subst, ◌∙◌}
use mathlib.Core.Bool.{Bool, true, false, cond, true≢false}
use mathlib.Core.List.{List, [], ◌∷◌, ◌++◌}
use mathlib.Core.Logic.{◌⊎◌, inl, inr}
use native.Mathlib.Omega.{arith}
use borrow.Author.Tests.{eqb-true, eqb-false}
use lib.Dec.{eqb}
use lib.ListN.{length, take, drop, replicate, get_or, length-append}
use lib.Seq.{split_at, take-append_seam}
use Rattle.exact.specs.Rows.{places, at, sum}
use Rattle.exact.proofs.Cases.{cases, cases_eq}
use Rattle.exact.proofs.RowLaws.{sum_zero}
use Rattle.settlement.specs.Month.{tiers, over_tiers, tier_at}
use Rattle.settlement.specs.Groups.{group_count, grouping_allowed}
use Rattle.settlement.specs.Settling.{held}
use Rattle.settlement.proofs.Laws.{grouping_allowed_lem}
use Rattle.settlement.specs.declared.groups.Grouping.{Grouping}
use Rattle.book.specs.Checks.{refusal}
use Rattle.book.specs.rules.Kinds.{period_of, is_open, is_purse, is_amount, is_notice, is_receipt, is_settle, receipt_cents, purse_of, purse_cents}
use Rattle.book.specs.rules.Periods.{is_opened, is_settled, zeros, raised, holds, side_total, fresh, leaves, Change, changed, with_late_receipt}
use Rattle.book.specs.rules.Limits.{period_places, market, UpTo}
use Rattle.book.specs.rules.State.{State, view, pack, find, no_period, period_at, replaced, removed, added, with_purses}
use Rattle.book.specs.rules.Purses.{purse_limit, after_drawing}
use Rattle.book.specs.rules.Makings.{making_checks, kept, no_making, made}
use Rattle.book.specs.layouts.Allowed.{allowed}
use Rattle.book.specs.rules.Refusals.{Input, checks}
use Rattle.book.specs.rules.Step.{Outcome, stored, acted, accepted, step, reply}
use Rattle.book.specs.rules.Valid.{All, InBook, SoundState, Valid}
use Rattle.book.specs.rules.Stays.{StaysValid, RefusalChangesNothing, RoundsOfSettlements}
use Rattle.book.specs.declared.entries.Entry.{Entry}
use Rattle.book.specs.declared.makings.Making.{Making}
use Rattle.book.specs.declared.Period.{Period}
use Rattle.book.proofs.rules.CellLaws.{zeros_length, zeros_at, zeros_over, raised_length, raised_at}
use Rattle.book.proofs.rules.ChangeLaws.{Changes, no_pays}
use Rattle.book.proofs.rules.EntryChanges.{entry_changes, entry_row}
use Rattle.book.proofs.rules.LimitLaws.{many_places}
use Rattle.book.proofs.rules.ListLaws.{all_join, all_left, all_right, find_split}
use Rattle.book.proofs.rules.MakingLaws.{accepted_limited, accepted_many, accepted_grouped}
use Rattle.book.specs.declared.Book.{Book}
use Rattle.book.proofs.rules.StepLaws.{Opens, Raises, Names, enters, by_kind, step_accepted, step_refused, accepted_opens, accepted_raises, accepted_names, step_answer, allowed_answer}
use Rattle.book.proofs.rules.DrawingLaws.{after_fit, after_names, after_entered}
use Rattle.book.specs.inner.Ways.{Entered}

-- a period just opened
pub fresh_in_book : (n : ℕ) (grouping : Grouping) (k : ℕ) → n ≤ places → InBook n grouping (fresh k)
unfolding fresh leaves side_total
fresh_in_book n grouping k few = record {
  sound = record {
    totals_size = refl;
    by_size = zeros_length places;
    to_size = zeros_length (tiers * places);
    received_size = zeros_length places;
    arrears_size = zeros_length places;
    kept = kept;
    bounded = record { few = few; by_total = omega (arith, no_pays n); to_total = omega (arith, none_to) };
    at_stage = record { nothing_received = λ i _. zeros_at places i; nothing_paid_lem = λ i _. zeros_at places i };
  };
  stays = refl;
  row = λ e. absurd (true≢false (ap is_opened e));
}
  where
    none_to : sum (over_tiers (tier_at (zeros (tiers * places)))) n ≡ 0
    none_to = sum_zero (over_tiers (tier_at (zeros (tiers * places)))) n (λ i _. zeros_over (tiers * places) i)

    kept : (side : ℕ) → side < 2 → at (0 ∷ 0 ∷ []) side ≡ side_total n (fresh k) side
    kept zero l = sym (no_pays n)
    kept (suc zero) l = sym none_to
    kept (suc (suc side)) l = absurd (omega arith)

pub fresh_holds : (n k : ℕ) → holds n (fresh k) ≡ 0
unfolding fresh holds held
fresh_holds n k = omega (arith, no_pays n)

module _ (s : State) (f : SoundState s) where
  -- one more period
  pub added_fit : (p : Period) → length s.periods < s.limits.periods → InBook s.n s.grouping p → SoundState (added s p)
  unfolding added
  added_fit p room h = record {
    limited = f.limited;
    many = f.many;
    grouped = f.grouped;
    few = omega (arith, length-append s.periods (p ∷ []), room);
    each = all_join (InBook s.n s.grouping) s.periods (p ∷ []) f.each (h, tt);
    purses_size = f.purses_size;
    purse_le = f.purse_le;
  }

  -- one period less
  pub removed_fit : (j : ℕ) → j < length s.periods → SoundState (removed s j)
  unfolding removed
  removed_fit j used =
      let older = take j s.periods in
      let younger = drop (suc j) s.periods in
      let out = get_or s.periods j no_period in
      let all = subst (All (InBook s.n s.grouping)) (split_at s.periods j no_period used) f.each in
      record {
        limited = f.limited;
        many = f.many;
        grouped = f.grouped;
        few = omega (arith, f.few, ap length (split_at s.periods j no_period used), length-append older (out ∷ younger), length-append older younger);
        each = all_join (InBook s.n s.grouping) older younger (all_left (InBook s.n s.grouping) older (out ∷ younger) all) (all_right (InBook s.n s.grouping) older (out ∷ younger) all).1;
        purses_size = f.purses_size;
        purse_le = f.purse_le;
      }

-- the period that an accepted entry names
module _ (s : State) (x : Input) (f : SoundState s) (i : Entered s x) (o : Names s x) where
  abbrev j : ℕ
  j = find (period_of x.entry) s.periods

  abbrev pub named : Period
  named = period_at (period_of x.entry) s.periods

  abbrev pub older : List Period
  older = take (find (period_of x.entry) s.periods) s.periods

  abbrev pub younger : List Period
  younger = drop (suc (find (period_of x.entry) s.periods)) s.periods

  split : All (InBook s.n s.grouping) (older ++ named ∷ younger)
  split = subst (All (InBook s.n s.grouping)) (find_split (period_of x.entry) s.periods o.found) f.each

  pub named_in_book : InBook s.n s.grouping named
  named_in_book = (all_right (InBook s.n s.grouping) older (named ∷ younger) split).0

  pub named_changes : Changes s.n (receipt_cents x.entry) named (changed s.n s.grouping x.entry named)
  named_changes = entry_changes s.n named named_in_book x.entry _ o.not_open o.not_purse i.fields o.passed

  sizes : length s.periods ≡ length older + suc (length younger)
  sizes = ap length (find_split (period_of x.entry) s.periods o.found) ∙ length-append older (named ∷ younger)

  pub moved_fit : SoundState (stored s (find (period_of x.entry) s.periods) (changed s.n s.grouping x.entry (period_at (period_of x.entry) s.periods)).period)
  unfolding stored replaced removed
  moved_fit =
      let p' = (changed s.n s.grouping x.entry named).period in
      let left = all_left (InBook s.n s.grouping) older (named ∷ younger) split in
      let right = (all_right (InBook s.n s.grouping) older (named ∷ younger) split).1 in
      cases SoundState (leaves s.n p')
      (λ _. removed_fit s f j o.found)
      (λ q. record {
        limited = f.limited;
        many = f.many;
        grouped = f.grouped;
        few = omega (arith, f.few, sizes, length-append older (p' ∷ younger));
        each = all_join (InBook s.n s.grouping) older (p' ∷ younger) left (record { sound = named_changes.sound; stays = q; row = entry_row s.n named named_in_book x.entry _ o.not_open o.not_purse o.passed }, right);
        purses_size = f.purses_size;
        purse_le = f.purse_le;
      })

acted_fit : (s : State) (x : Input) → SoundState s → Entered s x → Names s x → SoundState (acted s x).state
unfolding acted
acted_fit s x f i o = moved_fit s x f i o

module _ (s : State) (x : Input) (f : SoundState s) where
  opened_fit : Opens s x → SoundState (added s (fresh (period_of x.entry)))
  opened_fit o = added_fit s f (fresh (period_of x.entry)) o.room (fresh_in_book s.n s.grouping (period_of x.entry) (many_places f))

  raised_fit : Raises s x → SoundState (with_purses s (raised s.purses (purse_of x.entry) (purse_cents x.entry)))
  raised_fit o =
      let i = purse_of x.entry in
      let c = purse_cents x.entry in
      record {
        limited = f.limited;
        many = f.many;
        grouped = f.grouped;
        few = f.few;
        each = f.each;
        purses_size = raised_length s.purses i c ∙ f.purses_size;
        purse_le = λ j h. rw (raised_at s.purses i c (omega (arith, o.member, many_places f, f.purses_size)) j)
            (cases_eq (λ z. z + at s.purses j ≤ purse_limit) i j (λ e. subst (λ k. c + at s.purses k ≤ purse_limit) e (omega (arith, o.fits))) (λ _. omega (arith, f.purse_le j h)));
      }

  pub step_fit : SoundState (step s x).state
  step_fit = go (eqb (refusal (checks s x)) 0) refl
    where
      taken : Entered s x → Opens s x ⊎ (Raises s x ⊎ Names s x) → refusal (checks s x) ≡ 0 → SoundState (step s x).state
      taken i (inl o) e = rw (step_accepted s x e, accepted_opens s x o) (opened_fit o)
      taken i (inr (inl o)) e = rw (step_accepted s x e, accepted_raises s x o) (raised_fit o)
      taken i (inr (inr o)) e = rw (step_accepted s x e, accepted_names s x o) (acted_fit (after_drawing s x.entry) x (after_fit s x.entry f o.found) (after_entered s x i) (after_names s x f o))

      go : (t : Bool) → eqb (refusal (checks s x)) 0 ≡ t → SoundState (step s x).state
      go true q =
          let e = eqb-true (refusal (checks s x)) 0 q in
          let i = enters s x e in
          taken i.0 (by_kind s x i.1) e
      go false q = rw (step_refused s x (eqb-false (refusal (checks s x)) 0 q)) f

-- the record of a state stands for that state
pub view_pack : (s : State) → view (pack s) ≡ s
unfolding pack
view_pack s = λ z. record {
  n = s.n;
  grouping = s.grouping;
  limits = s.limits;
  highest = s.highest;
  periods = take-append_seam s.periods (replicate (period_places - length s.periods) (fresh 0)) z;
  purses = s.purses;
}

pub pack_valid : (s : State) → SoundState s → Valid (pack s)
pack_valid s f = record { packed = ap pack (sym (view_pack s)); fit = subst SoundState (sym (view_pack s)) f }

pub made_fit : (m : Making) → SoundState (made m).state
unfolding made
made_fit m = record {
  limited = fits.0;
  many = fits.1;
  few = omega arith;
  grouped = fits.2;
  each = tt;
  purses_size = zeros_length places;
  purse_le = λ i _. omega (arith, zeros_at places i);
}
  where
    Fits : Making → Type 0
    Fits k = UpTo market k.limits × (k.n ≤ k.limits.participants) × (grouping_allowed k.n k.grouping ≡ true)

    fits : Fits (cond (eqb (refusal (making_checks m)) 0) (kept m) no_making)
    fits = cases Fits (eqb (refusal (making_checks m)) 0)
        (λ q. let e = eqb-true (refusal (making_checks m)) 0 q in (accepted_limited m e, accepted_many m e, accepted_grouped m e))
        (λ _. (
          record { participants = omega arith; periods = omega arith },
          omega arith,
          grouping_allowed_lem 0 no_making.grouping (λ i h. absurd (omega arith)) (λ k _. omega (arith, zeros_at group_count k)),
        ))

pub stays_valid : StaysValid
unfolding reply
stays_valid = record {
  first = λ m. pack_valid (made m).state (made_fit m);
  next = λ b x v. pack_valid (step (view b) x).state (step_fit (view b) x v.fit);
}

pub refusal_changes_nothing : RefusalChangesNothing
unfolding reply
refusal_changes_nothing b x v ne =
    let e = step_refused (view b) x (λ q. ne (step_answer (view b) x ∙ q)) in
    (ap (λ (o : Outcome). pack o.state) e ∙ sym v.packed, ap (λ (o : Outcome). o.words) e)

changed_rounds : (n : ℕ) (grouping : Grouping) (e : Entry) (p : Period) → is_settle e ≡ false → (changed n grouping e p).rounds ≡ 0
unfolding changed with_late_receipt
changed_rounds n grouping e p q =
    let P : Change → Type 0 = λ c. c.rounds ≡ 0 in
    cases P (is_amount e) (λ _. refl)
    (λ _. cases P (is_notice e) (λ _. refl)
    (λ _. cases P (is_receipt e) (λ _. cases P (is_settled p.stage) (λ _. refl) (λ _. refl))
    (λ _. rw q refl)))

accepted_rounds : (s : State) (x : Input) → is_settle x.entry ≡ false → (accepted s x).rounds ≡ 0
unfolding accepted acted
accepted_rounds s x q =
    let P : Outcome → Type 0 = λ o. o.rounds ≡ 0 in
    cases P (is_open x.entry) (λ _. refl)
    (λ _. cases P (is_purse x.entry) (λ _. refl) (λ _. changed_rounds _ _ x.entry _ q))

pub rounds_of_settlements : RoundsOfSettlements
unfolding reply step
rounds_of_settlements = record {
  refused = λ b x ne. ap (λ (o : Outcome). o.rounds) (step_refused (view b) x (λ q. ne (step_answer (view b) x ∙ q)));
  others = λ b x q. cases (λ (o : Outcome). o.rounds ≡ 0) (eqb (refusal (checks (view b) x)) 0) (λ _. accepted_rounds (view b) x q) (λ _. refl);
}

-- an entry whose fields are within their values is answered 0 or above 3
pub reply_answer : (b : Book) (x : Input) → allowed x.entry ≡ true → ((reply b x).answer ≡ 0) ⊎ (3 < (reply b x).answer)
unfolding reply
reply_answer b x h = allowed_answer (view b) x h
