-- A book whose limits are not below those of another accepts what that one accepts, and pays the same.
use Prim.Native.Nat.{ℕ, ◌≤◌}
use mathlib.Core.Path.{◌≡◌, refl, sym, ap, ◌∙◌}
use mathlib.Core.Bool.{Bool, true, false, cond}
use mathlib.Core.List.{List, [], ◌∷◌}
use mathlib.Core.Logic.{⊎_elim}
use native.Mathlib.Omega.{arith}
use borrow.Author.Tests.{eq-eqb, ne_eqb, lt-leb, le-ltb}
use lib.Dec.{eqb}
use lib.ListN.{length}
use Rattle.exact.proofs.Cases.{cases, eq_or_ne}
use Rattle.book.specs.Checks.{refusal}
use Rattle.book.specs.rules.Kinds.{is_open, is_purse, period_of}
use Rattle.book.specs.rules.Limits.{market, demonstration, UpTo}
use Rattle.book.specs.rules.Periods.{leaves}
use Rattle.book.specs.rules.State.{State, pack, replaced, removed, added}
use Rattle.book.specs.rules.Purses.{drawn_from, periods_after, purses_after, after_drawing}
use Rattle.book.specs.rules.Makings.{making_checks, Made, made, kept, empty_state, Agree}
use Rattle.book.specs.rules.Refusals.{Input, checks}
use Rattle.book.specs.rules.Step.{Outcome, stored, acted, accepted, step, reply, replies}
use Rattle.book.specs.rules.SamePayouts.{replies_from, AllAccepted, payouts, PaysAlike, SamePayouts, limited_to}
use Rattle.book.specs.declared.entries.Entry.{Entry}
use Rattle.book.specs.declared.Period.{Period}
use Rattle.book.specs.declared.limits.Limits.{Limits}
use Rattle.book.specs.declared.makings.Making.{Making}
use Rattle.book.proofs.rules.MakingLaws.{accepted_some, accepted_many, accepted_allowed, makes, refused_book, same_books}
use Rattle.book.proofs.rules.StepLaws.{opens, enters, step_accepted, step_answer}
use Rattle.book.proofs.rules.ValidLaws.{view_pack}

-- a state with other limits
abbrev limited_by : Limits → State → State
limited_by limits s = record { n = s.n; grouping = s.grouping; limits = limits; highest = s.highest; periods = s.periods; purses = s.purses }

-- an outcome, of which the state has other limits
abbrev with_limits : Limits → Outcome → Outcome
with_limits limits o = record { answer = o.answer; rounds = o.rounds; state = limited_by limits o.state; words = o.words }

-- what is drawn, and what an accepted entry makes of the book, does not go by its limits
module _ (limits : Limits) (s : State) where
  after_alike : (e : Entry) → after_drawing (limited_by limits s) e ≡ limited_by limits (after_drawing s e)
  unfolding periods_after purses_after drawn_from replaced
  after_alike e = refl

  stored_alike : (j : ℕ) (p : Period) → stored (limited_by limits s) j p ≡ limited_by limits (stored s j p)
  unfolding stored replaced removed
  stored_alike j p = go (leaves s.n p)
    where
      go : (t : Bool) → cond t (removed (limited_by limits s) j) (replaced (limited_by limits s) j p) ≡ limited_by limits (cond t (removed s j) (replaced s j p))
      go true = refl
      go false = refl

  acted_alike : (x : Input) → acted (limited_by limits s) x ≡ with_limits limits (acted s x)
  unfolding acted
  acted_alike x = ap (λ (t : State). record { answer = 0; rounds = (acted s x).rounds; state = t; words = (acted s x).words }) (stored_alike _ _)

accepted_alike : (limits : Limits) (s : State) (x : Input) → accepted (limited_by limits s) x ≡ with_limits limits (accepted s x)
unfolding accepted added
accepted_alike limits s x = go (is_open x.entry) (is_purse x.entry) refl refl
  where
    go : (t u : Bool) → is_open x.entry ≡ t → is_purse x.entry ≡ u → accepted (limited_by limits s) x ≡ with_limits limits (accepted s x)
    go true u q r = rw q refl
    go false true q r = rw (q, r) refl
    go false false q r = rw (q, r) (ap (λ (t : State). acted t x) (after_alike limits s x.entry) ∙ acted_alike limits (after_drawing s x.entry) x)

-- so what the book accepts, one whose period limit is not below accepts, and leaves alike
module _ (limits : Limits) (s : State) (x : Input) (above : s.limits.periods ≤ limits.periods) (e : refusal (checks s x) ≡ 0) where
  checks_alike : refusal (checks (limited_by limits s) x) ≡ 0
  checks_alike = go (is_open x.entry) refl
    where
      opened : is_open x.entry ≡ true → refusal (checks (limited_by limits s) x) ≡ 0
      opened q =
          let i = enters s x e in
          let o = opens s x q (rw q at i.1) in
          rw (
            ne_eqb s.n 0 (λ z. omega (arith, i.0.some)),
            le-ltb (length x.words) s.n i.0.enough,
            i.0.fields,
            q,
            lt-leb (period_of x.entry) s.highest o.above,
            lt-leb limits.periods (length s.periods) (omega (arith, o.room)),
          )

      go : (t : Bool) → is_open x.entry ≡ t → refusal (checks (limited_by limits s) x) ≡ 0
      go true q = opened q
      go false q = rw q (rw q at e)

  step_alike : step (limited_by limits s) x ≡ with_limits limits (step s x)
  step_alike = step_accepted (limited_by limits s) x checks_alike ∙ accepted_alike limits s x ∙ ap (with_limits limits) (sym (step_accepted s x e))

-- an entry leaves the limits
step_limits : (s : State) (x : Input) → (step s x).state.limits ≡ s.limits
unfolding step accepted acted stored replaced removed added
step_limits s x =
    let P : Outcome → Type 0 = λ o. o.state.limits ≡ s.limits in
    cases P (eqb (refusal (checks s x)) 0)
    (λ _. cases P (is_open x.entry) (λ _. refl)
    (λ _. cases P (is_purse x.entry) (λ _. refl)
    (λ _. cases (λ (t : State). t.limits ≡ s.limits) (leaves s.n _) (λ _. refl) (λ _. refl))))
    (λ _. refl)

reply_packed : (s : State) (x : Input) → reply (pack s) x ≡ record { answer = (step s x).answer; rounds = (step s x).rounds; book = pack (step s x).state; words = (step s x).words }
unfolding reply
reply_packed s x = ap (λ (t : State). record { answer = (step t x).answer; rounds = (step t x).rounds; book = pack (step t x).state; words = (step t x).words }) (view_pack s)

replies_alike : (limits : Limits) (s : State) → s.limits.periods ≤ limits.periods → (inputs : List Input) → AllAccepted (replies (pack s) inputs)
    → AllAccepted (replies (pack (limited_by limits s)) inputs) × (payouts (replies (pack (limited_by limits s)) inputs) ≡ payouts (replies (pack s) inputs))
unfolding replies
replies_alike limits s above [] h = (tt, refl)
replies_alike limits s above (x ∷ inputs) h =
    let z : (step s x).answer ≡ 0 = rw (reply_packed s x) at h.0 in
    let e = sym (step_answer s x) ∙ z in
    let more = replies_alike limits (step s x).state (rw (step_limits s x) above) inputs (rw (reply_packed s x) at h.1) in
    rw (reply_packed s x, reply_packed (limited_by limits s) x, step_alike limits s x above e) ((z, more.0), ap (λ (l : List (List ℕ)). (step s x).words ∷ l) more.1)

-- a book that accepts an entry was made
was_made : (m : Making) (x : Input) → (reply (pack (made m).state) x).answer ≡ 0 → refusal (making_checks m) ≡ 0
unfolding made
was_made m x h =
    ⊎_elim (λ e. e)
    (λ ne. absurd (omega (arith, refused_book.answers m ne x, let z : (step (made m).state x).answer ≡ 0 = rw (reply_packed (made m).state x) at h in z)))
    (eq_or_ne (refusal (making_checks m)) 0)

made_state : (m : Making) → refusal (making_checks m) ≡ 0 → (made m).state ≡ empty_state (kept m)
unfolding made
made_state m e = rw (eq-eqb (refusal (making_checks m)) 0 e)

module _ (a b : Making) (same : Agree a b) (above : UpTo b.limits a.limits) (limited : UpTo market b.limits) where
  -- what a is made with, but the limits of b
  abbrev c : Making
  c = limited_to b.limits a.n a.grouping

  made_alike : refusal (making_checks a) ≡ 0 → (made b).state ≡ limited_by b.limits (made a).state
  made_alike e =
      let some = accepted_some a e in
      let z = makes c some.0 (omega (arith, accepted_many a e, above.participants)) (omega (arith, some.1, above.periods)) limited (accepted_allowed a e) in
      ap (λ (m : Made). m.state) (sym (same_books c b (record { n = same.n; groups = same.groups; reserves = same.reserves }) refl))
      ∙ made_state c z ∙ sym (ap (limited_by b.limits) (made_state a e))

  pays_alike : (inputs : List Input) → AllAccepted (replies_from a inputs) → PaysAlike a b inputs
  unfolding replies
  pays_alike [] h = record { accepted = tt; same = refl }
  pays_alike (x ∷ inputs) h =
      let e = was_made a x h.0 in
      let lower : (made a).state.limits.periods ≤ b.limits.periods = rw (made_state a e) above.periods in
      let r = replies_alike b.limits (made a).state lower (x ∷ inputs) h in
      record { accepted = rw (made_alike e) r.0; same = rw (made_alike e) r.1 }

pub same_payouts : SamePayouts
same_payouts = record {
  any = pays_alike;
  demonstrated = λ n grouping inputs h.
      pays_alike (limited_to demonstration n grouping) (limited_to market n grouping)
      (record { n = refl; groups = λ i _. refl; reserves = refl })
      (record { participants = omega arith; periods = omega arith })
      (record { participants = omega arith; periods = omega arith })
      inputs h;
}
