-- The ways of an entry: what is known of an accepted one, and that a refused one changes nothing.
use Prim.Native.Nat.{ℕ, ◌+◌, ◌≤◌, ◌<◌}
use mathlib.Core.Path.{◌≡◌, refl, sym, subst, ◌∙◌}
use mathlib.Core.Bool.{Bool, true, false, cond, not, false≢true}
use mathlib.Core.List.{List, drop}
use mathlib.Core.Logic.{◌⊎◌, inl, inr}
use native.Mathlib.Omega.{arith}
use borrow.Author.Tests.{eq-eqb, ne_eqb, eqb-true, eqb-false, ltb-false, leb-false, not-false}
use lib.Dec.{eqb, ltb, leb}
use lib.ListN.{length}
use Rattle.exact.specs.Rows.{at}
use Rattle.exact.proofs.Cases.{cases}
use Rattle.book.specs.Checks.{Check, refusal}
use Rattle.book.specs.layouts.Allowed.{allowed}
use Rattle.book.specs.rules.Kinds.{period_of, is_open, is_purse, is_amount, is_notice, is_receipt, is_settle, purse_of, purse_cents}
use Rattle.book.specs.rules.Periods.{leaves}
use Rattle.book.specs.rules.State.{State, find, period_at, replaced, removed}
use Rattle.book.specs.rules.Purses.{purse_limit, after_drawing}
use Rattle.book.specs.rules.Refusals.{Input, period_checks, barring, open_checks, purse_checks, named_checks, kind_checks, checks}
use Rattle.book.specs.rules.Step.{Outcome, stored, opened, purse_raised, acted, accepted, refused, step}
use Rattle.book.specs.declared.Period.{Period}
use Rattle.book.proofs.rules.CheckLaws.{passes, all_pass, AllAbove, refuses_above}
use Rattle.book.specs.inner.Ways.{Entered}

module _ (s : State) (x : Input) where
  -- the checks of an open entry are passed, of a purse entry, or of one that names a period in the book
  pub record Opens : Type 0 where
    pub is_open_lem : is_open x.entry ≡ true
    pub above : s.highest < period_of x.entry
    pub room : length s.periods < s.limits.periods

  pub record Raises : Type 0 where
    pub not_open : is_open x.entry ≡ false
    pub is_purse_lem : is_purse x.entry ≡ true
    pub member : purse_of x.entry < s.n
    pub fits : at s.purses (purse_of x.entry) + purse_cents x.entry ≤ purse_limit

  pub record Names : Type 0 where
    pub not_open : is_open x.entry ≡ false
    pub not_purse : is_purse x.entry ≡ false
    pub found : find (period_of x.entry) s.periods < length s.periods
    pub passed : refusal (period_checks s.n (barring x.entry s.periods) x.entry (period_at (period_of x.entry) s.periods)) ≡ 0

  pub enters : refusal (checks s x) ≡ 0 → Entered s x × (refusal (kind_checks s x.entry) ≡ 0)
  enters e =
      let a = passes (eqb s.n 0) 3 (drop 1 (checks s x)) e in
      let b = passes (ltb (length x.words) s.n) 4 (drop 2 (checks s x)) a.1 in
      let c = passes (not (allowed x.entry)) 2 (kind_checks s x.entry) b.1 in (
        record {
          some = let ne : s.n ≡ 0 → ⊥ = eqb-false s.n 0 a.0 in omega arith;
          enough = ltb-false (length x.words) s.n b.0;
          fields = not-false (allowed x.entry) c.0;
        },
        c.1,
      )

  pub opens : is_open x.entry ≡ true → refusal (open_checks s (period_of x.entry)) ≡ 0 → Opens
  opens q e =
      let f = all_pass (open_checks s (period_of x.entry)) refl e in
      record { is_open_lem = q; above = leb-false (period_of x.entry) s.highest f.0; room = leb-false s.limits.periods (length s.periods) f.1.0 }

  pub raises : is_open x.entry ≡ false → is_purse x.entry ≡ true → refusal (purse_checks s (purse_of x.entry) (purse_cents x.entry)) ≡ 0 → Raises
  raises o q e =
      let f = all_pass (purse_checks s (purse_of x.entry) (purse_cents x.entry)) refl e in
      record {
        not_open = o;
        is_purse_lem = q;
        member = leb-false s.n (purse_of x.entry) f.0;
        fits = ltb-false purse_limit (at s.purses (purse_of x.entry) + purse_cents x.entry) f.1.0;
      }

  pub by_kind : refusal (kind_checks s x.entry) ≡ 0 → Opens ⊎ (Raises ⊎ Names)
  by_kind = go (is_open x.entry) (is_purse x.entry) refl refl
    where
      naming : is_open x.entry ≡ false → is_purse x.entry ≡ false → refusal (named_checks s x.entry) ≡ 0 → Names
      naming q u e =
          let f = passes (leb (length s.periods) (find (period_of x.entry) s.periods)) 7 (drop 1 (named_checks s x.entry)) e in
          record { not_open = q; not_purse = u; found = leb-false (length s.periods) (find (period_of x.entry) s.periods) f.0; passed = f.1 }

      go : (t u : Bool) → is_open x.entry ≡ t → is_purse x.entry ≡ u
          → refusal (cond t (open_checks s (period_of x.entry)) (cond u (purse_checks s (purse_of x.entry) (purse_cents x.entry)) (named_checks s x.entry))) ≡ 0
          → Opens ⊎ (Raises ⊎ Names)
      go true u q r e = inl (opens q e)
      go false true q r e = inr (inl (raises q r e))
      go false false q r e = inr (inr (naming q r e))

  pub step_accepted : refusal (checks s x) ≡ 0 → step s x ≡ accepted s x
  unfolding step
  step_accepted e = rw (eq-eqb (refusal (checks s x)) 0 e)

  pub step_refused : (refusal (checks s x) ≡ 0 → ⊥) → step s x ≡ refused s x (refusal (checks s x))
  unfolding step
  step_refused e = rw (ne_eqb (refusal (checks s x)) 0 e)

  pub accepted_opens : Opens → accepted s x ≡ opened s (period_of x.entry) x.words
  unfolding accepted
  accepted_opens o = rw o.is_open_lem

  pub accepted_raises : Raises → accepted s x ≡ purse_raised s (purse_of x.entry) (purse_cents x.entry) x.words
  unfolding accepted
  accepted_raises o = rw (o.not_open, o.is_purse_lem)

  pub accepted_names : Names → accepted s x ≡ acted (after_drawing s x.entry) x
  unfolding accepted
  accepted_names o = rw (o.not_open, o.not_purse)

  -- an accepted entry is answered 0, so an entry answered 0 was accepted
  pub accepted_answer : (accepted s x).answer ≡ 0
  unfolding accepted acted
  accepted_answer =
      let P : Outcome → Type 0 = λ o. o.answer ≡ 0 in
      cases P (is_open x.entry) (λ _. refl) (λ _. cases P (is_purse x.entry) (λ _. refl) (λ _. refl))

  pub step_answer : (step s x).answer ≡ refusal (checks s x)
  unfolding step
  step_answer = go (eqb (refusal (checks s x)) 0) refl
    where
      go : (t : Bool) → eqb (refusal (checks s x)) 0 ≡ t → (cond t (accepted s x) (refused s x (refusal (checks s x)))).answer ≡ refusal (checks s x)
      go true q = accepted_answer ∙ sym (eqb-true (refusal (checks s x)) 0 q)
      go false q = refl

  -- an entry whose fields are within their values is never answered 1, 2 or 3
  kinds_above : AllAbove 3 (kind_checks s x.entry)
  kinds_above =
      let e = x.entry in
      let P : List Check → Type 0 = AllAbove 3 in
      cases P (is_open e) (λ _. omega arith) (λ _. cases P (is_purse e) (λ _. omega arith)
      (λ _. (
        omega arith,
        cases P (is_amount e) (λ _. omega arith)
            (λ _. cases P (is_notice e) (λ _. omega arith)
            (λ _. cases P (is_receipt e) (λ _. omega arith)
            (λ _. cases P (is_settle e) (λ _. omega arith) (λ _. tt)))),
      )))

  pub allowed_answer : allowed x.entry ≡ true → ((step s x).answer ≡ 0) ⊎ (3 < (step s x).answer)
  allowed_answer h = subst (λ (k : ℕ). (k ≡ 0) ⊎ (3 < k)) (sym step_answer)
      (go (eqb s.n 0) (ltb (length x.words) s.n) (allowed x.entry) h (refuses_above 3 (kind_checks s x.entry) kinds_above))
    where
      rest : ℕ
      rest = refusal (kind_checks s x.entry)

      go : (a b c : Bool) → c ≡ true → (rest ≡ 0) ⊎ (3 < rest)
          → let k = cond {A = ℕ} a 4 (cond b 5 (cond (not c) 3 rest)) in (k ≡ 0) ⊎ (3 < k)
      go true b c h r = inr (omega arith)
      go false true c h r = inr (omega arith)
      go false false true h r = r
      go false false false h r = absurd (false≢true h)

-- a period that leaves is taken out, one that stays is stored
module _ (s : State) (j : ℕ) (p : Period) where
  pub stored_leaves : leaves s.n p ≡ true → stored s j p ≡ removed s j
  unfolding stored
  stored_leaves l = rw l

  pub stored_stays : leaves s.n p ≡ false → stored s j p ≡ replaced s j p
  unfolding stored
  stored_stays l = rw l
