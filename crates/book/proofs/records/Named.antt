-- What is known where the program has found the period that an entry names, at place j of the record.
use Prim.Native.Nat.{ℕ, suc, ◌+◌, ◌-◌, ◌≤◌, ◌<◌, ◌^◌, min}
use mathlib.Core.Path.{◌≡◌, refl, sym, ap, ap₂, subst, ◌∙◌}
use mathlib.Core.Bool.{true, false, cond, false≢true}
use mathlib.Core.List.{List, ◌∷◌, ◌++◌}
use native.Mathlib.Omega.{arith}
use borrow.Author.Tests.{eqb-true}
use lib.ListN.{length, get_or, set, take, drop, length-take}
use lib.Seq.{get_or-set_same, set-get_or, set-set}
use Rattle.exact.specs.Rows.{at, sum}
use Rattle.exact.proofs.Cases.{cases}
use Rattle.book.specs.Checks.{refusal}
use Rattle.book.specs.layouts.Entries.{kind_of, entry_of, field}
use Rattle.book.specs.layouts.Allowed.{allowed, cents_limit}
use Rattle.book.specs.rules.Kinds.{period_of, is_open, is_purse, is_receipt, is_settle, receipt_cents}
use Rattle.book.specs.rules.Periods.{is_noticed, leaves, holds, changed}
use Rattle.book.specs.rules.State.{State, view, pack, held_by, find, no_period, period_at, earlier_arrears, replaced, removed, with_periods, with_purses}
use Rattle.book.specs.rules.Purses.{with_drawn, purses_left, settles, periods_after, purses_after, after_drawing}
use Rattle.book.specs.rules.Refusals.{Input, period_checks, barring, checks}
use Rattle.book.specs.rules.Step.{moved, acted, accepted}
use Rattle.book.specs.rules.Valid.{InBook, SoundState, Valid}
use Rattle.book.specs.declared.entries.Entry.{Entry}
use Rattle.book.specs.declared.Period.{Period}
use Rattle.book.specs.declared.Book.{Book}
use Rattle.book.proofs.layouts.EntryLaws.{of_kind}
use Rattle.book.proofs.rules.Passing.{receipt_inside}
use Rattle.book.proofs.rules.ChangeLaws.{Changes}
use Rattle.book.proofs.rules.StepLaws.{Names, accepted_names}
use Rattle.book.proofs.rules.ValidLaws.{named_changes, view_pack, pack_valid}
use Rattle.book.proofs.rules.ListLaws.{all_at, find_split}
use Rattle.book.proofs.rules.CentsLaws.{held_replaced, held_removed}
use Rattle.book.proofs.rules.DrawingLaws.{settling, settle_finds, settles_passes, by_drawing, after_fit, after_held, after_find, after_length, after_older, after_younger, after_checks, after_names, after_entered}
use Rattle.book.proofs.records.Packing.{count_is, read_at, kept_held, renewed, put, stored}
use Rattle.book.proofs.records.Bounds.{held_bound, holds_within}
use Rattle.book.proofs.records.Replies.{to_period}
use Rattle.book.specs.inner.Ways.{Entered, NamedAt}

-- a receipt's cents are within their limit
pub cents_within : (e : Entry) → allowed e ≡ true → receipt_cents e ≤ cents_limit
unfolding entry_of
cents_within e a = cases (λ (c : ℕ). c ≤ cents_limit) (is_receipt e)
    (λ q. of_kind (λ (e : Entry). allowed e ≡ true → field e 2 ≤ cents_limit) 5 e (eqb-true (kind_of e) 5 q) (λ a. (receipt_inside (field e 0) (field e 1) (field e 2) a).1) a)
    (λ _. omega arith)

-- the entry names the period at place j, which is in use
pub record Found (b : Book) (e : Entry) (w : List ℕ) (j : ℕ) : Type 0 where
  pub valid : Valid b
  pub entered : Entered (view b) (record { entry = e; words = w })
  pub not_open : is_open e ≡ false
  pub not_purse : is_purse e ≡ false
  pub at_place : j ≡ find (period_of e) (view b).periods
  pub used : j < b.count

pub named_entry : {b : Book} {e : Entry} {j : ℕ} (w : List ℕ) → Valid b → NamedAt b e (length w) j → Found b e w j
named_entry w v m = record {
  valid = v;
  entered = record { some = m.some; enough = m.enough; fields = m.fields };
  not_open = m.not_open;
  not_purse = m.not_purse;
  at_place = m.at_place;
  used = m.used;
}

-- the period as the entry finds it, once what it draws has been moved
abbrev pub found_period : Book → Entry → Period
found_period b e = period_at (period_of e) (periods_after (view b) e)

module _ {b : Book} {e : Entry} {w : List ℕ} {j : ℕ} (f : Found b e w j) where
  in_list : find (period_of e) (view b).periods < length (view b).periods
  in_list = omega (arith, count_is f.valid, f.at_place, f.used)

  found_fit : SoundState (after_drawing (view b) e)
  found_fit = after_fit (view b) e f.valid.fit in_list

  -- it is at the same place
  found_place : j ≡ find (period_of e) (periods_after (view b) e)
  found_place = f.at_place ∙ sym (after_find (view b) e f.valid.fit in_list)

  found_within : j < length (periods_after (view b) e)
  found_within = omega (arith, in_list, f.at_place, after_length (view b) e f.valid.fit in_list)

  here : found_period b e ≡ get_or (periods_after (view b) e) j no_period
  here = ap (λ (k : ℕ). get_or (periods_after (view b) e) k no_period) (sym found_place)

  pub found_in_book : InBook b.n b.grouping (found_period b e)
  found_in_book = subst (InBook b.n b.grouping) (sym here) (all_at (InBook b.n b.grouping) (periods_after (view b) e) j no_period found_within found_fit.each)

  -- the checks that are left are those of the period
  pub found_checks : refusal (checks (view b) (record { entry = e; words = w })) ≡ refusal (period_checks b.n (barring e (view b).periods) e (found_period b e))
  found_checks =
      to_period f.valid e w f.entered f.not_open f.not_purse in_list
      ∙ sym (after_checks (view b) e f.valid.fit in_list (barring e (view b).periods))

  -- an entry that settles the period passes them
  pub found_settles : settles e (period_at (period_of e) (view b).periods) ≡ true → refusal (checks (view b) (record { entry = e; words = w })) ≡ 0
  found_settles q = to_period f.valid e w f.entered f.not_open f.not_purse in_list ∙ settles_passes b.n (barring e (view b).periods) e (period_at (period_of e) (view b).periods) q

  -- an entry that does not settle it draws nothing
  pub found_still : (settles e (period_at (period_of e) (view b).periods) ≡ true → ⊥) → (found_period b e ≡ get_or b.periods j no_period) × (purses_after (view b) e ≡ b.purses)
  found_still ne = by_drawing (view b) e (λ ps q. (period_at (period_of e) ps ≡ get_or b.periods j no_period) × (q ≡ b.purses))
      (λ t. absurd (ne t))
      (λ _. (sym (read_at f.valid j f.used ∙ ap (λ (k : ℕ). get_or (view b).periods k no_period) f.at_place), refl))

  -- the book holds as much as before
  found_held : held_by (after_drawing (view b) e) ≡ b.held
  found_held = after_held (view b) e f.valid.fit in_list ∙ sym (kept_held f.valid)

  -- the sum of what is held and of a receipt fits 64 bits
  pub held_fits : b.held + receipt_cents e < 2 ^ 64
  held_fits = omega (arith, kept_held f.valid, held_bound (view b) f.valid.fit, cents_within e f.entered.fields)

  -- the book holds what the period holds
  pub held_within : holds b.n (found_period b e) ≤ b.held
  unfolding held_by
  held_within = rw here (omega (arith, found_held, holds_within b.n (periods_after (view b) e) j found_within))

-- and its checks are passed
pub record Passed (b : Book) (e : Entry) (w : List ℕ) (j : ℕ) : Type 0 where
  pub found : Found b e w j
  pub passed : refusal (period_checks b.n (barring e (view b).periods) e (found_period b e)) ≡ 0

module _ {b : Book} {e : Entry} {w : List ℕ} {j : ℕ} (f : Passed b e w j) where
  abbrev x : Input
  x = record { entry = e; words = w }

  abbrev t : State
  t = after_drawing (view b) e

  names : Names (view b) (record { entry = e; words = w })
  names = record {
    not_open = f.found.not_open;
    not_purse = f.found.not_purse;
    found = in_list f.found;
    passed = sym (after_checks (view b) e f.found.valid.fit (in_list f.found) (barring e (view b).periods)) ∙ f.passed;
  }

  after : Names (after_drawing (view b) e) (record { entry = e; words = w })
  after = after_names (view b) x f.found.valid.fit names

  enters : Entered (after_drawing (view b) e) (record { entry = e; words = w })
  enters = after_entered (view b) x f.found.entered

  pub passed_checks : refusal (checks (view b) (record { entry = e; words = w })) ≡ 0
  passed_checks = found_checks f.found ∙ f.passed

  pub passed_accepted : accepted (view b) (record { entry = e; words = w }) ≡ moved (after_drawing (view b) e) j (changed b.n b.grouping e (found_period b e)) w
  unfolding acted
  passed_accepted = accepted_names (view b) x names ∙ ap (λ (k : ℕ). moved t k (changed b.n b.grouping e (found_period b e)) w) (sym (found_place f.found))

  pub passed_changes : Changes b.n (receipt_cents e) (found_period b e) (changed b.n b.grouping e (found_period b e))
  passed_changes = named_changes t x (found_fit f.found) enters after

  -- the cents held, where the period stays and where it leaves
  pub held_stays : let c = changed b.n b.grouping e (found_period b e) in held_by (replaced (after_drawing (view b) e) j c.period) + sum (at c.pays) b.n ≡ b.held + receipt_cents e
  held_stays = subst (λ k. held_by (replaced t k (changed b.n b.grouping e (found_period b e)).period) + sum (at (changed b.n b.grouping e (found_period b e)).pays) b.n ≡ b.held + receipt_cents e)
      (sym (found_place f.found)) (omega (arith, found_held f.found, held_replaced t x (found_fit f.found) enters after))

  pub held_leaves : let c = changed b.n b.grouping e (found_period b e) in leaves b.n c.period ≡ true
      → held_by (removed (after_drawing (view b) e) j) + sum (at c.pays) b.n ≡ b.held + receipt_cents e
  held_leaves l = subst (λ k. held_by (removed t k) + sum (at (changed b.n b.grouping e (found_period b e)).pays) b.n ≡ b.held + receipt_cents e)
      (sym (found_place f.found)) (omega (arith, found_held f.found, held_removed t x (found_fit f.found) enters after l))

-- the record once what the entry draws has been moved: that of the state after drawing
module _ {b : Book} {e : Entry} {w : List ℕ} {j : ℕ} (f : Found b e w j) where
  older : take j (periods_after (view b) e) ≡ take j (view b).periods
  older = rw f.at_place (after_older (view b) e f.valid.fit (in_list f))

  younger : drop (suc j) (periods_after (view b) e) ≡ drop (suc j) (view b).periods
  younger = rw f.at_place (after_younger (view b) e f.valid.fit (in_list f))

  -- the period at place j stored over leaves what it would have without drawing, but for the purses
  pub stores : (p : Period) → replaced (after_drawing (view b) e) j p ≡ replaced (with_purses (view b) (purses_after (view b) e)) j p
  unfolding replaced
  stores p = ap₂ (λ (l r : List Period). with_purses (with_periods (view b) (l ++ p ∷ r)) (purses_after (view b) e)) older younger

  same : replaced (after_drawing (view b) e) j (found_period b e) ≡ after_drawing (view b) e
  unfolding replaced
  same = ap (λ (ps : List Period). with_purses (with_periods (view b) ps) (purses_after (view b) e))
      (subst (λ k. take k (periods_after (view b) e) ++ found_period b e ∷ drop (suc k) (periods_after (view b) e) ≡ periods_after (view b) e) (sym (found_place f))
      (sym (find_split (period_of e) (periods_after (view b) e) (omega (arith, found_place f, found_within f)))))

  pub drawn_book : put b j (found_period b e) b.held (purses_after (view b) e) ≡ pack (after_drawing (view b) e)
  drawn_book =
      let q = sym (stores (found_period b e)) ∙ same in
      stored f.valid j (found_period b e) b.held (purses_after (view b) e) f.used (sym (ap held_by q ∙ found_held f)) ∙ ap pack q

  pub drawn_valid : Valid (put b j (found_period b e) b.held (purses_after (view b) e))
  drawn_valid = subst Valid (sym drawn_book) (pack_valid (after_drawing (view b) e) (found_fit f))

  pub drawn_view : view (put b j (found_period b e) b.held (purses_after (view b) e)) ≡ after_drawing (view b) e
  drawn_view = ap view drawn_book ∙ view_pack (after_drawing (view b) e)

  pub drawn_read : get_or (set b.periods j (found_period b e)) j no_period ≡ found_period b e
  drawn_read = get_or-set_same b.periods j (found_period b e) no_period (omega (arith, f.used, count_is f.valid, length-take b.count b.periods))

  -- a period stored over what was drawn is stored over the one that was there
  pub stored_over : {d : Book} → d ≡ put b j (found_period b e) b.held (purses_after (view b) e) → (p : Period) (held : ℕ)
      → put d j p held d.purses ≡ put b j p held (purses_after (view b) e)
  stored_over q p held = ap (λ (d : Book). put d j p held d.purses) q ∙ ap (λ (ps : List Period). renewed b held ps (purses_after (view b) e)) (set-set b.periods j (found_period b e) p)

  -- another entry than a settle entry leaves the record
  pub drawn_other : is_settle e ≡ false → b ≡ put b j (found_period b e) b.held (purses_after (view b) e)
  drawn_other q =
      let still = found_still f (λ t. false≢true (sym q ∙ (settling e (period_at (period_of e) (view b).periods) t).0)) in
      λ z. renewed b b.held (sym (ap (set b.periods j) still.0 ∙ set-get_or b.periods j no_period) z) (sym still.1 z)

  -- a settle entry moves what it draws into its period
  module _ (settle : is_settle e ≡ true) (o : List ℕ)
      (drawable : (i : ℕ) → i < b.n → at o i ≡ cond (earlier_arrears i (get_or b.periods j no_period).number (view b).periods) 0 (at b.purses i)) where
    named : get_or b.periods j no_period ≡ period_at (period_of e) (view b).periods
    named = read_at f.valid j f.used ∙ ap (λ (k : ℕ). get_or (view b).periods k no_period) f.at_place

    pub drawn_settle : (q : Period) (left : List ℕ) → let p = get_or b.periods j no_period in let drawn : ℕ → ℕ = λ i. min (at o i) (at p.payable i - at p.received i) in
        q ≡ cond (is_noticed p.stage) (with_drawn b.n drawn p) p → left ≡ cond (is_noticed p.stage) (purses_left b.n drawn b.purses) b.purses
        → put b j q b.held left ≡ put b j (found_period b e) b.held (purses_after (view b) e)
    drawn_settle q left x y =
        let found = settle_finds (view b) e (in_list f) settle o (subst (λ (p : Period). (i : ℕ) → i < b.n → at o i ≡ cond (earlier_arrears i p.number (view b).periods) 0 (at b.purses i)) named drawable) in
        let d : Period → ℕ → ℕ = λ p i. min (at o i) (at p.payable i - at p.received i) in
        ap₂ (λ (q : Period) l. put b j q b.held l)
        (x ∙ ap (λ (p : Period). cond (is_noticed p.stage) (with_drawn b.n (d p) p) p) named ∙ found.0)
        (y ∙ ap (λ (p : Period). cond (is_noticed p.stage) (purses_left b.n (d p) b.purses) b.purses) named ∙ found.1)
