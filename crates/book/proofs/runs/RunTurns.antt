-- A turn of the block run: an entry that was entered, and a run of energy, amounts and washups.
use Prim.Native.Nat.{ℕ, zero, suc, ◌+◌, ◌-◌, ◌≤◌}
use mathlib.Core.Path.{◌≡◌, sym, ap, subst, subst₂, ◌∙◌}
use mathlib.Core.Bool.{Bool, true, false}
use mathlib.Core.Logic.{⊎_elim}
use mathlib.Core.List.{List, [], ◌∷◌}
use native.Mathlib.Omega.{arith}
use lib.Dec.{eqb}
use lib.ListN.{length, get_or}
use lib.Seq.{sets}
use Rattle.std.proofs.Common.{Result, Ok, Err}
use Rattle.exact.proofs.Cases.{cases}
use Rattle.book.specs.Checks.{refusal}
use Rattle.book.specs.rules.Kinds.{period_of, is_amount, addition}
use Rattle.book.specs.rules.Periods.{with_addition}
use Rattle.book.specs.layouts.Reading.{ReadOutcome, reading}
use Rattle.book.specs.rules.State.{view, no_period}
use Rattle.book.specs.rules.Refusals.{period_checks}
use Rattle.book.specs.rules.Step.{Reply}
use Rattle.book.specs.rules.Answers.{number_of}
use Rattle.book.specs.rules.Valid.{Valid}
use Rattle.book.specs.inner.Ways.{NamedAt}
use Rattle.book.specs.inner.Entering.{Enters}
use Rattle.book.specs.inner.Postings.{Postings, posts, postings, cleared}
use Rattle.book.specs.declared.answers.Refusal.{Refusal}
use Rattle.book.specs.declared.steps.Accepted.{Accepted}
use Rattle.book.specs.declared.entries.Entry.{Entry}
use Rattle.book.specs.declared.Period.{Period}
use Rattle.book.specs.declared.Book.{Book}
use Rattle.book.proofs.rules.ListLaws.{find_number}
use Rattle.book.proofs.records.Packing.{count_is, read_at, put}
use Rattle.book.proofs.runs.RunLaws.{read_or_none, Turn, Standing, goes_on}
use Rattle.book.proofs.runs.PostingSteps.{posts_it}
use Rattle.book.proofs.runs.PostingLaws.{Taken, postings_run, postings_valid}

-- the number of the period that an entry names
named_number : {b : Book} {e : Entry} {room j : ℕ} → Valid b → NamedAt b e room j → (get_or b.periods j no_period).number ≡ period_of e
named_number {b} {e} {room} {j} v m =
    ap (λ (p : Period). p.number) (read_at v j m.used ∙ ap (λ (k : ℕ). get_or (view b).periods k no_period) m.at_place)
    ∙ find_number (period_of e) (view b).periods (omega (arith, count_is v, m.used, m.at_place))

named_taken : {b : Book} {e : Entry} {j : ℕ} (words : List ℕ) → Valid b → NamedAt b e (length words) j → Taken b j words
named_taken words v m = record { valid = v; some = m.some; enough = m.enough; used = m.used; at_place = rw (named_number v m) m.at_place }

-- what the program tells of an entry that was entered: its answer, and the cents paid
abbrev pub Told : Result Accepted Refusal → (answer paid : ℕ) → Type 0
Told (Ok r) answer paid = (answer ≡ 0) × (paid ≡ r.paid)
Told (Err why) answer paid = (answer ≡ number_of (Err why)) × (paid ≡ 0)

-- the turn of an entry that was entered is the reply's, once its line is put
pub entered_turn : (b : Book) (e : Entry) (words lines : List ℕ) (wrote : ℕ) (r : Result Accepted Refusal) (b' : Book) (words' lines' : List ℕ) (answer paid held : ℕ)
    → Enters b (record { entry = e; words = words }) r b' words' → Told r answer paid → held ≡ b'.held → lines' ≡ sets lines wrote (answer ∷ paid ∷ held ∷ [])
    → Turn b e words lines wrote b' paid words' lines'
entered_turn b e words lines wrote (Ok r) b' words' lines' answer paid held q told same l =
    let answers = told.0 ∙ ap (λ (x : Reply). x.answer) q.0 in
    (ap (λ (x : Reply). x.book) q.0, told.1 ∙ q.1, ap (λ (x : Reply). x.words) q.0, l ∙ (λ i. sets lines wrote (answers i ∷ (told.1 ∙ q.1) i ∷ (same ∙ ap (λ (x : Reply). x.book.held) q.0) i ∷ [])))
entered_turn b e words lines wrote (Err why) b' words' lines' answer paid held q told same l =
    let answers = told.0 ∙ ap (λ (x : Reply). x.answer) q.0 in
    (ap (λ (x : Reply). x.book) q.0, told.1 ∙ q.1, ap (λ (x : Reply). x.words) q.0, l ∙ (λ i. sets lines wrote (answers i ∷ (told.1 ∙ q.1) i ∷ (same ∙ ap (λ (x : Reply). x.book.held) q.0) i ∷ [])))

-- the lines of postings take no more room than there is
module _ (bytes : List ℕ) (n held : ℕ) where
  within : (room : ℕ) (p : Period) (place : ℕ) (accepted : Bool) → length (postings bytes n held room p place accepted).lines ≤ room
  unfolding postings
  within zero p place accepted = omega arith
  within (suc zero) p place accepted = omega arith
  within (suc (suc zero)) p place accepted = omega arith
  within (suc (suc (suc room))) p place accepted = ⊎_elim
      (λ none. rw none (omega arith))
      (λ y. rw y.1 (cases (λ (r : Postings). length r.lines ≤ suc (suc (suc room))) (posts p.number y.0)
      (λ _. cases (λ (r : Postings). suc (suc (suc (length r.lines))) ≤ suc (suc (suc room))) (eqb (refusal (period_checks n false y.0 p)) 0)
      (λ _. omega (arith, within room (with_addition p (addition y.0)) (reading bytes place).place true))
      (λ _. omega (arith, within room p (reading bytes place).place accepted)))
      (λ _. omega arith)))
      (read_or_none bytes place)

  -- the first entry has a line
  some_line : (room : ℕ) (p : Period) (place : ℕ) (accepted : Bool) (e : Entry) → 3 ≤ room → (reading bytes place).entry ≡ e ∷ [] → posts p.number e ≡ true
      → 3 ≤ length (postings bytes n held room p place accepted).lines
  unfolding postings
  some_line zero p place accepted e h q y = absurd (omega arith)
  some_line (suc zero) p place accepted e h q y = absurd (omega arith)
  some_line (suc (suc zero)) p place accepted e h q y = absurd (omega arith)
  some_line (suc (suc (suc room))) p place accepted e h q y = rw (q, y) (omega arith)

-- the record b behind the book b₁ of the turn, whose period at place j the entry that was read adds to
module _ (bytes : List ℕ) (b₀ : Book) (from : ℕ) (words₀ before : List ℕ) {b₁ b : Book} {place : ℕ} {words lines : List ℕ} {wrote : ℕ} (seen : b ≡ b₁)
    (stands : Standing bytes b₀ from words₀ before b₁ place words lines wrote) (valid : Valid b) {j next : ℕ} {e : Entry} (found : reading bytes place ≡ record { answer = 0; place = next; entry = e ∷ [] })
    (told : NamedAt b₁ e (length words) j × (is_amount e ≡ true)) where
  s : Standing bytes b₀ from words₀ before b place words lines wrote
  s = rw (← seen) at stands

  named : NamedAt b e (length words) j
  named = (rw (← seen) at told).0

  abbrev x : Postings
  x = postings bytes b.n b.held (length lines - wrote) (get_or b.periods j no_period) place false

  -- the period, the place, the payout words and the lines are those of the postings
  pub amounts_on : (period : Period) (next : ℕ) (accepted : Bool) (wrote' : ℕ) (lines' words' : List ℕ)
      → (let x = postings bytes b.n b.held (length lines - wrote) (get_or b.periods j no_period) place false in
      (period ≡ x.period) × (next ≡ x.place) × (accepted ≡ x.accepted) × (wrote' ≡ wrote + length x.lines) × (lines' ≡ sets lines wrote x.lines))
      → words' ≡ cleared accepted b.n words → Standing bytes b₀ from words₀ before (put b j period b.held b.purses) next words' lines' wrote'
  amounts_on period next accepted wrote' lines' words' q w =
      let t = named_taken words valid named in
      let e = w ∙ ap (λ (c : Bool). cleared c b.n words) q.2 in
      subst (λ (p : Period). Standing bytes b₀ from words₀ before (put b j p b.held b.purses) next words' lines' wrote') (sym q.0)
      (subst (λ (k : ℕ). Standing bytes b₀ from words₀ before (put b j x.period b.held b.purses) k words' lines' wrote') (sym q.1)
      (subst (λ (k : ℕ). Standing bytes b₀ from words₀ before (put b j x.period b.held b.purses) x.place words' lines' k) (sym q.3)
      (subst₂ (λ (l v : List ℕ). Standing bytes b₀ from words₀ before (put b j x.period b.held b.purses) x.place v l (wrote + length x.lines)) (sym q.4) (sym e)
      (goes_on bytes b₀ from words₀ before s x.lines (put b j x.period b.held b.purses) x.place (cleared x.accepted b.n words)
      (omega (arith, s.room, within bytes b.n b.held (length lines - wrote) (get_or b.periods j no_period) place false))
      (postings_run bytes (length lines - wrote) b j place words t)))))

  -- and the book with that period is valid
  pub amounts_valid : (period : Period) → period ≡ (postings bytes b.n b.held (length lines - wrote) (get_or b.periods j no_period) place false).period → Valid (put b j period b.held b.purses)
  amounts_valid period q =
      subst (λ (p : Period). Valid (put b j p b.held b.purses)) (sym q) (postings_valid bytes (length lines - wrote) b j place words (named_taken words valid named))

  pub amounts_some : 3 ≤ length lines - wrote → 3 ≤ length (postings bytes b.n b.held (length lines - wrote) (get_or b.periods j no_period) place false).lines
  amounts_some h = some_line bytes b.n b.held (length lines - wrote) (get_or b.periods j no_period) place false e h (ap (λ (o : ReadOutcome). o.entry) found)
      (posts_it (get_or b.periods j no_period).number e (sym (named_number valid named)) told.1)
