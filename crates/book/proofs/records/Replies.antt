-- What the program's answers are, from the tests that it makes: the same as the definitions'.
use Prim.Native.Nat.{ℕ, ◌+◌, ◌≤◌, ◌<◌}
use mathlib.Core.Path.{◌≡◌, refl, sym, ap, subst, ◌∙◌}
use mathlib.Core.Bool.{Bool, true, false, cond, true≢false, false≢true}
use mathlib.Core.List.{List}
use native.Mathlib.Omega.{arith}
use borrow.Author.Tests.{le-ltb, lt-leb, le-leb, ne_eqb}
use lib.ListN.{length}
use Rattle.exact.specs.Rows.{places, at, sum}
use Rattle.book.specs.Checks.{refusal}
use Rattle.book.specs.rules.Kinds.{period_of, is_open, is_purse, purse_of, purse_cents}
use Rattle.book.specs.rules.Periods.{zeros, raised}
use Rattle.book.specs.rules.State.{view, pack, held_by, find, period_at, with_purses}
use Rattle.book.specs.rules.Refusals.{Input, period_checks, barring, open_checks, purse_checks, named_checks, kind_checks, checks}
use Rattle.book.specs.rules.Step.{Outcome, payout_words, purse_raised, accepted, Reply, reply, paid_by}
use Rattle.book.specs.rules.Valid.{Valid}
use Rattle.book.specs.rules.Answers.{number_of}
use Rattle.book.specs.inner.Entering.{Enters, reply_of}
use Rattle.book.specs.declared.answers.Refusal.{Refusal}
use Rattle.book.specs.declared.steps.Accepted.{Accepted}
use Rattle.book.proofs.rules.AnswerLaws.{refusal_number}
use Rattle.std.proofs.Common.{Result, Ok, Err}
use Rattle.book.specs.declared.entries.Entry.{Entry}
use Rattle.book.specs.declared.Book.{Book}
use Rattle.book.proofs.rules.ValidLaws.{stays_valid}
use Rattle.book.proofs.rules.StepLaws.{Raises, step_accepted, step_refused, accepted_raises}
use Rattle.book.proofs.rules.CentsLaws.{raised_held}
use Rattle.book.proofs.rules.WordLaws.{payout_sum}
use Rattle.book.proofs.rules.ChangeLaws.{no_pays}
use Rattle.book.proofs.records.Packing.{kept_held, raise, raised_purse}
use Rattle.book.specs.inner.Ways.{Entered}

module _ {b : Book} (v : Valid b) (e : Entry) (w : List ℕ) where
  abbrev x : Input
  x = record { entry = e; words = w }

  -- a refusal: the record as it was
  pub reply_refused : (refusal (checks (view b) (record { entry = e; words = w })) ≡ 0 → ⊥)
      → record { answer = refusal (checks (view b) (record { entry = e; words = w })); rounds = 0; book = b; words = w } ≡ reply b (record { entry = e; words = w })
  unfolding reply
  reply_refused ne =
      let f = step_refused (view b) x ne in
      λ z. record {
        answer = sym (ap (λ (o : Outcome). o.answer) f) z;
        rounds = sym (ap (λ (o : Outcome). o.rounds) f) z;
        book = (v.packed ∙ sym (ap (λ (o : Outcome). pack o.state) f)) z;
        words = sym (ap (λ (o : Outcome). o.words) f) z;
      }

  pub refuses : (why : Refusal) → refusal (checks (view b) (record { entry = e; words = w })) ≡ number_of (Err why) → Enters b (record { entry = e; words = w }) (Err why) b w
  unfolding paid_by
  refuses why n =
      let q = ap (λ k. record { answer = k; rounds = 0; book = b; words = w }) (sym n) ∙ reply_refused (λ z. refusal_number why (sym n ∙ z)) in
      let a : number_of (Err why) ≡ (reply b (record { entry = e; words = w })).answer = ap (λ (r : Reply). r.answer) q in
      (q, sym (rw (ne_eqb (reply b (record { entry = e; words = w })).answer 0 (λ z. refusal_number why (a ∙ z)))))

  -- an acceptance
  pub accepts : (o : Outcome) (r : Reply) → refusal (checks (view b) (record { entry = e; words = w })) ≡ 0
      → accepted (view b) (record { entry = e; words = w }) ≡ o
      → r ≡ record { answer = o.answer; rounds = o.rounds; book = pack o.state; words = o.words }
      → r ≡ reply b (record { entry = e; words = w })
  unfolding reply
  accepts o r n a q =
      q ∙ ap (λ (o : Outcome). record { answer = o.answer; rounds = o.rounds; book = pack o.state; words = o.words }) (sym (step_accepted (view b) x n ∙ a))

  -- the checks that are left once 4, 5 and 3 are passed
  module _ (d : Entered (view b) (record { entry = e; words = w })) where
    to_kind : refusal (checks (view b) (record { entry = e; words = w })) ≡ refusal (kind_checks (view b) e)
    to_kind = rw (ne_eqb b.n 0 (λ z. omega (arith, d.some)), le-ltb (length w) b.n d.enough, d.fields)

    pub to_open : is_open e ≡ true → refusal (checks (view b) (record { entry = e; words = w })) ≡ refusal (open_checks (view b) (period_of e))
    to_open o = to_kind ∙ rw o

    pub to_purse : is_open e ≡ false → is_purse e ≡ true → refusal (checks (view b) (record { entry = e; words = w })) ≡ refusal (purse_checks (view b) (purse_of e) (purse_cents e))
    to_purse o u = to_kind ∙ rest (is_open e) (is_purse e) o u
      where
        rest : (t v : Bool) → t ≡ false → v ≡ true → refusal (cond t (open_checks (view b) (period_of e)) (cond v (purse_checks (view b) (purse_of e) (purse_cents e)) (named_checks (view b) e)))
            ≡ refusal (purse_checks (view b) (purse_of e) (purse_cents e))
        rest true v o u = absurd (true≢false o)
        rest false true o u = refl
        rest false false o u = absurd (false≢true u)

    pub to_named : is_open e ≡ false → is_purse e ≡ false → refusal (checks (view b) (record { entry = e; words = w })) ≡ refusal (named_checks (view b) e)
    to_named o u = to_kind ∙ rest (is_open e) (is_purse e) o u
      where
        rest : (t v : Bool) → t ≡ false → v ≡ false → refusal (cond t (open_checks (view b) (period_of e)) (cond v (purse_checks (view b) (purse_of e) (purse_cents e)) (named_checks (view b) e)))
            ≡ refusal (named_checks (view b) e)
        rest true v o u = absurd (true≢false o)
        rest false true o u = absurd (true≢false u)
        rest false false o u = refl

    pub not_found : is_open e ≡ false → is_purse e ≡ false → length (view b).periods ≤ find (period_of e) (view b).periods
        → refusal (checks (view b) (record { entry = e; words = w })) ≡ 8
    not_found o u l = to_named o u ∙ rw (le-leb (length (view b).periods) (find (period_of e) (view b).periods) l)

    pub to_period : is_open e ≡ false → is_purse e ≡ false → find (period_of e) (view b).periods < length (view b).periods
        → refusal (checks (view b) (record { entry = e; words = w }))
        ≡ refusal (period_checks b.n (barring e (view b).periods) e (period_at (period_of e) (view b).periods))
    to_period o u l = to_named o u ∙ rw (lt-leb (length (view b).periods) (find (period_of e) (view b).periods) l)

  -- a purse entry that is accepted
  pub raised_reply : Raises (view b) (record { entry = e; words = w }) → refusal (checks (view b) (record { entry = e; words = w })) ≡ 0
      → record { answer = 0; rounds = 0; book = raise b (purse_of e) (purse_cents e); words = payout_words b.n (zeros places) w } ≡ reply b (record { entry = e; words = w })
  raised_reply o z =
      let held : held_by (with_purses (view b) (raised b.purses (purse_of e) (purse_cents e))) ≡ b.held + purse_cents e = omega (arith, raised_held (view b) x v.fit o, kept_held v) in
      accepts (purse_raised (view b) (purse_of e) (purse_cents e) w) _ z (accepted_raises (view b) x o)
      (λ k. record { answer = 0; rounds = 0; book = raised_purse v (purse_of e) (purse_cents e) held k; words = payout_words b.n (zeros places) w })

  -- an acceptance by which nothing is paid
  pub enters_unpaid : (after : Book) (words : List ℕ) → record { answer = 0; rounds = 0; book = after; words = words } ≡ reply b (record { entry = e; words = w })
      → words ≡ payout_words b.n (zeros places) w → Enters b (record { entry = e; words = w }) (Ok (record { rounds = 0; paid = 0 })) after words
  unfolding paid_by
  enters_unpaid after words q p =
      let nothing : 0 ≡ sum (at words) b.n = omega (arith, ap (λ (w : List ℕ). sum (at w) b.n) p, payout_sum b.n (zeros places) w, no_pays b.n) in
      (q, rw (← q) nothing)

left_book : (r : Result Accepted Refusal) (after : Book) (words : List ℕ) → (reply_of r after words).book ≡ after
left_book (Ok r) after words = refl
left_book (Err why) after words = refl

-- a book that an entry left is valid
pub enters_valid : {b : Book} (v : Valid b) (x : Input) (r : Result Accepted Refusal) (after : Book) (words : List ℕ) → Enters b x r after words → Valid after
enters_valid {b = b} v x r after words e =
    subst Valid (sym (ap (λ (o : Reply). o.book) e.0) ∙ left_book r after words) (stays_valid.next b x v)
