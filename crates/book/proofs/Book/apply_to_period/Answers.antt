use Prim.Native.Nat.{ℕ, ◌+◌, ◌-◌, ◌≤◌}
use mathlib.Core.Path.{◌≡◌, sym, ap, ◌∙◌}
use mathlib.Core.Bool.{Bool}
use mathlib.Core.List.{List}
use native.Mathlib.Omega.{arith}
use Rattle.std.proofs.lemmas.Result.{err_from_is_err_and}
use Rattle.exact.specs.Rows.{at, sum}
use Rattle.book.specs.Checks.{refusal}
use Rattle.book.specs.rules.Insides.{record_of}
use Rattle.book.specs.inner.OnePeriod.{Affects}
use Rattle.book.specs.declared.Book.{Book}
use Rattle.book.specs.declared.Period.{Period}
use Rattle.book.specs.declared.entries.Entry.{Entry}
use Rattle.book.specs.rules.Kinds.{receipt_cents}
use Rattle.book.specs.rules.Periods.{changed}
use Rattle.book.specs.rules.Periods as period
use Rattle.book.specs.rules.Refusals.{period_checks}
use Rattle.book.specs.rules.Step.{payout_words}
use Rattle.book.proofs.rules.AnswerLaws.{refusal_number}
use Rattle.book.proofs.rules.EntryChanges.{entry_changes, change_cents}
use Rattle.book.proofs.records.Effects.{effect_accepted, effect_refused}
use Rattle.book.proofs.Book.apply_to_period.Goals as goal

-- what is asked of the book s₀ holds of the record s behind it
module _ {s₀ s : Book} (same : s ≡ s₀) {e : Entry} {p : Period} {w : List ℕ} (asked : Affects s₀.n s₀.grouping e p s₀.held w) where
  affects : Affects s.n s.grouping e p s.held w
  affects = rw (← same) at asked

  -- what is paid is what was held and came in, less what is held now
  paid_within : (barred : Bool) → 0 ≡ refusal (period_checks s.n barred e p) → sum (at (changed s.n s.grouping e p).pays) s.n ≤ s.held + receipt_cents e
  paid_within barred passed =
      let r = affects in
      let d = entry_changes s.n p r.in_book e barred r.not_open r.not_purse r.fields (sym passed) in
      omega (arith, change_cents s.n p r.in_book.sound (receipt_cents e) _ d, r.within)

pub period_answer-requires : goal.period_answer-requires
period_answer-requires c = (affects c.self.view_is c.requires).in_book.sound

pub returns-in_err-period_answer : goal.returns-in_err-period_answer
returns-in_err-period_answer c =
    let s = c.args in
    let b = record_of c.self.inside in
    let a = c.in_err-period_answer.ensures in
    let p = err_from_is_err_and c.from_residual.result c.from_residual.ensures.1 in
    rw (p.1, p.2, ← c.self.view_is) (sym (effect_refused b.n b.grouping s.e.entry s.barred s.p b.held s.words.now (λ z. refusal_number _ (a ∙ z))
    ∙ ap (λ (k : ℕ). record { answer = k; rounds = 0; period = s.p; held = b.held; paid = 0; words = s.words.now }) (sym a)))

pub change_period-change-requires : goal.change_period-change-requires
change_period-change-requires c =
    let r = affects c.self.view_is c.requires in
    (r.in_book, r.grouped, r.not_open, record { barred = _; passed = sym c.in_ok-period_answer.ensures })

pub put_cells-requires : goal.put_cells-requires
put_cells-requires c =
    let r = affects c.self.view_is c.requires in
    (omega (arith, r.many), omega (arith, r.enough))

pub overflow_add-result : goal.overflow_add-result
overflow_add-result c = omega (arith, c.receipt_cents.ensures, (affects c.self.view_is c.requires).fits)

pub total-paid-requires : goal.total-paid-requires
total-paid-requires c =
    let r = affects c.self.view_is c.requires in
    let fits = paid_within c.self.view_is c.requires c.args.barred c.in_ok-period_answer.ensures in
    (r.many, rw (ap (λ (x : period.Change). x.pays) c.change_period-change.ensures) (omega (arith, fits, r.fits)))

pub overflow_sub-result : goal.overflow_sub-result
overflow_sub-result c =
    let t = c.total-paid.ensures ∙ ap (λ (x : period.Change). sum (at x.pays) c.self.inside.n) c.change_period-change.ensures in
    omega (arith, t, c.receipt_cents.ensures, paid_within c.self.view_is c.requires c.args.barred c.in_ok-period_answer.ensures)

pub returns : goal.returns
unfolding payout_words
returns c =
    let s = c.args in
    let b = record_of c.self.inside in
    let q = c.change_period-change.ensures in
    let t = c.total-paid.ensures ∙ ap (λ (x : period.Change). sum (at x.pays) b.n) q in
    rw (← c.self.view_is)
    ((λ z. record {
      answer = 0;
      rounds = (q z).rounds;
      period = (q z).period;
      held = b.held + c.receipt_cents.ensures z - t z;
      paid = t z;
      words = (c.put_cells.ensures ∙ ap (λ (x : period.Change). payout_words b.n x.pays s.words.now) q) z;
    })
    ∙ sym (effect_accepted b.n b.grouping s.e.entry s.barred s.p b.held s.words.now (sym c.in_ok-period_answer.ensures)))
