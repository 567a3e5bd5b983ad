use mathlib.Core.Bool.{true}
use mathlib.Core.Path.{◌≡◌, sym, ap, ap₂, ◌∙◌}
use Rattle.book.specs.Checks.{refusal}
use Rattle.book.specs.layouts.Allowed.{allowed}
use Rattle.book.specs.rules.Kinds.{is_amount, addition}
use Rattle.book.specs.declared.entries.Entry.{Entry}
use Rattle.book.specs.rules.Refusals.{amount_checks}
use Rattle.book.specs.declared.kinds.Addition.{Addition}
use Rattle.book.proofs.rules.Passing.{receipt_inside}
use Rattle.book.proofs.rules.AdditionLaws.{amount_checks_lem, WithinLimits, amount_within, adds_some, adds_none}
use Rattle.book.specs.layouts.Entries.{entry_of}
use Rattle.book.proofs.rules.KindLaws.{not_kind}
use Rattle.book.proofs.rules.ChangeLaws.{total_within}
use Rattle.book.proofs.runs.PostingSteps.{placed_side, kept_answer}
use Rattle.book.proofs.Period.period_answer.Goals as goal

-- what the entry adds is within its limits
within : (e : Entry) (a : Addition) → (is_amount e ≡ true) × (a ≡ addition e) → allowed e ≡ true → WithinLimits a
within e a adds fields = rw adds.1 (amount_within e adds.0 fields)

pub amount_answer-requires : goal.amount_answer-requires
amount_answer-requires c =
    let w = within c.args.e.entry c.in-Some.a (adds_some c.args.e.entry _ c.addition.ensures _ c.in-Some.is) c.args.e.fields in
    let below = placed_side _ _ w.placed in
    (below, total_within _ _ c.requires _ below, w.cents_le)

pub returns-in-Some : goal.returns-in-Some
returns-in-Some c =
    let s = c.args in
    let adds = adds_some s.e.entry _ c.addition.ensures _ c.in-Some.is in
    c.amount_answer.ensures ∙ kept_answer _ _ c.requires c.is_misdated.result _ (within s.e.entry _ adds c.args.e.fields)
    ∙ ap₂ (λ t (d : Addition). refusal (amount_checks s.n s.self.now t d)) c.is_misdated.ensures adds.1
    ∙ sym (ap refusal (amount_checks_lem s.e.entry adds.0 s.n s.barred s.self.now))

pub receipt_answer-requires : goal.receipt_answer-requires
receipt_answer-requires c =
    let v = c.in-Receipt in
    rw c.from.ensures (receipt_inside v.period v.participant v.cents (rw c.in-Receipt.is at c.args.e.fields)).0

pub returns-in-Notice : goal.returns-in-Notice
returns-in-Notice c = c.notice_answer.ensures ∙ rw c.in-Notice.is

pub returns-in-Receipt : goal.returns-in-Receipt
returns-in-Receipt c = c.receipt_answer.ensures ∙ rw (c.from.ensures, c.in-Receipt.is)

pub returns-in-Settle : goal.returns-in-Settle
returns-in-Settle c = c.settle_answer.ensures ∙ rw c.in-Settle.is

pub returns-in_default-entry : goal.returns-in_default-entry
unfolding entry_of
returns-in_default-entry c =
    let e = c.args.e.entry in
    let own = c.in_default-entry in
    rw (
      adds_none e _ c.addition.ensures c.in_default.is,
      not_kind 4 e (λ q. own.not-Notice _ q),
      not_kind 5 e (λ q. own.not-Receipt _ _ _ q),
      not_kind 6 e (λ q. own.not-Settle _ q),
    )
