use mathlib.Core.Path.{◌≡◌, sym, ap, ◌∙◌}
use mathlib.Core.Bool.{Bool}
use lib.Dec.{eqb}
use Rattle.std.proofs.Common.{is_ok}
use Rattle.book.specs.Checks.{refusal}
use Rattle.book.specs.rules.Answers.{Answer, number_of}
use Rattle.book.specs.rules.Makings.{made, making_checks}
use Rattle.book.proofs.rules.AnswerLaws.{ok_test}
use Rattle.book.proofs.rules.ValidLaws.{made_fit}
use Rattle.book.specs.declared.makings.Making.{Making}
use Rattle.book.proofs.makings.new.Goals as goal
use Rattle.book.proofs.makings.new.Goals.{then-is_ok, else-is_ok}

-- whether an answer is acceptance is whether the checks pass
passes : (m : Making) (a : Answer) {t u : Bool} → number_of a ≡ refusal (making_checks m) → t ≡ is_ok a → t ≡ u → eqb (refusal (making_checks m)) 0 ≡ u
passes m a q told test = ap (λ k. eqb k 0) (sym q) ∙ ok_test a ∙ sym told ∙ test

pub empty_book-requires : goal.empty_book-requires
unfolding made
empty_book-requires c = elim c.if-is_ok.branch [
  | then-is_ok w ↦ rw (w.makes-is, w.kept-makes.ensures) (rw (passes c.args.m _ c.making_answer-answer.ensures c.is_ok.ensures.value w.if-is_ok.true) at (made_fit c.args.m))
  | else-is_ok w ↦ rw (w.makes-is, w.no_making-makes.ensures) (rw (passes c.args.m _ c.making_answer-answer.ensures c.is_ok.ensures.value w.if-is_ok.false) at (made_fit c.args.m))
]

pub returns : goal.returns
unfolding made
returns c = (
  c.making_answer-answer.ensures,
  c.empty_book.ensures ∙ elim c.if-is_ok.branch [
    | then-is_ok w ↦ rw (w.makes-is, w.kept-makes.ensures, passes c.args.m _ c.making_answer-answer.ensures c.is_ok.ensures.value w.if-is_ok.true)
    | else-is_ok w ↦ rw (w.makes-is, w.no_making-makes.ensures, passes c.args.m _ c.making_answer-answer.ensures c.is_ok.ensures.value w.if-is_ok.false)
  ],
)
