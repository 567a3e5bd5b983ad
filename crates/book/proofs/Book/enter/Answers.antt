use borrow.Author.Tests.{lt-ltb, le-ltb, eq-eqb, ne_eqb}
use Rattle.book.specs.declared.answers.Refusal.TheVariants.{Outside, NoParticipants, FewWords}
use Rattle.book.proofs.records.Replies.{refuses}
use Rattle.book.proofs.Book.enter.Goals as goal

pub returns-then-self-eq0 : goal.returns-then-self-eq0
returns-then-self-eq0 c = rw (← c.self.view_is) (refuses c.self.invariant c.args.e _ NoParticipants (rw (eq-eqb _ _ c.if-self-eq0.true)))

pub returns-then-words-self : goal.returns-then-words-self
returns-then-words-self c =
    rw (← c.self.view_is) (refuses c.self.invariant c.args.e _ FewWords (rw (ne_eqb _ _ c.if-self-eq0.false, lt-ltb _ _ c.if-words-self.true)))

pub returns-in_default : goal.returns-in_default
returns-in_default c =
    rw (← c.self.view_is)
    (refuses c.self.invariant c.args.e _ Outside (rw (ne_eqb _ _ c.if-self-eq0.false, le-ltb _ _ c.if-words-self.false, c.in_default.ensures)))
