use mathlib.Core.Path.{◌∙◌}
use native.Mathlib.Omega.{arith}
use Rattle.book.specs.inner.Postings.{cleared}
use Rattle.book.proofs.rules.WordLaws.{nothing_paid}
use Rattle.book.proofs.blocks.clear.Goals as goal

pub returns-then-accepted : goal.returns-then-accepted
unfolding cleared
returns-then-accepted c = nothing_paid c.args.n c.args.words.now _ (omega arith) (omega arith) (c.fill.ensures.after (λ y q. q)) ∙ rw c.if-accepted.true

pub returns-else-accepted : goal.returns-else-accepted
unfolding cleared
returns-else-accepted c = rw c.if-accepted.false
