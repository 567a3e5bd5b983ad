use Rattle.book.specs.rules.Periods.{zeros}
use Rattle.book.specs.rules.State.{pack, held_in, held_by}
use Rattle.book.proofs.rules.ChangeLaws.{no_pays}
use Rattle.book.proofs.rules.ValidLaws.{pack_valid}
use Rattle.book.proofs.makings.empty_book.Goals as goal

pub invariant_of-result : goal.invariant_of-result
unfolding pack held_in held_by zeros
invariant_of-result c = rw c.fresh.ensures (rw (no_pays c.args.m.n) at (pack_valid _ c.requires))

pub returns : goal.returns
unfolding pack held_in held_by zeros
returns c = rw (c.fresh.ensures, no_pays c.args.m.n)
