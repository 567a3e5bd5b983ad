use borrow.Author.Rules.{rules}
use mathlib.Core.Path.{ap, ◌∙◌}
use native.Mathlib.Omega.{arith}
use Rattle.exact.specs.Rows.{at, cells}
use Rattle.exact.proofs.RowLaws.{cells_none, cells_more, sum_term}
use Rattle.settlement.specs.Sharing.{floor_share, remainder}
use Rattle.settlement.proofs.sharing.floor_shares.Goals as goal

pub loop-i-init : goal.loop-i-init
loop-i-init c = (search rules, cells_none _, cells_none _)

pub proportion-q-requires : goal.proportion-q-requires
proportion-q-requires c =
    omega (arith, c.requires.2, sum_term (at c.args.weights) c.args.n c.loop-i.i (omega arith))

pub loop-i-preserved : goal.loop-i-preserved
unfolding floor_share remainder
loop-i-preserved c =
    let l = c.loop-i in (
      search rules,
      rw (l.invariant.1, c.proportion-q.ensures.0) (cells_more _ l.i (omega arith)),
      rw (l.invariant.2, c.proportion-q.ensures.1) (cells_more _ l.i (omega arith)),
    )

pub returns : goal.returns
returns c =
    let l = c.loop-i in
    (l.invariant.1 ∙ ap (cells _) (omega arith), l.invariant.2 ∙ ap (cells _) (omega arith))
