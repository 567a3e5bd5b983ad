use borrow.Author.Tests.{lt-ltb, le-ltb}
use Rattle.settlement.specs.Groups.{shortfall_with_reserve}
use Rattle.settlement.proofs.groups.shortfall_with_reserve.Goals as goal

pub returns-then-to-by : goal.returns-then-to-by
unfolding shortfall_with_reserve
returns-then-to-by c = simp (lt-ltb _ _ c.if-to-by.true)

pub returns-else-to-by : goal.returns-else-to-by
unfolding shortfall_with_reserve
returns-else-to-by c = simp (le-ltb _ _ c.if-to-by.false)
