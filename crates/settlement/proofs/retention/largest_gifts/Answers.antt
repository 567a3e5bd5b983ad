use borrow.Author.Rules.{rules}
use mathlib.Core.Path.{◌∙◌}
use Rattle.exact.proofs.RowLaws.{filled_cells}
use Rattle.settlement.proofs.retention.largest_gifts.Goals as goal

pub returns : goal.returns
returns c = c.cells.ensures _ (search rules) ∙ filled_cells _ _
