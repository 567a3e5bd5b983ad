use borrow.Author.Rules.{rules}
use mathlib.Core.Path.{◌∙◌}
use Rattle.exact.proofs.RowLaws.{filled_cells}
use Rattle.settlement.specs.Rounds.{negatives_at_zero}
use Rattle.settlement.proofs.spread.negatives_at_zero.Goals as goal

pub returns : goal.returns
unfolding negatives_at_zero
returns c = c.cells.ensures _ (λ i r h p. search rules) ∙ filled_cells _ _
