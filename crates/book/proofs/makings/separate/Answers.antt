use mathlib.Core.Path.{◌≡◌, ◌∙◌}
use Rattle.std.proofs.Common.{rules}
use Rattle.exact.specs.Rows.{places, cells}
use Rattle.exact.proofs.RowLaws.{filled_cells}
use Rattle.book.specs.rules.Periods.{zeros}
use Rattle.book.proofs.makings.separate.Goals as goal

pub returns : goal.returns
unfolding zeros
returns c =
    let groups : c.cells-groups.result ≡ cells (λ i. i) places = c.cells-groups.ensures (λ i. i) (λ i r h p. search rules) ∙ filled_cells _ _ in
    rw groups
