use mathlib.Core.Path.{◌≡◌, ◌∙◌}
use Rattle.std.proofs.Common.{rules}
use Rattle.exact.specs.Rows.{at, cells}
use Rattle.exact.proofs.RowLaws.{filled_cells}
use Rattle.book.proofs.makings.kept.Goals as goal

pub returns : goal.returns
returns c =
    let m = c.args.m in
    let groups : c.cells-groups.result ≡ cells (at m.grouping.groups) m.n = c.cells-groups.ensures _ (λ i r h p. search rules) ∙ filled_cells _ _ in
    rw groups
