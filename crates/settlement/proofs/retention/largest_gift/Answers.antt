use borrow.Author.Rules.{rules}
use mathlib.Core.Path.{◌≡◌, ◌∙◌}
use Rattle.exact.specs.Rows.{at, cells}
use Rattle.exact.proofs.RowLaws.{filled_cells, holds, largest_cong}
use Rattle.settlement.specs.Notice.{gives}
use Rattle.settlement.specs.Groups.{group_count}
use Rattle.settlement.proofs.retention.largest_gift.Goals as goal

pub returns : goal.returns
returns c =
    let x = c.args in
    let row : c.cells-gifts.result ≡ cells (λ k. gives (at x.shortfalls.now k) (at x.outside.now k) x.part) group_count = c.cells-gifts.ensures _ (λ i r h p. search rules) ∙ filled_cells _ group_count in
    c.largest.ensures ∙ largest_cong _ _ group_count (holds _ group_count row).reads
