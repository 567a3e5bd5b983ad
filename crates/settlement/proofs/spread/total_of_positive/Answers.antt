use borrow.Author.Rules.{rules}
use mathlib.Core.Path.{◌≡◌, ◌∙◌}
use native.Mathlib.Omega.{arith}
use Rattle.exact.specs.Rows.{at, cells}
use Rattle.exact.proofs.RowLaws.{filled_cells, holds, sum_holds, sum_mono}
use Rattle.settlement.specs.Rounds.{weight}
use Rattle.settlement.proofs.LossLaws.{weight_le}
use Rattle.settlement.proofs.spread.total_of_positive.Goals as goal

pub total-requires : goal.total-requires
unfolding weight
total-requires c =
    let x = c.args in
    let w = weight (at x.revised) (at x.balances) in
    let row : c.cells-weights.result ≡ cells w x.n = c.cells-weights.ensures _ (λ i r h p. search rules) ∙ filled_cells w x.n in
    (search rules, omega (arith, c.requires, sum_holds (holds w x.n row), sum_mono w (at x.revised) x.n (λ i _. weight_le (at x.revised) (at x.balances) i)))

pub returns : goal.returns
unfolding weight
returns c =
    let x = c.args in
    let w = weight (at x.revised) (at x.balances) in
    let row : c.cells-weights.result ≡ cells w x.n = c.cells-weights.ensures _ (λ i r h p. search rules) ∙ filled_cells w x.n in
    c.total.ensures ∙ sum_holds (holds w x.n row)
