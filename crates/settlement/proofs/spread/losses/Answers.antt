use borrow.Author.Rules.{rules}
use Prim.Native.Nat.{ℕ, ◌*◌, ◌<◌, min}
use mathlib.Core.Path.{◌≡◌, ◌∙◌}
use Rattle.exact.specs.Rows.{at}
use Rattle.exact.proofs.RowLaws.{filled_cells}
use Rattle.exact.specs.Division.{ceil_div, Proportional}
use Rattle.settlement.specs.Rounds.{loss}
use Rattle.settlement.proofs.LossLaws.{loss_own, loss_proportional}
use Rattle.settlement.proofs.spread.losses.Goals as goal

pub cells-requires : goal.cells-requires
cells-requires c =
    let x = c.args in
    let can : (i : ℕ) → i < x.n → 0 < at x.balances i → Proportional x.negative (at x.revised i) x.positive =
    λ i h some. rw c.requires.1 (loss_proportional _ _ _ _ c.requires.0 i h some) in
    search rules

pub returns : goal.returns
returns c = c.cells.ensures _ (λ i r h p.
    let x = c.args in
    let own : loss x.n (at x.revised) (at x.balances) x.negative i ≡ min (at x.balances i) (ceil_div (x.negative * at x.revised i) x.positive) =
    rw c.requires.1 (loss_own x.n (at x.revised) (at x.balances) x.negative i) in
    search rules) ∙ filled_cells _ _
