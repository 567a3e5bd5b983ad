use borrow.Author.Rules.{rules}
use Prim.Native.Nat.{ℕ, ◌+◌, ◌≤◌, ◌<◌}
use mathlib.Core.Path.{◌≡◌, ◌∙◌}
use mathlib.Core.List.{List}
use native.Mathlib.Omega.{arith}
use Rattle.exact.specs.Rows.{at, sum, cells}
use Rattle.exact.proofs.RowLaws.{filled_cells, holds}
use Rattle.settlement.specs.Groups.{group_count, group_sum, outside_sum}
use Rattle.settlement.proofs.GroupLaws.{group_outside}
use Rattle.settlement.proofs.groups.outside_sums.Goals as goal

-- what is inside a group and what is outside it are the whole
parts : (groups f : ℕ → ℕ) (n : ℕ) (inside : List ℕ) (whole : ℕ) → inside ≡ cells (group_sum groups n f) group_count → whole ≡ sum f n
    → (k : ℕ) → k < group_count → at inside k + outside_sum groups n f k ≡ whole
parts groups f n inside whole i w k h = omega (arith, (holds (group_sum groups n f) group_count i).reads k h, group_outside groups f k n)

pub cells-requires : goal.cells-requires
cells-requires c =
    let whole = parts _ _ _ _ _ c.group_sums-inside.ensures c.total-whole.ensures in
    let within : (k : ℕ) → k < group_count → at c.group_sums-inside.result k ≤ c.total-whole.result = λ k h. omega (arith, whole k h) in
    search rules

pub returns : goal.returns
returns c = c.cells.ensures _ (λ k r h p.
    let whole = parts _ _ _ _ _ c.group_sums-inside.ensures c.total-whole.ensures k h in
    search (rules, arith)) ∙ filled_cells _ _
