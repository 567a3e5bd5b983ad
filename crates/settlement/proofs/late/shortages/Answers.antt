use borrow.Author.Rules.{rules}
use borrow.Author.Tests.{lt-ltb}
use Prim.Native.Nat.{ℕ, ◌+◌, ◌*◌, ◌/◌, ◌%◌, ◌^◌, ◌<◌}
use mathlib.Core.Path.{◌≡◌}
use native.Mathlib.Omega.{arith}
use Rattle.exact.specs.Rows.{sum}
use Rattle.exact.proofs.RowLaws.{sum_term}
use Rattle.settlement.specs.Month.{tiers, tier_at, tier_cells, over_tiers}
use Rattle.settlement.specs.Late.{fill, shortage}
use Rattle.settlement.proofs.late.shortages.Goals as goal

-- the bound is given for each cell: the search does not find it within a sum
pub cells-requires : goal.cells-requires
unfolding over_tiers
cells-requires c =
    let x = c.args in
    let fits : (k : ℕ) → k < tiers * x.n → sum (λ t. tier_at x.to t (k / tiers)) tiers < 2 ^ 64 =
    λ k h. omega (arith, c.requires, sum_term (over_tiers (tier_at x.to)) x.n (k / tiers) (omega arith)) in
    (search rules, (search rules, λ k h. search (rules, fits k h)))

pub returns : goal.returns
unfolding tier_cells shortage fill
returns c = c.cells.ensures _ (λ k r h p.
    let e : tiers * (k / tiers) + k % tiers ≡ k = omega arith in
    rw (lt-ltb (k % tiers) tiers (omega arith), e) (search rules))
