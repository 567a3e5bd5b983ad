use borrow.Author.Rules.{rules}
use Prim.Native.Nat.{ℕ, ◌+◌, ◌≤◌, ◌<◌}
use mathlib.Core.Path.{◌≡◌, sym, ap₂, ◌∙◌}
use mathlib.Core.List.{List}
use native.Mathlib.Omega.{arith}
use Rattle.exact.specs.Rows.{at, sum, cells}
use Rattle.exact.proofs.RowLaws.{cells_zero, cells_at, cells_cong, cells_again, holds, sum_holds, sum_none, sum_more, sum_term}
use Rattle.settlement.specs.Month.{tiers, side_limit, tier_at, over_tiers}
use Rattle.settlement.specs.Tiers.{share, left_for, tier_share}
use Rattle.settlement.proofs.MonthLaws.{tier_total_le}
use Rattle.settlement.proofs.TierLaws.{share_cong, left_first, left_more, met_part, met_is}
use Rattle.settlement.proofs.walk.meet_tiers.Goals as goal

module _ (n : ℕ) (wanted : ℕ → ℕ → ℕ) (t : ℕ) {row : List ℕ} (r : row ≡ cells (wanted t) n) where
  -- a tier's row holds what the tier wants
  row_bound : sum (over_tiers wanted) n ≤ side_limit → t < tiers → sum (at row) n ≤ side_limit
  row_bound h l = omega (arith, sum_holds (holds _ _ r), h, tier_total_le wanted t n l)

  -- what a participant has after a turn
  turn : (money left : ℕ) {out : List ℕ} → out ≡ cells (λ i. sum (λ s. tier_share n wanted money s i) t) n → left ≡ left_for n wanted money t
      → (i : ℕ) → i < n → at out i + share n (at row) left i ≡ sum (λ s. tier_share n wanted money s i) (t + 1)
  unfolding tier_share
  turn money left o e i h =
      rw (o, e, sum_more) (ap₂ ◌+◌ (cells_at _ _ i h) (share_cong n _ _ _ (holds _ _ r).reads i h))

pub loop-t-init : goal.loop-t-init
loop-t-init c = (search rules, cells_zero _ _ c.requires.0 (λ i _. sum_none _), sym (left_first _ _ _))

pub total-whole-requires : goal.total-whole-requires
total-whole-requires c = (search rules, omega (arith, row_bound _ _ _ c.tier-row.ensures c.requires.1 (omega arith)))

pub tier_share-requires : goal.tier_share-requires
tier_share-requires c =
    let x = c.args in
    let l = c.loop-t in (
      search rules,
      c.total-whole.ensures,
      omega (arith, c.total-whole.ensures, row_bound _ _ _ c.tier-row.ensures c.requires.1 (omega arith)),
      rw l.invariant.1 (cells_again _ _),
      λ i h.
          omega (arith, turn _ _ _ c.tier-row.ensures _ _ l.invariant.1 l.invariant.2 i h, c.requires, met_part x.n (tier_at x.wanted) x.money (l.t + 1) i (omega arith), sum_term (over_tiers (tier_at x.wanted)) x.n i h),
    )

pub loop-t-preserved : goal.loop-t-preserved
loop-t-preserved c =
    let l = c.loop-t in (
      search rules,
      c.tier_share.ensures ∙ cells_cong _ _ _ (turn _ _ _ c.tier-row.ensures _ _ l.invariant.1 l.invariant.2),
      c.saturating_sub-left.ensures ∙ rw (c.total-whole.ensures, sum_holds (holds _ _ c.tier-row.ensures), l.invariant.2) (sym (left_more _ _ _ l.t)),
    )

pub returns : goal.returns
returns c =
    let l = c.loop-t in
    let e : l.t ≡ tiers = omega arith in
    l.invariant.1 ∙ cells_cong _ _ _ (λ i _. rw e (sym (met_is _ _ _ i)))
