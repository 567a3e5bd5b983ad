-- Each row is reckoned from the rows before it, by 01's and 02's formula for it.
use Prim.Native.Nat.{ℕ, ◌+◌, ◌-◌, ◌≤◌}
use mathlib.Core.Path.{◌≡◌, refl, ◌∙◌}
use mathlib.Core.List.{List}
use native.Mathlib.Omega.{arith}
use Rattle.exact.specs.Rows.{at, sum, largest, cells}
use Rattle.exact.proofs.RowLaws.{cells_both, cells_cong, Holds, holds, holds_own, sum_holds, sum_term, largest_cong}
use Rattle.settlement.specs.Month.{Month, month_of_sums, owing_to, tier5, last_tier, side_limit, Bounded}
use Rattle.settlement.specs.Notice.{payable, gives}
use Rattle.settlement.specs.Groups.{group_count, group_sum, outside_sum, shortfall_with_reserve, group_shortfall, outside_tier5, group_retention}
use Rattle.settlement.specs.declared.groups.Grouping.{Grouping}
use Rattle.settlement.proofs.MonthLaws.{by_bound, to_bound, tier5_le, tier_total_le}
use Rattle.settlement.proofs.RetentionLaws.{retention_sound}
use Rattle.settlement.proofs.GroupLaws.{group_within, reserve_within, group_outside, group_cong, outside_cong}
use Rattle.settlement.proofs.month.MonthSums.notice.Goals as goal

module _ (m : Month) (g : Grouping) where
  -- the row of tier 5, which comes to at most a side's limit
  parts_bound : {parts : List ℕ} → Bounded m → parts ≡ cells (tier5 m) m.n → sum (at parts) m.n ≤ side_limit
  parts_bound b e = omega (arith, sum_holds (holds (tier5 m) m.n e), b.to_total, tier_total_le m.to last_tier m.n (omega arith))

  -- the tier 5 totals outside the groups
  outside_held : {parts outside : List ℕ} → parts ≡ cells (tier5 m) m.n → outside ≡ cells (outside_sum (at g.groups) m.n (at parts)) group_count
      → Holds outside (outside_tier5 m g) group_count
  unfolding outside_tier5
  outside_held p e = holds _ group_count (e ∙ cells_cong _ _ group_count (λ k _. outside_cong m.n k (λ _ _. refl) (holds (tier5 m) m.n p).reads))

  -- each group's shortfall
  short_held : {owing by_sums to_sums short : List ℕ} → owing ≡ cells (owing_to m) m.n → by_sums ≡ cells (group_sum (at g.groups) m.n m.by) group_count
      → to_sums ≡ cells (group_sum (at g.groups) m.n (at owing)) group_count
      → short ≡ cells (λ k. shortfall_with_reserve (at by_sums k) (at to_sums k) (at g.reserves k)) group_count
      → Holds short (group_shortfall m g) group_count
  unfolding group_shortfall
  short_held o b t e =
      let owed = holds (owing_to m) m.n o in
      let to_them = holds _ group_count (t ∙ cells_cong _ _ group_count (λ k _. group_cong m.n k (λ _ _. refl) owed.reads)) in
      holds _ group_count (e ∙ cells_cong _ _ group_count (λ k h. rw ((holds _ group_count b).reads k h, to_them.reads k h)))

  -- retention, from the rows before it
  kept : {parts short outside retention : List ℕ} → parts ≡ cells (tier5 m) m.n → Holds short (group_shortfall m g) group_count
      → Holds outside (outside_tier5 m g) group_count
      → retention ≡ cells (λ i. largest (λ k. gives (at short k) (at outside k) (at parts i)) group_count) m.n
      → retention ≡ cells (group_retention m g) m.n
  unfolding group_retention
  kept p s o e =
      e ∙ cells_cong _ _ m.n (λ i h. largest_cong _ _ group_count (λ k l. rw (s.reads k l, o.reads k l, (holds (tier5 m) m.n p).reads i h)))

pub over_tiers-owing-requires : goal.over_tiers-owing-requires
over_tiers-owing-requires c =
    (c.requires.0.few, λ i h. omega (arith, to_bound (month_of_sums c.args.self.now) c.requires.0 i h))

pub tier-parts-requires : goal.tier-parts-requires
tier-parts-requires c = (c.requires.0.few, omega arith)

pub group_sums-by_sums-requires : goal.group_sums-by_sums-requires
group_sums-by_sums-requires c = (c.requires.0.few, omega (arith, c.requires.0.by_total), group_within _ _ c.requires.1)

pub group_sums-to_sums-requires : goal.group_sums-to_sums-requires
group_sums-to_sums-requires c =
    (c.requires.0.few, omega (arith, c.requires.0.to_total, sum_holds (holds _ _ c.over_tiers-owing.ensures)), group_within _ _ c.requires.1)

pub shortfalls-short-requires : goal.shortfalls-short-requires
shortfalls-short-requires c =
    let x = c.args in
    λ k h. omega (
      arith,
      (holds _ group_count c.group_sums-by_sums.ensures).reads k h,
      group_outside (at x.grouping.groups) (at x.self.now.by) k x.self.now.n,
      c.requires.0.by_total,
      reserve_within _ _ c.requires.1 k h,
    )

pub outside_sums-outside-requires : goal.outside_sums-outside-requires
outside_sums-outside-requires c =
    let x = c.args in
    (c.requires.0.few, omega (arith, parts_bound (month_of_sums x.self.now) x.grouping c.requires.0 c.tier-parts.ensures), group_within _ _ c.requires.1)

pub largest_gifts-retention-requires : goal.largest_gifts-retention-requires
unfolding outside_tier5
largest_gifts-retention-requires c =
    let x = c.args in
    let m = month_of_sums x.self.now in
    let parts = c.tier-parts in
    let bound = parts_bound m x.grouping c.requires.0 parts.ensures in (
      c.requires.0.few,
      λ k h. omega (
        arith,
        (outside_held m x.grouping parts.ensures c.outside_sums-outside.ensures).reads k h,
        group_outside (at x.grouping.groups) (tier5 m) k m.n,
        sum_holds (holds (tier5 m) m.n parts.ensures),
        bound,
      ),
      λ i h. omega (arith, bound, sum_term (at parts.result) m.n i h),
    )

pub sums-by_and_retention-requires : goal.sums-by_and_retention-requires
sums-by_and_retention-requires c =
    let x = c.args in
    let m = month_of_sums x.self.now in
    let short = short_held m x.grouping c.over_tiers-owing.ensures c.group_sums-by_sums.ensures c.group_sums-to_sums.ensures c.shortfalls-short.ensures in
    let outside = outside_held m x.grouping c.tier-parts.ensures c.outside_sums-outside.ensures in
    let row = kept m x.grouping c.tier-parts.ensures short outside c.largest_gifts-retention.ensures in (
      c.requires.0.few,
      λ i h. omega (
        arith,
        (holds _ _ row).reads i h,
        by_bound m c.requires.0 i h,
        to_bound m c.requires.0 i h,
        (retention_sound m x.grouping).within i,
        tier5_le m i,
      ),
    )

pub excesses-payable-requires : goal.excesses-payable-requires
excesses-payable-requires c = c.requires.0.few

pub returns : goal.returns
unfolding payable
returns c =
    let x = c.args in
    let m = month_of_sums x.self.now in
    let A = group_retention m x.grouping in
    let short = short_held m x.grouping c.over_tiers-owing.ensures c.group_sums-by_sums.ensures c.group_sums-to_sums.ensures c.shortfalls-short.ensures in
    let outside = outside_held m x.grouping c.tier-parts.ensures c.outside_sums-outside.ensures in
    let row = kept m x.grouping c.tier-parts.ensures short outside c.largest_gifts-retention.ensures in
    let due = c.sums-by_and_retention.ensures ∙ cells_both ◌+◌ (holds_own x.self.now.by m.n) (holds A m.n row) in
    let net : c.excesses-payable.result ≡ cells (payable m A) m.n =
    c.excesses-payable.ensures ∙ cells_both ◌-◌ (holds _ m.n due) (holds (owing_to m) m.n c.over_tiers-owing.ensures) in
    λ z. record { retention = row z; payable = net z }
