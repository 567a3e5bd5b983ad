-- Each row is reckoned from the rows before it, by 01's formula for it.
use Prim.Native.Nat.{ℕ, ◌+◌, ◌-◌}
use mathlib.Core.Path.{◌≡◌, ap, ap₂, ◌∙◌}
use mathlib.Core.List.{List}
use native.Mathlib.Omega.{arith}
use Rattle.exact.specs.Rows.{at, sum, cells}
use Rattle.exact.proofs.RowLaws.{cells_both, holds, sum_holds}
use Rattle.settlement.specs.Month.{Month, owing_to}
use Rattle.settlement.specs.Claims.{claim, arrears, claimed}
use Rattle.settlement.specs.Tiers.{met}
use Rattle.settlement.specs.Settling.{available, revised, scaled_above, scaled_below}
use Rattle.settlement.specs.declared.claims.Claimed.{Claimed}
use Rattle.settlement.proofs.MonthLaws.{to_bound}
use Rattle.settlement.proofs.ClaimLaws.{claim_le, arrears_total_le}
use Rattle.settlement.proofs.SettleLaws.{revised_le}
use Rattle.settlement.proofs.month.MonthSums.scale.Goals as goal

-- what step 1 handed on, by any retention that the payable row can have come from
module _ (m : Month) (kept received : ℕ → ℕ) {k : Claimed} (e : k ≡ claimed m kept received) where
  owing : k.owing ≡ cells (owing_to m) m.n
  owing = ap (λ (x : Claimed). x.owing) e

  claims : k.claims ≡ cells (claim m kept received) m.n
  claims = ap (λ (x : Claimed). x.claims) e

  behind : k.arrears ≡ cells (arrears m kept received) m.n
  behind = ap (λ (x : Claimed). x.arrears) e

  -- the revised amounts, from the available money
  met_row : {owed unpaid money : ℕ} {row : List ℕ} → owed ≡ sum (at k.owing) m.n → unpaid ≡ sum (at k.arrears) m.n → money ≡ owed - unpaid
      → row ≡ cells (met m.n m.to money) m.n → row ≡ cells (revised m kept received) m.n
  unfolding revised available
  met_row o u a r =
      rw (a ∙ ap₂ ◌-◌ (o ∙ sum_holds (holds (owing_to m) m.n owing)) (u ∙ sum_holds (holds (arrears m kept received) m.n behind))) at r

pub total-requires : goal.total-requires
total-requires c =
    let q = c.requires in
    (q.0.few, omega (arith, sum_holds (holds _ _ (owing _ _ _ (c.claim.ensures q.1))), q.0.to_total))

pub total-requires-2 : goal.total-requires-2
total-requires-2 c =
    let q = c.requires in
    (q.0.few, omega (arith, sum_holds (holds _ _ (behind _ _ _ (c.claim.ensures q.1))), q.0.by_total, arrears_total_le _ _ (at c.args.received) q.1.sound))

pub meet_tiers-revised-requires : goal.meet_tiers-revised-requires
meet_tiers-revised-requires c = (c.requires.0.few, c.requires.0.to_total)

pub sums-claims_and_revised-requires : goal.sums-claims_and_revised-requires
sums-claims_and_revised-requires c =
    let r = at c.args.received in
    let q = c.requires in
    let e = c.claim.ensures q.1 in
    let row = met_row _ _ _ e c.total.ensures c.total-2.ensures c.saturating_sub-available.ensures c.meet_tiers-revised.ensures in (
      q.0.few,
      λ i h. omega (
        arith,
        (holds _ _ (claims _ _ _ e)).reads i h,
        (holds _ _ row).reads i h,
        to_bound _ q.0 i h,
        claim_le _ _ r q.1.sound i,
        revised_le _ _ r q.1.sound i,
      ),
    )

pub returns : goal.returns
unfolding scaled_above scaled_below
returns c d =
    let e = c.claim.ensures d in
    let row = met_row _ _ _ e c.total.ensures c.total-2.ensures c.saturating_sub-available.ensures c.meet_tiers-revised.ensures in
    let both = c.sums-claims_and_revised.ensures ∙ cells_both ◌+◌ (holds _ _ (claims _ _ _ e)) (holds _ _ row) in
    let above = c.excesses-above.ensures ∙ cells_both ◌-◌ (holds _ _ both) (holds _ _ (owing _ _ _ e)) in
    let below = c.excesses-below.ensures ∙ cells_both ◌-◌ (holds _ _ (owing _ _ _ e)) (holds _ _ both) in
    λ z. record { claims = claims _ _ _ e z; arrears = behind _ _ _ e z; revised = row z; above = above z; below = below z }
