-- The rounds start from the rows that the steps before them hand on.
use Prim.Native.Nat.{ℕ, ◌<◌}
use mathlib.Core.Bool.{cond}
use lib.Dec.{eqb}
use mathlib.Core.Path.{◌≡◌, ap, ap₂, ◌∙◌}
use native.Mathlib.Omega.{arith}
use Rattle.exact.specs.Rows.{at, sum}
use Rattle.exact.proofs.RowLaws.{Holds, holds, sum_holds}
use Rattle.settlement.specs.Month.{Month, month_of_sums}
use Rattle.settlement.specs.Rounds.{negatives_at_zero}
use Rattle.settlement.specs.Settling.{scaled_amounts, revised, scaled_above, scaled_below, deficit, spent, rounds, paid}
use Rattle.settlement.specs.declared.scaling.Scaled.{Scaled}
use Rattle.settlement.proofs.RoundLaws.{Alike, holds_alike, spread_alike}
use Rattle.settlement.proofs.SettleLaws.{scaled_le_revised, negatives_set_to_zero, revised_total_le, deficit_le}
use Rattle.settlement.proofs.month.MonthSums.settle.Goals as goal

-- what the steps before the rounds handed on, by any retention that the payable row can have come from
module _ (m : Month) (kept received : ℕ → ℕ) {k : Scaled} (e : k ≡ scaled_amounts m kept received) where
  revised_held : Holds k.revised (revised m kept received) m.n
  revised_held = holds _ _ (ap (λ (x : Scaled). x.revised) e)

  below_held : Holds k.below (scaled_below m kept received) m.n
  below_held = holds _ _ (ap (λ (x : Scaled). x.below) e)

  below_total : sum (at k.below) m.n ≡ deficit m kept received
  unfolding deficit
  below_total = sum_holds below_held

  above_held : Holds k.above (scaled_above m kept received) m.n
  above_held = holds _ _ (ap (λ (x : Scaled). x.above) e)

  -- the balances that the rounds start from
  balance_at : (i : ℕ) → i < m.n → negatives_at_zero (at k.above) (at k.below) i ≡ scaled_above m kept received i
  unfolding negatives_at_zero
  balance_at i h =
      ap₂ (λ (x y : ℕ). cond (eqb y 0) x 0) (above_held.reads i h) (below_held.reads i h)
      ∙ negatives_set_to_zero m kept received i

pub spread-rounds-requires : goal.spread-rounds-requires
spread-rounds-requires c =
    let m = month_of_sums c.args.self.now in
    let r = at c.args.received in
    let d = c.requires.1 in
    let e = c.scale.ensures d in
    record {
      few = c.requires.0.few;
      backed = λ i h. omega (arith, balance_at m d.retained r e i h, (revised_held m d.retained r e).reads i h, scaled_le_revised m d.retained r d.sound i);
      revised_total = omega (arith, sum_holds (revised_held m d.retained r e), revised_total_le m d.retained r d.sound, c.requires.0.to_total);
      deficit_bound = omega (arith, below_total m d.retained r e, deficit_le m d.retained r d.sound, c.requires.0.to_total);
    }

pub returns : goal.returns
unfolding rounds paid spent
returns c due =
    let m = month_of_sums c.args.self.now in
    let r = at c.args.received in
    let e = c.scale.ensures due in
    let alike : Alike m.n _ (spent m due.retained r) = spread_alike m.n _ _ (revised_held m due.retained r e).reads _ _ _ (balance_at m due.retained r e) in
    let left = holds_alike alike (rw (below_total m due.retained r e) at c.spread-rounds.ensures) in
    λ z. record { rounds = left.0 z; claims = (e z).claims; arrears = (e z).arrears; paid = left.1 z }
