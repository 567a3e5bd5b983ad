-- Laws of payable amounts and full claims, for any retention of at most the tier 5 part.
use mathlib.Core.Path.{◌≡◌}
use Prim.Native.Nat.{ℕ, ◌+◌, ◌-◌, ◌≤◌, max}
use native.Mathlib.Omega.{arith}
use Rattle.exact.specs.Rows.{sum}
use Rattle.exact.proofs.RowLaws.{sum_cong, sum_add}
use Rattle.settlement.specs.Month.{Month, owing_to}
use Rattle.settlement.specs.Notice.{Retained, payable, full_claim}
use Rattle.settlement.proofs.MonthLaws.{tier5_le}

module _ (m : Month) (retained : ℕ → ℕ) (sound : Retained m retained) where
  module _ (i : ℕ) where
    -- F_i = max(O_i − B_i, A_i)
    pub full_max : full_claim m retained i ≡ max (owing_to m i - m.by i) (retained i)
    unfolding full_claim payable
    full_max = omega arith

    -- nothing is cut off in F_i
    pub full_balance : full_claim m retained i + m.by i ≡ owing_to m i + payable m retained i
    unfolding full_claim payable
    full_balance = omega arith

    pub retained_le_full : retained i ≤ full_claim m retained i
    retained_le_full = omega (arith, full_max)

    pub full_le : full_claim m retained i ≤ owing_to m i
    full_le = omega (arith, full_max, sound.within i, tier5_le m i)

    pub payable_le : payable m retained i ≤ m.by i
    unfolding payable
    payable_le = omega (arith, sound.within i, tier5_le m i)

  -- where the sides are equal, full claims come to what is payable
  pub full_total : sum m.by m.n ≡ sum (owing_to m) m.n → sum (full_claim m retained) m.n ≡ sum (payable m retained) m.n
  full_total e = omega (
    arith,
    sum_cong (λ i. full_claim m retained i + m.by i) (λ i. owing_to m i + payable m retained i) m.n (λ i _. full_balance i),
    sum_add (full_claim m retained) m.by m.n,
    sum_add (owing_to m) (payable m retained) m.n,
  )
