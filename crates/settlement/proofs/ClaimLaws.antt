-- Laws of step 1: what is unpaid, set-off, arrears and claims.
use mathlib.Core.Path.{◌≡◌}
use Prim.Native.Nat.{ℕ, ◌+◌, ◌-◌, ◌≤◌, ◌<◌, min}
use native.Mathlib.Omega.{arith}
use Rattle.exact.specs.Rows.{sum}
use Rattle.exact.proofs.RowLaws.{sum_cong, sum_mono, sum_add}
use Rattle.settlement.specs.Month.{Month, owing_to}
use Rattle.settlement.specs.Notice.{Retained, payable, full_claim}
use Rattle.settlement.specs.Claims.{unpaid, set_off, arrears, claim}
use Rattle.settlement.proofs.NoticeLaws.{full_max, full_total, full_le, retained_le_full}

module _ (m : Month) (retained received : ℕ → ℕ) (sound : Retained m retained) where
  module _ (i : ℕ) where
    pub set_off_le : set_off m retained received i ≤ retained i
    unfolding set_off
    set_off_le = omega arith

    -- nothing is cut off in U_i, in arrears and in C_i
    pub unpaid_exact : received i ≤ payable m retained i → unpaid m retained received i + received i ≡ payable m retained i
    unfolding unpaid
    unpaid_exact h = omega arith

    pub arrears_exact : arrears m retained received i + set_off m retained received i ≡ unpaid m retained received i
    unfolding arrears set_off
    arrears_exact = omega arith

    pub claim_exact : claim m retained received i + set_off m retained received i ≡ full_claim m retained i
    unfolding claim
    claim_exact = omega (arith, set_off_le, retained_le_full m retained sound i)

    -- the set-off by full claims: where anything is unpaid, the full claim is the retention
    pub set_off_full : set_off m retained received i ≡ min (unpaid m retained received i) (full_claim m retained i)
    unfolding set_off unpaid payable full_claim
    set_off_full = omega arith

    -- C_i ≤ O_i
    pub claim_le : claim m retained received i ≤ owing_to m i
    unfolding claim
    claim_le = omega (arith, full_le m retained sound i)

    pub arrears_le : arrears m retained received i ≤ m.by i - owing_to m i
    unfolding arrears set_off unpaid payable
    arrears_le = omega arith

    pub claim_balance : received i ≤ payable m retained i
        → claim m retained received i + payable m retained i ≡ full_claim m retained i + (received i + arrears m retained received i)
    unfolding claim arrears set_off unpaid
    claim_balance h = omega (arith, full_max m retained sound i)

  pub arrears_total_le : sum (arrears m retained received) m.n ≤ sum m.by m.n
  arrears_total_le = sum_mono (arrears m retained received) m.by m.n (λ i _. omega (arith, arrears_le i))

  -- claims come to what was received and what is in arrears
  pub claim_total : sum m.by m.n ≡ sum (owing_to m) m.n → ((i : ℕ) → i < m.n → received i ≤ payable m retained i)
      → sum (claim m retained received) m.n ≡ sum received m.n + sum (arrears m retained received) m.n
  claim_total e h = omega (
    arith,
    full_total m retained sound e,
    sum_cong (λ i. claim m retained received i + payable m retained i)
        (λ i. full_claim m retained i + (received i + arrears m retained received i)) m.n (λ i k. claim_balance i (h i k)),
    sum_add (claim m retained received) (payable m retained) m.n,
    sum_add (full_claim m retained) (λ i. received i + arrears m retained received i) m.n,
    sum_add received (arrears m retained received) m.n,
  )

-- step 1 goes by i's own receipts
module _ (m : Month) (retained f g : ℕ → ℕ) (i : ℕ) (e : f i ≡ g i) where
  pub claim_cong : claim m retained f i ≡ claim m retained g i
  unfolding claim set_off unpaid
  claim_cong = rw e

  pub arrears_cong : arrears m retained f i ≡ arrears m retained g i
  unfolding arrears set_off unpaid
  arrears_cong = rw e
