-- What each participant has not paid, its set-off, arrears and claim (01, Settlement, step 1; 14.44(1)(c), 14.55(2)).
use Rattle.std.specs.Prelude.{ℕ, ◌-◌, min}
use Rattle.exact.specs.Rows.{cells}
use Rattle.settlement.specs.Month.{Month, owing_to}
use Rattle.settlement.specs.Notice.{payable, full_claim}
use Rattle.settlement.specs.declared.claims.Claimed.{Claimed}

-- `retained i` is A_i, `received i` the receipts of i before settlement
module _ (m : Month) (retained received : ℕ → ℕ) where
  -- U_i = P_i − received
  unfoldable pub unpaid : ℕ → ℕ
  unpaid i = payable m retained i - received i

  unfoldable pub set_off : ℕ → ℕ
  set_off i = min (unpaid i) (retained i)

  unfoldable pub arrears : ℕ → ℕ
  arrears i = unpaid i - set_off i

  -- C_i
  unfoldable pub claim : ℕ → ℕ
  claim i = full_claim m retained i - set_off i

  -- what step 1 hands on
  abbrev pub claimed : Claimed
  claimed = record {
    owing = cells (owing_to m) m.n;
    claims = cells claim m.n;
    arrears = cells arrears m.n;
  }
