-- Available money, revised, scaled and paid amounts (01, Settlement, steps 2 to 5; 14.57 to 14.59).
use Rattle.std.specs.Prelude.{ℕ, ◌+◌, ◌-◌, ◌≤◌, ◌<◌, ◌≡◌}
use Rattle.exact.specs.Rows.{sum, cells}
use Rattle.settlement.specs.Month.{Month, owing_to}
use Rattle.settlement.specs.Notice.{Retained, payable}
use Rattle.settlement.specs.Claims.{arrears, claim}
use Rattle.settlement.specs.Tiers.{met}
use Rattle.settlement.specs.Rounds.{Standing, negatives_at_zero, spread, Suffice}
use Rattle.settlement.specs.declared.scaling.Scaled.{Scaled}
use Rattle.settlement.specs.declared.settling.Settled.{Settled}

-- `retained i` is A_i, `received i` the receipts of i before settlement
module _ (m : Month) (retained received : ℕ → ℕ) where
  -- step 2: available money
  unfoldable pub available : ℕ
  available = sum (owing_to m) m.n - sum (arrears m retained received) m.n

  -- V_i, the sum of i's revised amounts
  unfoldable pub revised : ℕ → ℕ
  revised i = met m.n m.to available i

  -- step 3: the scaled amount C_i − (O_i − V_i) (14.58) where it is positive ..
  unfoldable pub scaled_above : ℕ → ℕ
  scaled_above i = (claim m retained received i + revised i) - owing_to m i

  -- .. and where it is negative, with its sign turned
  unfoldable pub scaled_below : ℕ → ℕ
  scaled_below i = owing_to m i - (claim m retained received i + revised i)

  -- what steps 1 to 3 hand on
  abbrev pub scaled_amounts : Scaled
  scaled_amounts = record {
    claims = cells (claim m retained received) m.n;
    arrears = cells (arrears m retained received) m.n;
    revised = cells revised m.n;
    above = cells scaled_above m.n;
    below = cells scaled_below m.n;
  }

  -- step 4: D, the negative scaled amounts summed, sign turned
  unfoldable pub deficit : ℕ
  deficit = sum scaled_below m.n

  -- where the rounds end; an amount that is negative starts them as a balance of 0 (14.59(4)(a))
  unfoldable pub spent : Standing
  spent = spread m.n revised scaled_above deficit

  unfoldable pub rounds : ℕ
  rounds = spent.rounds

  -- step 5: the balances left
  unfoldable pub paid : ℕ → ℕ
  paid i = spent.balance i

  -- what a settlement hands on
  abbrev pub settled : Settled
  settled = record {
    rounds = rounds;
    claims = cells (claim m retained received) m.n;
    arrears = cells (arrears m retained received) m.n;
    paid = cells paid m.n;
  }

-- n rounds are as many as can run in the settlement of any month (01, Settlement, step 4: at most n)
abbrev pub SettlementEnds : Type 0
SettlementEnds =
    (m : Month) (retained received : ℕ → ℕ) → Retained m retained
    → Suffice m.n (revised m retained received) (scaled_above m retained received) (deficit m retained received)

-- revised amounts sum to the available money (02, g)
abbrev pub RevisedSumToAvailable : Type 0
RevisedSumToAvailable = (m : Month) (retained received : ℕ → ℕ) → sum (revised m retained received) m.n ≡ available m retained received

-- 14.59(4)(a) leaves the scaled amounts that are positive, and 0 for those that are negative: where the rounds of `spent` start
abbrev pub NegativesSetToZero : Type 0
NegativesSetToZero =
    (m : Month) (retained received : ℕ → ℕ) (i : ℕ)
    → negatives_at_zero (scaled_above m retained received) (scaled_below m retained received) i ≡ scaled_above m retained received i

-- held money: received − paid
unfoldable pub held : ℕ → (ℕ → ℕ) → (ℕ → ℕ) → ℕ
held n received paid = sum received n - sum paid n

-- equal sides, and nobody has paid more than is payable: held money is what the rounds took from the positive scaled amounts beyond
-- the deficit, by rounding up (02, g)
abbrev pub HeldByRoundingUp : Type 0
HeldByRoundingUp =
    (m : Month) (retained received : ℕ → ℕ) → Retained m retained → sum m.by m.n ≡ sum (owing_to m) m.n
    → ((i : ℕ) → i < m.n → received i ≤ payable m retained i)
    → sum (scaled_above m retained received) m.n
    ≡ sum (paid m retained received) m.n + deficit m retained received + held m.n received (paid m retained received)
