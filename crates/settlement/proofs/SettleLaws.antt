-- Laws of steps 2 to 5: what is paid is at most the claim, and all but a few cents of what was received is paid.
use mathlib.Core.Path.{◌≡◌, refl, ap, ◌∙◌}
use Prim.Native.Nat.{ℕ, ◌+◌, ◌-◌, ◌≤◌, ◌<◌}
use native.Mathlib.Nat.{pos_of_ne-zero}
use native.Mathlib.Omega.{arith}
use Rattle.exact.specs.Rows.{sum}
use Rattle.exact.proofs.Cases.{cases_eq}
use Rattle.exact.proofs.RowLaws.{sum_cong, sum_mono, sum_add, sum_zero}
use Rattle.exact.proofs.Shares.{Near}
use Rattle.settlement.specs.Month.{Month, owing_to}
use Rattle.settlement.specs.Notice.{Retained, payable}
use Rattle.settlement.specs.Claims.{arrears, claim}
use Rattle.settlement.specs.Rounds.{Standing, start, negatives_at_zero}
use Rattle.settlement.specs.Settling.{available, revised, scaled_above, scaled_below, deficit, spent, rounds, paid, held, RevisedSumToAvailable, NegativesSetToZero, HeldByRoundingUp}
use Rattle.settlement.proofs.ClaimLaws.{claim_le, claim_total, arrears_total_le}
use Rattle.settlement.proofs.TierLaws.{met_le, met_all, met_exact}
use Rattle.settlement.proofs.RoundLaws.{Backed, spread_le, spread_none, spread_ended, spread_rounds}

pub negatives_set_to_zero : NegativesSetToZero
unfolding negatives_at_zero scaled_above scaled_below
negatives_set_to_zero m retained received i =
    cases_eq (λ z. z ≡ scaled_above m retained received i) (scaled_below m retained received i) 0 (λ _. refl) (λ some. omega (arith, pos_of_ne-zero some))

pub revised_sum_to_available : RevisedSumToAvailable
unfolding revised available
revised_sum_to_available m retained received = met_exact m.n m.to (available m retained received) (omega arith)

module _ (m : Month) (retained received : ℕ → ℕ) (sound : Retained m retained) where
  -- V_i ≤ O_i
  pub revised_le : (i : ℕ) → revised m retained received i ≤ owing_to m i
  unfolding revised
  revised_le i = met_le m.n m.to (available m retained received) i

  -- a positive scaled amount is at most the claim, and at most the revised amount
  pub scaled_le_claim : (i : ℕ) → scaled_above m retained received i ≤ claim m retained received i
  unfolding scaled_above
  scaled_le_claim i = omega (arith, revised_le i)

  pub scaled_le_revised : (i : ℕ) → scaled_above m retained received i ≤ revised m retained received i
  unfolding scaled_above
  scaled_le_revised i = omega (arith, claim_le m retained received sound i)

  pub scaled_backed : Backed m.n (revised m retained received) (start (scaled_above m retained received) (deficit m retained received))
  scaled_backed i _ = scaled_le_revised i

  pub revised_total_le : sum (revised m retained received) m.n ≤ sum (owing_to m) m.n
  revised_total_le = sum_mono (revised m retained received) (owing_to m) m.n (λ i _. revised_le i)

  pub deficit_le : deficit m retained received ≤ sum (owing_to m) m.n
  unfolding deficit scaled_below
  deficit_le = sum_mono (scaled_below m retained received) (owing_to m) m.n (λ i _. omega arith)

  scaled_total : sum (scaled_above m retained received) m.n + sum (owing_to m) m.n ≡ sum (claim m retained received) m.n + sum (revised m retained received) m.n + deficit m retained received
  unfolding scaled_above scaled_below deficit
  scaled_total = omega (
    arith,
    sum_cong (λ i. scaled_above m retained received i + owing_to m i) (λ i. claim m retained received i + revised m retained received i + scaled_below m retained received i) m.n (λ i _. omega arith),
    sum_add (scaled_above m retained received) (owing_to m) m.n,
    sum_add (λ i. claim m retained received i + revised m retained received i) (scaled_below m retained received) m.n,
    sum_add (claim m retained received) (revised m retained received) m.n,
  )

  pub paid_le : (i : ℕ) → paid m retained received i ≤ claim m retained received i
  unfolding paid spent
  paid_le i = omega (arith, spread_le m.n (revised m retained received) (scaled_above m retained received) (deficit m retained received) i, scaled_le_claim i)

  pub rounds_le : rounds m retained received ≤ m.n
  unfolding rounds spent
  rounds_le = omega (arith, spread_rounds m.n (revised m retained received) (scaled_above m retained received) (deficit m retained received) scaled_backed)

  -- a month without arrears
  module _ (clear : sum (arrears m retained received) m.n ≡ 0) where
    -- each tier is met, ..
    pub revised_all : (i : ℕ) → revised m retained received i ≡ owing_to m i
    unfolding revised available
    revised_all i = met_all m.n m.to (available m retained received) (omega arith) i

    deficit_none : deficit m retained received ≡ 0
    unfolding deficit scaled_below
    deficit_none = sum_zero (scaled_below m retained received) m.n (λ i _. omega (arith, revised_all i))

    spent_none : spent m retained received ≡ start (scaled_above m retained received) (deficit m retained received)
    unfolding spent
    spent_none = spread_none m.n (revised m retained received) (scaled_above m retained received) (deficit m retained received) deficit_none

    -- .. each claim is paid in full, and no round runs
    pub paid_full : (i : ℕ) → paid m retained received i ≡ claim m retained received i
    unfolding paid scaled_above
    paid_full i = ap (λ (s : Standing). s.balance i) spent_none ∙ omega (arith, revised_all i)

    pub rounds_none : rounds m retained received ≡ 0
    unfolding rounds
    rounds_none = omega (arith, ap (λ (s : Standing). s.rounds) spent_none)

  -- equal sides, and nobody has paid more than is payable
  module _ (even : sum m.by m.n ≡ sum (owing_to m) m.n) (fair : (i : ℕ) → i < m.n → received i ≤ payable m retained i) where
    -- nothing is cut off in the available money
    pub available_exact : available m retained received + sum (arrears m retained received) m.n ≡ sum (owing_to m) m.n
    unfolding available
    available_exact = omega (arith, arrears_total_le m retained received sound)

    -- held money: at most n - 1 cents, by the rounding up of the rounds
    pub paid_near : Near (sum (paid m retained received) m.n) (sum received m.n) (m.n - 1)
    unfolding paid spent
    paid_near = omega (
      arith,
      spread_ended m.n (revised m retained received) (scaled_above m retained received) (deficit m retained received) scaled_backed,
      scaled_total,
      revised_sum_to_available m retained received,
      available_exact,
      claim_total m retained received sound even fair,
    )

    -- nothing is cut off in held money, and few cents are held
    pub held_exact : held m.n received (paid m retained received) + sum (paid m retained received) m.n ≡ sum received m.n
    unfolding held
    held_exact = omega (arith, paid_near)

    pub held_le : held m.n received (paid m retained received) ≤ m.n - 1
    unfolding held
    held_le = omega (arith, paid_near)

pub held_by_rounding_up : HeldByRoundingUp
held_by_rounding_up m retained received sound even fair = omega (
  arith,
  scaled_total m retained received sound,
  revised_sum_to_available m retained received,
  available_exact m retained received sound even fair,
  claim_total m retained received sound even fair,
  held_exact m retained received sound even fair,
)
