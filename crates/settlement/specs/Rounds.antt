-- The balances of negative scaled amounts are 0, and rounds take the deficit, these amounts summed with the sign turned, from the
-- positive balances (01, Settlement, step 4; 14.59(4) and (5)).
use Rattle.std.specs.Prelude.{ℕ, zero, suc, ◌+◌, ◌-◌, ◌*◌, ◌≤◌, ◌<◌, min, ◌≡◌, ◌⊎◌, cond, eqb}
use Rattle.exact.specs.Rows.{places, sum}
use Rattle.exact.specs.Division.{ceil_div}
use Rattle.settlement.specs.Month.{side_limit}

-- 14.59(4)(a): the scaled amounts with the negative ones set to 0. An amount is negative where `below i` is not 0, else `above i`
unfoldable pub negatives_at_zero : (ℕ → ℕ) → (ℕ → ℕ) → ℕ → ℕ
negatives_at_zero above below i = cond (eqb (below i) 0) (above i) 0

-- where the rounds stand: the balances, the deficit D, and how many rounds have run
pub record Standing : Type 0 where
  pub balance : ℕ → ℕ
  pub deficit : ℕ
  pub rounds : ℕ

-- before the first round
abbrev pub start : (ℕ → ℕ) → ℕ → Standing
start balance deficit = record { balance = balance; deficit = deficit; rounds = 0 }

-- V_i where i's balance is positive; W is the sum of these
unfoldable pub weight : (ℕ → ℕ) → (ℕ → ℕ) → ℕ → ℕ
weight v balance i = cond (eqb (balance i) 0) 0 (v i)

-- n participants; v i is the revised amount V_i
module _ (n : ℕ) (v : ℕ → ℕ) where
  -- what i loses: min(balance, D × V_i / W rounded up)
  unfoldable pub loss : (ℕ → ℕ) → ℕ → ℕ → ℕ
  loss balance deficit i = min (balance i) (ceil_div (deficit * weight v balance i) (sum (weight v balance) n))

  -- one round, all from the balances and the deficit at its start
  unfoldable pub round : Standing → Standing
  round s = record {
    balance = λ i. s.balance i - loss s.balance s.deficit i;
    deficit = s.deficit - sum (loss s.balance s.deficit) n;
    rounds = s.rounds + 1;
  }

  -- rounds while the deficit is above 0 and some balance is positive, at most k of them
  unfoldable pub run : ℕ → Standing → Standing
  run zero s = s
  run (suc k) s = cond (eqb s.deficit 0) s (cond (eqb (sum s.balance n) 0) s (run k (round s)))

  -- the rounds from balances and a deficit: n are as many as can run (`RoundsSuffice`)
  unfoldable pub spread : (ℕ → ℕ) → ℕ → Standing
  spread balance deficit = run n (start balance deficit)

  -- what it means that n rounds, from balances and a deficit, are as many as can run
  pub record Suffice (balance : ℕ → ℕ) (deficit : ℕ) : Type 0 where
    -- the deficit is 0 after them, or no balance is positive
    pub ended : ((spread balance deficit).deficit ≡ 0) ⊎ ((i : ℕ) → i < n → (spread balance deficit).balance i ≡ 0)
    pub few : (spread balance deficit).rounds ≤ n
    -- the same is reached where any more are allowed
    pub more : (k : ℕ) → n ≤ k → run k (start balance deficit) ≡ spread balance deficit

-- what the arithmetic of the rounds needs: no balance is above its revised amount, so that a positive one has a weight
pub record Backing (n : ℕ) (v balance : ℕ → ℕ) (deficit : ℕ) : Type 0 where
  pub few : n ≤ places
  pub backed : (i : ℕ) → i < n → balance i ≤ v i
  pub revised_total : sum v n ≤ side_limit
  pub deficit_bound : deficit ≤ side_limit

-- n rounds are as many as can run where no balance is above its revised amount (01, Settlement, step 4: at most n)
abbrev pub RoundsSuffice : Type 0
RoundsSuffice = (n : ℕ) (v balance : ℕ → ℕ) (deficit : ℕ) → ((i : ℕ) → i < n → balance i ≤ v i) → Suffice n v balance deficit
