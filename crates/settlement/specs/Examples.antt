-- The ten starred examples (01, Reckoned examples) as one proposition about the definitions. 30,000 gives 34 by 02, b; month A
-- pays 567 and holds nothing by 02, g.
use Rattle.std.specs.Prelude.{ℕ, ◌+◌, ◌≡◌, [], ◌∷◌, ◌++◌, replicate}
use Rattle.exact.specs.Rows.{at, table}
use Rattle.exact.specs.Energy.{energy_cents}
use Rattle.settlement.specs.Month.{Month, month}
use Rattle.settlement.specs.Notice.{retention, payable}
use Rattle.settlement.specs.Claims.{claim}
use Rattle.settlement.specs.Rounds.{Standing, spread}
use Rattle.settlement.specs.Settling.{scaled_above, scaled_below, rounds, paid, held}
use Rattle.settlement.specs.Late.{late_payment}

-- owing by 0: 600, by 2: 400; owing to 1: tier 1 100, tier 5 700, to 2: tier 5 200
abbrev pub month_a : Month
month_a = month 3 (600 ∷ 0 ∷ 400 ∷ []) (replicate 5 0 ++ 100 ∷ 0 ∷ 0 ∷ 0 ∷ 700 ∷ [] ++ 0 ∷ 0 ∷ 0 ∷ 0 ∷ 200 ∷ [])

abbrev pub received_a : ℕ → ℕ
received_a = at (300 ∷ 0 ∷ 334 ∷ [])

-- owing by 0: 300, by 2: 500; owing to 1: 600, to 2: 200, tier 5
abbrev pub month_b : Month
month_b = month 3 (300 ∷ 0 ∷ 500 ∷ []) (replicate 5 0 ++ 0 ∷ 0 ∷ 0 ∷ 0 ∷ 600 ∷ [] ++ 0 ∷ 0 ∷ 0 ∷ 0 ∷ 200 ∷ [])

abbrev pub received_b : ℕ → ℕ
received_b = at (300 ∷ 0 ∷ 0 ∷ [])

abbrev pub late_a : ℕ → ℕ
late_a = late_payment month_a.to (claim month_a (retention month_a) received_a) (paid month_a (retention month_a) received_a) 3 (held 3 received_a (paid month_a (retention month_a) received_a) + 100)

abbrev pub two_rounds : Standing
two_rounds = spread 2 (at (10 ∷ 10 ∷ [])) (at (2 ∷ 20 ∷ [])) 10

pub record Examples : Type 0 where
  pub energy_half_up : energy_cents 100 100 ≡ 12
  pub energy_down : energy_cents 99 101 ≡ 11
  pub energy_half_down : energy_cents 100 300 ≡ 34
  pub energy_none : energy_cents 0 100 ≡ 0
  pub notice_a : (table (retention month_a) 3 ≡ 0 ∷ 467 ∷ 134 ∷ []) × (table (payable month_a (retention month_a)) 3 ≡ 600 ∷ 0 ∷ 334 ∷ [])
  pub settled_a : (table (paid month_a (retention month_a) received_a) 3 ≡ 0 ∷ 567 ∷ 67 ∷ []) × (held 3 received_a (paid month_a (retention month_a) received_a) ≡ 0) × (rounds month_a (retention month_a) received_a ≡ 0)
  pub late_a_lem : (table late_a 3 ≡ 0 ∷ 78 ∷ 22 ∷ []) × (held 3 (at (400 ∷ 0 ∷ 334 ∷ [])) (λ i. paid month_a (retention month_a) received_a i + late_a i) ≡ 0)
  pub notice_b : (table (retention month_b) 3 ≡ 0 ∷ 300 ∷ 100 ∷ []) × (table (payable month_b (retention month_b)) 3 ≡ 300 ∷ 0 ∷ 400 ∷ [])
  pub settled_b : (table (scaled_above month_b (retention month_b) received_b) 3 ≡ 0 ∷ 375 ∷ 0 ∷ []) × (table (scaled_below month_b (retention month_b) received_b) 3 ≡ 0 ∷ 0 ∷ 75 ∷ []) × (table (paid month_b (retention month_b) received_b) 3 ≡ 0 ∷ 300 ∷ 0 ∷ []) × (rounds month_b (retention month_b) received_b ≡ 1)
  pub two_rounds_lem : (table two_rounds.balance 2 ≡ 0 ∷ 12 ∷ []) × (two_rounds.rounds ≡ 2)
