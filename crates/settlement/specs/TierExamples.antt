-- What of an amount counts for retention, and tiers met in order, by example (01, Notice, and Settlement, step 2).
use Rattle.std.specs.Prelude.{ℕ, ◌≡◌, [], ◌∷◌, ◌++◌, replicate}
use Rattle.exact.specs.Rows.{at, table}
use Rattle.settlement.specs.Month.{Month, month}
use Rattle.settlement.specs.Notice.{retention}
use Rattle.settlement.specs.Settling.{revised, paid}
use Rattle.settlement.specs.Late.{late_payment}
use Rattle.settlement.specs.Claims.{claim}

-- owing by 0: 10; owing to 0: tier 5 4, to 1: tier 1 6
abbrev pub none_outside : Month
none_outside = month 2 (10 ∷ 0 ∷ []) (0 ∷ 0 ∷ 0 ∷ 0 ∷ 4 ∷ [] ++ 6 ∷ 0 ∷ 0 ∷ 0 ∷ 0 ∷ [])

-- owing by 0: 210; owing to 1 by tiers: 10, 40, 10, 40, 10, to 2: 10, 0, 40, 0, 50
abbrev pub all_tiers : Month
all_tiers = month 3 (210 ∷ 0 ∷ 0 ∷ []) (replicate 5 0 ++ 10 ∷ 40 ∷ 10 ∷ 40 ∷ 10 ∷ [] ++ 10 ∷ 0 ∷ 40 ∷ 0 ∷ 50 ∷ [])

-- 0 has paid 70 of them before settlement
abbrev pub seventy : ℕ → ℕ
seventy = at (70 ∷ 0 ∷ 0 ∷ [])

-- what a late receipt of so many cents pays
abbrev pub late_paid : ℕ → ℕ → ℕ
late_paid = late_payment all_tiers.to (claim all_tiers (retention all_tiers) seventy) (paid all_tiers (retention all_tiers) seventy) 3

pub record TierExamples : Type 0 where
  -- 0 has a shortfall of 6, and nobody else has a tier 5 part: g is 0, and nothing is retained, of its own part either
  pub none_outside_lem : table (retention none_outside) 2 ≡ 0 ∷ 0 ∷ []
  -- G is the tier 5 part alone: the shortfall of 210 retains 10 and 50, and no cent of tiers 1 to 4
  pub tier_5_alone : table (retention all_tiers) 3 ≡ 0 ∷ 10 ∷ 50 ∷ []
  -- of 30 tier 1 has 20 and tier 2 the other 10; of 70 tier 2 has 40, and the other 10 are shared in tier 3 as 2 and 8
  pub in_order : (table (revised all_tiers (retention all_tiers) (at (30 ∷ []))) 3 ≡ 0 ∷ 20 ∷ 10 ∷ [])
      × (table (revised all_tiers (retention all_tiers) seventy) 3 ≡ 0 ∷ 52 ∷ 18 ∷ [])
  -- late money meets tiers in order too: 40 are missing in tier 3, in parts of 8 and 32, and of 50 tier 4 has the other 10
  pub late_in_order : (table (late_paid 20) 3 ≡ 0 ∷ 4 ∷ 16 ∷ []) × (table (late_paid 50) 3 ≡ 0 ∷ 18 ∷ 32 ∷ [])
