-- Retention over groups, by example (02, a).
use Rattle.std.specs.Prelude.{ℕ, ◌≡◌, List, [], ◌∷◌, ◌++◌, replicate}
use Rattle.exact.specs.Rows.{table}
use Rattle.settlement.specs.Month.{Month, month}
use Rattle.settlement.specs.Notice.{payable}
use Rattle.settlement.specs.Groups.{group_retention}
use Rattle.settlement.specs.Examples.{month_a, month_b}
use Rattle.settlement.specs.declared.groups.Grouping.{Grouping}

-- group numbers of the first participants, and reserves of the first groups; all others are 0
abbrev pub in_groups : List ℕ → List ℕ → Grouping
in_groups groups reserves = record { groups = groups; reserves = reserves }

-- retention of the n participants, and what is payable by them
abbrev pub retained : Month → Grouping → List ℕ
retained m grouping = table (group_retention m grouping) m.n

abbrev pub payables : Month → Grouping → List ℕ
payables m grouping = table (payable m (group_retention m grouping)) m.n

-- owing by 0: 600, by 2: 100, by 3: 300; owing to 1: tier 1 100, tier 5 700, to 2: tier 5 200, so that B − O is 600, −800,
-- −100 and 300
abbrev pub month_c : Month
month_c = month 4 (600 ∷ 0 ∷ 100 ∷ 300 ∷ []) (replicate 5 0 ++ 100 ∷ 0 ∷ 0 ∷ 0 ∷ 700 ∷ [] ++ 0 ∷ 0 ∷ 0 ∷ 0 ∷ 200 ∷ [] ++ replicate 5 0)

-- owing by 0: 400, by 2: 400, by 3: 200; owing to 0: 100, to 1: 600, to 2: 300, tier 5, so that B − O is 300, −600, 100 and 200
abbrev pub month_d : Month
month_d =
    month 4 (400 ∷ 0 ∷ 400 ∷ 200 ∷ [])
    (0 ∷ 0 ∷ 0 ∷ 0 ∷ 100 ∷ [] ++ 0 ∷ 0 ∷ 0 ∷ 0 ∷ 600 ∷ [] ++ 0 ∷ 0 ∷ 0 ∷ 0 ∷ 300 ∷ [] ++ replicate 5 0)

-- owing by 0: 200, by 2: 300; owing to 1: 200, to 3: 300, tier 5, so that B − O is 200, −200, 300 and −300
abbrev pub month_e : Month
month_e = month 4 (200 ∷ 0 ∷ 300 ∷ 0 ∷ []) (replicate 5 0 ++ 0 ∷ 0 ∷ 0 ∷ 0 ∷ 200 ∷ [] ++ replicate 5 0 ++ 0 ∷ 0 ∷ 0 ∷ 0 ∷ 300 ∷ [])

-- 0 and 2 are related, in group 63
abbrev pub related : List ℕ
related = 63 ∷ 1 ∷ 63 ∷ 3 ∷ []

-- a reserve of group 63, and none of any other
abbrev pub last_reserve : ℕ → List ℕ
last_reserve cents = replicate 63 0 ++ cents ∷ []

pub record GroupExamples : Type 0 where
  -- any numbers that differ, without reserves: months A and B as 01 has them
  pub apart_a : (retained month_a (in_groups (63 ∷ 0 ∷ 7 ∷ []) []) ≡ 0 ∷ 467 ∷ 134 ∷ []) × (payables month_a (in_groups (63 ∷ 0 ∷ 7 ∷ []) []) ≡ 600 ∷ 0 ∷ 334 ∷ [])
  pub apart_b : (retained month_b (in_groups (63 ∷ 0 ∷ 7 ∷ []) []) ≡ 0 ∷ 300 ∷ 100 ∷ []) × (payables month_b (in_groups (63 ∷ 0 ∷ 7 ∷ []) []) ≡ 300 ∷ 0 ∷ 400 ∷ [])
  -- the group's sum is 500, though that of 2 is −100; 700 are outside it. In groups of one it is 467 and 134
  pub together : (retained month_c (in_groups related []) ≡ 0 ∷ 500 ∷ 143 ∷ 0 ∷ []) × (payables month_c (in_groups related []) ≡ 600 ∷ 0 ∷ 43 ∷ 300 ∷ [])
  pub alone : retained month_c (in_groups (0 ∷ 1 ∷ 2 ∷ 3 ∷ []) []) ≡ 0 ∷ 467 ∷ 134 ∷ 0 ∷ []
  -- a reserve of 100 makes it 600
  pub reserve_counts : retained month_c (in_groups related (last_reserve 100)) ≡ 0 ∷ 600 ∷ 172 ∷ 0 ∷ []
  -- reserves of a group whose sum is negative, and of groups without members, do not count ..
  pub reserve_idle : retained month_c (in_groups related (1000 ∷ 1000 ∷ 1000 ∷ 0 ∷ 1000 ∷ [])) ≡ 0 ∷ 500 ∷ 143 ∷ 0 ∷ []
  -- .. nor does that of a group whose sum is 0, here of 0 and 1
  pub sum_zero : retained month_e (in_groups (5 ∷ 5 ∷ 1 ∷ 2 ∷ []) (replicate 5 0 ++ 1000 ∷ [])) ≡ 0 ∷ 120 ∷ 0 ∷ 180 ∷ []
  -- all in one group: nobody is outside it, so nothing is given
  pub all_in_one : retained month_c (in_groups (0 ∷ 0 ∷ 0 ∷ 0 ∷ []) (1000 ∷ [])) ≡ 0 ∷ 0 ∷ 0 ∷ 0 ∷ []
  -- the group's sum is 400, with 600 outside it: its own members' parts are retained too ..
  pub both : (retained month_d (in_groups related []) ≡ 67 ∷ 400 ∷ 200 ∷ 0 ∷ []) × (payables month_d (in_groups related []) ≡ 367 ∷ 0 ∷ 300 ∷ 200 ∷ [])
  -- .. and with the largest reserve all of each part
  pub whole : retained month_d (in_groups related (last_reserve 10_000_000_000_000)) ≡ 100 ∷ 600 ∷ 300 ∷ 0 ∷ []
