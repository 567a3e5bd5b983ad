-- Retention over related groups, which is what a notice reckons with (02, a; document 000, section 2, (1) and (1a)).
use Rattle.std.specs.Prelude.{ℕ, ◌+◌, ◌-◌, ◌<◌, ◌≡◌, Bool, false, cond, eqb, ltb, leb}
use Rattle.exact.specs.Rows.{at, sum, largest, cells}
use Rattle.settlement.specs.Month.{Month, owing_to, tier5}
use Rattle.settlement.specs.Notice.{gives, retention, payable}
use Rattle.settlement.specs.declared.groups.Grouping.{Grouping}
use Rattle.settlement.specs.declared.noticing.Noticed.{Noticed}

-- group numbers are 0 to 63 (02, a)
abbrev pub group_count : ℕ
group_count = 64

-- a group's GST reserve is at most this many cents (02, a)
abbrev pub reserve_limit : ℕ
reserve_limit = 10_000_000_000_000

-- the group numbers of n participants and all reserves are within their values; numbers from n on are not looked at (02, a)
unfoldable pub grouping_allowed : ℕ → Grouping → Bool
grouping_allowed n grouping =
    cond (ltb (largest (at grouping.groups) n) group_count) (leb (largest (at grouping.reserves) group_count) reserve_limit) false

-- n participants, where `groups i` is the group number of i
module _ (groups : ℕ → ℕ) (n : ℕ) where
  -- the sum of a row over the members of group k ..
  unfoldable pub group_sum : (ℕ → ℕ) → ℕ → ℕ
  group_sum f k = sum (λ i. cond (eqb (groups i) k) (f i) 0) n

  -- .. and over all who are outside it
  unfoldable pub outside_sum : (ℕ → ℕ) → ℕ → ℕ
  outside_sum f k = sum (λ i. cond (eqb (groups i) k) 0 (f i)) n

-- s of a group, from its sums of B and of O: what B has above O, plus the reserve; 0 where B has nothing above O
unfoldable pub shortfall_with_reserve : ℕ → ℕ → ℕ → ℕ
shortfall_with_reserve by to reserve = cond (ltb to by) ((by - to) + reserve) 0

module _ (m : Month) (grouping : Grouping) where
  -- a row's sum over a group
  abbrev pub sum_over : (ℕ → ℕ) → ℕ → ℕ
  sum_over = group_sum (at grouping.groups) m.n

  -- s = the larger of 0 and the group's sum of B − O, plus its reserve where that sum is positive
  unfoldable pub group_shortfall : ℕ → ℕ
  group_shortfall k = shortfall_with_reserve (sum_over m.by k) (sum_over (owing_to m) k) (at grouping.reserves k)

  -- g, the sum of G outside the group
  unfoldable pub outside_tier5 : ℕ → ℕ
  outside_tier5 k = outside_sum (at grouping.groups) m.n (tier5 m) k

  -- A_i, the largest that any group gives i, its own included
  unfoldable pub group_retention : ℕ → ℕ
  group_retention i = largest (λ k. gives (group_shortfall k) (outside_tier5 k) (tier5 m i)) group_count

  -- what a notice hands on
  abbrev pub noticed : Noticed
  noticed = record { retention = cells group_retention m.n; payable = cells (payable m group_retention) m.n }

-- each of n participants is in a group of its own, and no group has a reserve
pub record Separate (n : ℕ) (grouping : Grouping) : Type 0 where
  pub numbered : (i : ℕ) → i < n → at grouping.groups i < group_count
  pub differ : (i j : ℕ) → i < n → j < n → at grouping.groups i ≡ at grouping.groups j → i ≡ j
  pub no_reserve : (k : ℕ) → k < group_count → at grouping.reserves k ≡ 0

-- where that is so 01's retention comes out, for every month and every participant (02, a)
abbrev pub SeparateRetention : Type 0
SeparateRetention = (m : Month) (grouping : Grouping) → Separate m.n grouping → (i : ℕ) → group_retention m grouping i ≡ retention m i
