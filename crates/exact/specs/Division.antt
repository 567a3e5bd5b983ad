-- Divisions that are exact: the product is formed first, however many bits it has.
use Rattle.std.specs.Prelude.{ℕ, ◌+◌, ◌-◌, ◌/◌, ◌^◌, ◌≤◌, ◌<◌}

-- n / d rounded up
unfoldable pub ceil_div : ℕ → ℕ → ℕ
ceil_div n d = (n + (d - 1)) / d

-- what the long division of amount × part by whole needs: 01's amounts are below 2^44, and in each of its proportions
-- one factor is at most the divisor
pub record Proportional (amount part whole : ℕ) : Type 0 where
  pub some : 0 < whole
  pub within : part ≤ whole
  pub whole_fits : whole < 2 ^ 44
  pub amount_fits : amount < 2 ^ 44
