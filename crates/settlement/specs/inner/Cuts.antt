-- How the largest remainders are found: a cut among them (02, g). Only contracts of private functions cite it.
use Rattle.std.specs.Prelude.{ℕ, ◌≤◌, ◌<◌, cond, leb}
use Rattle.exact.specs.Rows.{sum}

-- of n remainders, how many are at least so much
unfoldable pub count_from : (ℕ → ℕ) → ℕ → ℕ → ℕ
count_from remainders n least = sum (λ j. cond (leb least (remainders j)) 1 0) n

-- with so many cents left over, the cut among n remainders is above `low` and not above `least`: from `least` on they are not more
-- than there are cents, and from `low` on not fewer
pub record CutBetween (remainders : ℕ → ℕ) (n leftover low least : ℕ) : Type 0 where
  pub apart : low < least
  pub few : count_from remainders n least ≤ leftover
  pub enough : leftover ≤ count_from remainders n low
