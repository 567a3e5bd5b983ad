-- The payout words that are lent to one entry after the other.
use Rattle.std.specs.Prelude.{ℕ, ◌≡◌, List, length, drop}

-- as many words, and the same from n on
pub record AgreeFrom (n : ℕ) (v w : List ℕ) : Type 0 where
  pub size : length v ≡ length w
  pub rest : drop n v ≡ drop n w
