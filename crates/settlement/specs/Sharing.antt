-- An amount shared by weights to the last cent (02, g; 14.57's formula): each share is rounded down, and the leftover cents go
-- one each to the largest remainders of the division, equal ones to the lower participant number.
use Rattle.std.specs.Prelude.{ℕ, ◌+◌, ◌-◌, ◌*◌, ◌/◌, ◌%◌, ◌≤◌, ◌<◌, ◌≡◌, cond, eqb, ltb}
use Rattle.exact.specs.Rows.{sum}

-- participants in the order of their remainders
module _ (remainders : ℕ → ℕ) where
  -- 1 where j comes before i: its remainder is larger, or equal and its number is lower
  unfoldable pub before : ℕ → ℕ → ℕ
  before i j = cond (ltb (remainders i) (remainders j)) 1 (cond (eqb (remainders i) (remainders j)) (cond (ltb j i) 1 0) 0)

  -- how many of n come before i
  unfoldable pub rank : ℕ → ℕ → ℕ
  rank n i = sum (before i) n

-- where so many cents are left over: 1 for each before whom fewer come than cents are left over, else 0
unfoldable pub leftover_cent : (ℕ → ℕ) → ℕ → ℕ → ℕ → ℕ
leftover_cent remainders n leftover i = cond (ltb (rank remainders n i) leftover) 1 0

-- an amount; w i is the weight of i, and the weights of all come to the total
module _ (w : ℕ → ℕ) (amount total : ℕ) where
  -- amount × weight / total, rounded down
  unfoldable pub floor_share : ℕ → ℕ
  floor_share i = w i * amount / total

  -- the remainder of that division
  unfoldable pub remainder : ℕ → ℕ
  remainder i = w i * amount % total

  module _ (n : ℕ) where
    -- what the rounded shares of n participants leave over
    unfoldable pub leftover : ℕ
    leftover = amount - sum floor_share n

    -- the share of i
    unfoldable pub share_by_weight : ℕ → ℕ
    share_by_weight i = floor_share i + leftover_cent remainder n leftover i

  -- an amount that can be shared by these weights
  pub record Shareable (n : ℕ) : Type 0 where
    pub whole : sum w n ≡ total
    pub some : 0 < total
    pub within : amount ≤ total

-- no cent is left over, no share is above its weight, and each differs from the exact share, weight × amount / total, by less
-- than a cent
pub record SharedToTheCent (w : ℕ → ℕ) (amount total n : ℕ) : Type 0 where
  pub all_shared : sum (share_by_weight w amount total n) n ≡ amount
  pub within : (i : ℕ) → share_by_weight w amount total n i ≤ w i
  pub less_above : (i : ℕ) → share_by_weight w amount total n i * total < w i * amount + total
  pub less_below : (i : ℕ) → w i * amount < share_by_weight w amount total n i * total + total

abbrev pub SharesAreExact : Type 0
SharesAreExact = (w : ℕ → ℕ) (amount total n : ℕ) → Shareable w amount total n → SharedToTheCent w amount total n

-- n participants numbered anew: who was i is `to i`, and who is k was `from k`
pub record Renumbering (n : ℕ) : Type 0 where
  pub to : ℕ → ℕ
  pub from : ℕ → ℕ
  pub to_within : (i : ℕ) → i < n → to i < n
  pub from_within : (k : ℕ) → k < n → from k < n
  pub there : (i : ℕ) → i < n → from (to i) ≡ i
  pub back : (k : ℕ) → k < n → to (from k) ≡ k

-- the order of participants matters only among equal remainders: numbered anew, i has the share that it had where those whose
-- remainder equals its own come before it, or after it, as they did
abbrev pub OrderAmongEqualsAlone : Type 0
OrderAmongEqualsAlone =
    (w : ℕ → ℕ) (amount total n : ℕ) (r : Renumbering n) (i : ℕ) → i < n
    → ((j : ℕ) → j < n → remainder w amount total j ≡ remainder w amount total i → ltb (r.to j) (r.to i) ≡ ltb j i)
    → share_by_weight (λ k. w (r.from k)) amount total n (r.to i) ≡ share_by_weight w amount total n i
