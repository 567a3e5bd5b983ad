-- Money that meets tiers in order (01, Settlement, step 2, and Late money; 14.56(2), and 14.57's formula for a tier; 02, g).
use Rattle.std.specs.Prelude.{ℕ, zero, suc, ◌-◌, cond, leb}
use Rattle.exact.specs.Rows.{sum}
use Rattle.settlement.specs.Month.{over_tiers}
use Rattle.settlement.specs.Sharing.{share_by_weight}

-- one tier, which wants w i for i, when so much money is left for it: all that it wants where the tier can be met, else what is
-- left is shared by what it wants
unfoldable pub share : ℕ → (ℕ → ℕ) → ℕ → ℕ → ℕ
share n w left i = cond (leb (sum w n) left) (w i) (share_by_weight w left (sum w n) n i)

-- all tiers, where tier t wants w t i for i
module _ (n : ℕ) (w : ℕ → ℕ → ℕ) (money : ℕ) where
  -- what is left for tier t: a tier that is not met leaves nothing to the later ones
  unfoldable pub left_for : ℕ → ℕ
  left_for zero = money
  left_for (suc t) = left_for t - sum (w t) n

  unfoldable pub tier_share : ℕ → ℕ → ℕ
  tier_share t i = share n (w t) (left_for t) i

  -- what i gets over all tiers
  unfoldable pub met : ℕ → ℕ
  met = over_tiers tier_share
