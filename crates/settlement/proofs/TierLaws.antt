-- Laws of money that meets tiers in order.
use mathlib.Core.Path.{◌≡◌, refl, sym, ◌∙◌}
use mathlib.Core.Logic.{⊎_elim}
use Prim.Native.Nat.{ℕ, zero, suc, ◌+◌, ◌-◌, ◌≤◌, ◌<◌}
use native.Mathlib.Nat.{eq-or-lt_of_le}
use native.Mathlib.Omega.{arith}
use native.Mathlib.Numerals.{add-one}
use Rattle.exact.specs.Rows.{sum}
use Rattle.exact.proofs.Cases.{cases_le, le_or_lt}
use Rattle.exact.proofs.RowLaws.{sum_none, sum_suc, sum_cong, sum_mono, sum_zero, sum_swap, sum_part, sum_term}
use Rattle.settlement.specs.Month.{tiers, over_tiers}
use Rattle.settlement.specs.Sharing.{share_by_weight, Shareable}
use Rattle.settlement.specs.Tiers.{share, left_for, tier_share, met}
use Rattle.settlement.proofs.SharingLaws.{shares_are_exact, by_weight_cong}

-- one tier
module _ (n : ℕ) (w : ℕ → ℕ) (left : ℕ) where
  pub share_met : sum w n ≤ left → (i : ℕ) → share n w left i ≡ w i
  unfolding share
  share_met h i = cases_le (λ z. z ≡ w i) (sum w n) left (λ _. refl) (λ l. absurd (omega arith))

  pub share_unmet : left < sum w n → (i : ℕ) → share n w left i ≡ share_by_weight w left (sum w n) n i
  unfolding share
  share_unmet h i = cases_le (λ z. z ≡ share_by_weight w left (sum w n) n i) (sum w n) left (λ l. absurd (omega arith)) (λ _. refl)

  -- what is left for a tier that is not met can be shared
  pub unmet_shareable : left < sum w n → Shareable w left (sum w n) n
  unmet_shareable h = record { whole = refl; some = omega arith; within = omega arith }

  pub share_le : (i : ℕ) → share n w left i ≤ w i
  unfolding share
  share_le i = cases_le (λ z. z ≤ w i) (sum w n) left (λ _. omega arith) (λ l. (shares_are_exact w left (sum w n) n (unmet_shareable l)).within i)

  -- a tier that is not met shares all that is left
  share_unmet_total : left < sum w n → sum (share n w left) n ≡ left
  share_unmet_total h = sum_cong _ _ n (λ i _. share_unmet h i) ∙ (shares_are_exact w left (sum w n) n (unmet_shareable h)).all_shared

  pub share_nothing : left ≡ 0 → (i : ℕ) → i < n → share n w left i ≡ 0
  share_nothing e i h =
      ⊎_elim (λ (l : sum w n ≤ left). omega (arith, share_le i, sum_term w n i h))
      (λ (l : left < sum w n). omega (arith, share_unmet_total l, sum_term (share n w left) n i h))
      (le_or_lt (sum w n) left)

-- a tier's shares go by what it wants below n
pub share_cong : (n : ℕ) (f g : ℕ → ℕ) (left : ℕ) → ((i : ℕ) → i < n → f i ≡ g i) → (i : ℕ) → i < n → share n f left i ≡ share n g left i
unfolding share
share_cong n f g left h i l = rw (sum_cong f g n h, h i l, by_weight_cong f g left (sum g n) n h i l)

-- all tiers
module _ (n : ℕ) (w : ℕ → ℕ → ℕ) where
  -- what the tiers before t want
  unfoldable pub wanted_before : ℕ → ℕ
  wanted_before t = sum (λ s. sum (w s) n) t

  wanted_none : wanted_before 0 ≡ 0
  unfolding wanted_before
  wanted_none = sum_none _

  wanted_suc : (t : ℕ) → wanted_before (suc t) ≡ wanted_before t + sum (w t) n
  unfolding wanted_before
  wanted_suc t = sum_suc _ t

  pub wanted_mono : (t k : ℕ) → t ≤ k → wanted_before t ≤ wanted_before k
  unfolding wanted_before
  wanted_mono t k h = sum_part (λ s. sum (w s) n) t k h

  -- over all tiers, what is wanted for all
  pub wanted_all : wanted_before tiers ≡ sum (over_tiers w) n
  unfolding wanted_before over_tiers
  wanted_all = sym (sum_swap w n tiers)

  module _ (money : ℕ) where
    pub left_first : left_for n w money 0 ≡ money
    unfolding left_for
    left_first = refl

    pub left_more : (t : ℕ) → left_for n w money (t + 1) ≡ left_for n w money t - sum (w t) n
    unfolding left_for
    left_more t = rw (add-one t)

    left_is : (t : ℕ) → left_for n w money t ≡ money - wanted_before t
    unfolding left_for
    left_is zero = omega (arith, wanted_none)
    left_is (suc t) = omega (arith, left_is t, wanted_suc t)

    -- a tier that is met with those before it, and one after the first that is not met
    pub tier_met : (t : ℕ) → wanted_before (suc t) ≤ money → (i : ℕ) → tier_share n w money t i ≡ w t i
    unfolding tier_share
    tier_met t h i = share_met n (w t) (left_for n w money t) (omega (arith, wanted_suc t, left_is t)) i

    pub tier_after : (t : ℕ) → money < wanted_before t → (i : ℕ) → i < n → tier_share n w money t i ≡ 0
    unfolding tier_share
    tier_after t h i l = share_nothing n (w t) (left_for n w money t) (omega (arith, left_is t)) i l

    tier_unmet : (t : ℕ) → left_for n w money t < sum (w t) n → sum (tier_share n w money t) n ≡ left_for n w money t
    unfolding tier_share
    tier_unmet t h = share_unmet_total n (w t) (left_for n w money t) h

    pub tier_share_le : (t i : ℕ) → tier_share n w money t i ≤ w t i
    unfolding tier_share
    tier_share_le t i = share_le n (w t) (left_for n w money t) i

    -- what the tiers before k give to all
    unfoldable given_before : ℕ → ℕ
    given_before k = sum (λ t. sum (tier_share n w money t) n) k

    given_none : given_before 0 ≡ 0
    unfolding given_before
    given_none = sum_none _

    given_suc : (k : ℕ) → given_before (suc k) ≡ given_before k + sum (tier_share n w money k) n
    unfolding given_before
    given_suc k = sum_suc _ k

    given_met : (k : ℕ) → wanted_before k ≤ money → given_before k ≡ wanted_before k
    given_met zero h = omega (arith, wanted_none, given_none)
    given_met (suc k) h =
        omega (arith, given_suc k, wanted_suc k, given_met k (omega (arith, wanted_suc k)), sum_cong (tier_share n w money k) (w k) n (λ i _. tier_met k h i))

    given_unmet : (k : ℕ) → money < wanted_before k → given_before k ≡ money
    given_unmet zero h = absurd (omega (arith, wanted_none))
    given_unmet (suc k) h =
        ⊎_elim
        (λ (l : wanted_before k ≤ money).
        omega (arith, left_is k, given_suc k, given_met k l, tier_unmet k (omega (arith, wanted_suc k, left_is k))))
        (λ (g : money < wanted_before k).
        omega (arith, given_suc k, sum_zero (tier_share n w money k) n (λ i l. tier_after k g i l), given_unmet k g))
        (le_or_lt (wanted_before k) money)

    met_total : sum (met n w money) n ≡ given_before tiers
    unfolding met given_before over_tiers
    met_total = sum_swap (tier_share n w money) n tiers

    -- where the tiers want as much, they get just the money
    pub met_exact : money ≤ sum (over_tiers w) n → sum (met n w money) n ≡ money
    met_exact h =
        ⊎_elim
        (λ (e : money ≡ wanted_before tiers). omega (arith, met_total, given_met tiers (omega arith)))
        (λ (l : money < wanted_before tiers). omega (arith, met_total, given_unmet tiers l))
        (eq-or-lt_of_le (let k : money ≤ wanted_before tiers = omega (arith, wanted_all) in k))

    -- what i gets in the tiers before t, and in all of them
    pub met_part : (t i : ℕ) → t ≤ tiers → sum (λ s. tier_share n w money s i) t ≤ over_tiers w i
    unfolding over_tiers
    met_part t i h = omega (arith, sum_part (λ s. tier_share n w money s i) t tiers h, sum_mono (λ s. tier_share n w money s i) (λ s. w s i) tiers (λ s _. tier_share_le s i))

    pub met_is : (i : ℕ) → met n w money i ≡ sum (λ s. tier_share n w money s i) tiers
    unfolding met over_tiers
    met_is i = refl

    pub met_le : (i : ℕ) → met n w money i ≤ over_tiers w i
    met_le i = rw (met_is i) (met_part tiers i (omega arith))

    -- money for all that is wanted gives each what it wants
    pub met_all : sum (over_tiers w) n ≤ money → (i : ℕ) → met n w money i ≡ over_tiers w i
    unfolding met over_tiers
    met_all h i = sum_cong _ _ tiers (λ t k. tier_met t (omega (arith, wanted_all, wanted_mono (suc t) tiers k)) i)

-- the walk goes by what the tiers want below n
module _ (n : ℕ) (w u : ℕ → ℕ → ℕ) (money : ℕ) (same : (t i : ℕ) → t < tiers → i < n → w t i ≡ u t i) where
  left_cong : (t : ℕ) → t ≤ tiers → left_for n w money t ≡ left_for n u money t
  unfolding left_for
  left_cong zero h = refl
  left_cong (suc t) h = rw (left_cong t (omega arith), sum_cong (w t) (u t) n (λ i l. same t i (omega arith) l))

  tier_share_cong : (t i : ℕ) → t < tiers → i < n → tier_share n w money t i ≡ tier_share n u money t i
  unfolding tier_share
  tier_share_cong t i h l = rw (left_cong t (omega arith)) (share_cong n (w t) (u t) (left_for n u money t) (λ j k. same t j h k) i l)

  pub met_cong : (i : ℕ) → i < n → met n w money i ≡ met n u money i
  met_cong i l = met_is n w money i ∙ sum_cong _ _ tiers (λ t h. tier_share_cong t i h l) ∙ sym (met_is n u money i)
