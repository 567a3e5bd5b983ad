-- Laws of late money: how cents fill tiers, what shortages come to, and that tiers are met in order.
use mathlib.Core.Path.{◌≡◌}
use mathlib.Core.Logic.{◌⊎◌, inl, inr, ⊎_elim}
use Prim.Native.Nat.{ℕ, zero, suc, ◌+◌, ◌≤◌, ◌<◌, min, max}
use native.Mathlib.Nat.{le_trans}
use native.Mathlib.Omega.{arith}
use Rattle.exact.specs.Rows.{sum}
use Rattle.exact.proofs.Cases.{le_or_lt}
use Rattle.exact.proofs.RowLaws.{sum_none, sum_suc, sum_cong, sum_mono, sum_add, sum_tail, sum_part}
use Rattle.settlement.specs.Month.{tiers, over_tiers}
use Rattle.settlement.specs.Tiers.{tier_share, met}
use Rattle.settlement.specs.Late.{fill, tiers_of, shortage, late_payment}
use Rattle.settlement.proofs.TierLaws.{wanted_before, wanted_mono, wanted_all, tier_met, tier_after, tier_share_le, met_exact}

-- x cents have in the tiers before k what these take of them
pub fill_sum : (o : ℕ → ℕ) (x k : ℕ) → sum (fill o x) k ≡ min x (sum o k)
unfolding fill
fill_sum o x zero = omega (arith, sum_none o, sum_none (fill o x))
fill_sum o x (suc k) = omega (arith, sum_suc o k, sum_suc (fill o x) k, fill_sum o x k)

pub fill_mono : (o : ℕ → ℕ) (x y t : ℕ) → x ≤ y → fill o x t ≤ fill o y t
unfolding fill
fill_mono o x y t h = omega arith

-- a shortage looks at its owner's claim and payments alone
pub shortage_cong : (to : ℕ → ℕ → ℕ) (claim paid claim' paid' : ℕ → ℕ) (t i : ℕ) → claim i ≡ claim' i → paid i ≡ paid' i
    → shortage to claim paid t i ≡ shortage to claim' paid' t i
unfolding shortage
shortage_cong to claim paid claim' paid' t i c p = rw (c, p)

module _ (to : ℕ → ℕ → ℕ) (claim paid : ℕ → ℕ) where
  abbrev short : ℕ → ℕ → ℕ
  short = shortage to claim paid

  -- no shortage is above what the tier has
  pub shortage_le : (t i : ℕ) → shortage to claim paid t i ≤ to t i
  unfolding shortage fill
  shortage_le t i = omega arith

  -- an owner that was paid no more than its claim
  module _ (i : ℕ) (under : paid i ≤ claim i) where
    shortage_is : (t : ℕ) → short t i + fill (tiers_of to i) (paid i) t ≡ fill (tiers_of to i) (claim i) t
    unfolding shortage
    shortage_is t = omega (arith, fill_mono (tiers_of to i) (paid i) (claim i) t under)

    -- shortages before tier k are what the claim has there and the payments have not
    pub shortage_sum : (k : ℕ) → sum (λ t. shortage to claim paid t i) k + min (paid i) (sum (tiers_of to i) k) ≡ min (claim i) (sum (tiers_of to i) k)
    shortage_sum k = omega (
      arith,
      fill_sum (tiers_of to i) (paid i) k,
      fill_sum (tiers_of to i) (claim i) k,
      sum_add (λ t. short t i) (fill (tiers_of to i) (paid i)) k,
      sum_cong _ (fill (tiers_of to i) (claim i)) k (λ t _. shortage_is t),
    )

    -- an owner whose tiers before k are met has been paid its claim up to there
    pub paid_through : (k : ℕ) → paid i + sum (λ t. shortage to claim paid t i) k ≡ max (paid i) (min (claim i) (sum (tiers_of to i) k))
    paid_through k = omega (arith, shortage_sum k)

  module _ (n money : ℕ) where
    -- what the money pays
    abbrev pub pay : ℕ → ℕ
    pay = late_payment to claim paid n money

    module _ (i : ℕ) (member : i < n) (under : paid i ≤ claim i) where
      abbrev got : ℕ → ℕ
      got t = tier_share n short money t i

      got_le : (k : ℕ) → sum got k ≤ sum (λ t. short t i) k
      got_le k = sum_mono got (λ t. short t i) k (λ t _. tier_share_le n short money t i)

      got_met : (k : ℕ) → wanted_before n short k ≤ money → sum got k ≡ sum (λ t. short t i) k
      got_met k e = sum_cong _ _ k (λ t b. tier_met n short money t (le_trans (wanted_mono n short (suc t) k b) e) i)

      -- the tiers before k are met, or those from k on get nothing
      got_ends : (k : ℕ) → k ≤ tiers → (sum got k ≡ sum (λ t. short t i) k) ⊎ (sum got tiers ≡ sum got k)
      got_ends k l =
          ⊎_elim (λ e. inl (got_met k e))
          (λ g. inr (sum_tail got k tiers l (λ t b _. tier_after n short money t (omega (arith, wanted_mono n short k t b)) i member)))
          (le_or_lt (wanted_before n short k) money)

      -- money paid fills the tiers that it was paid for
      paid_tiers : (k : ℕ) → k ≤ tiers → min (paid i + pay i) (sum (tiers_of to i) k) ≡ min (paid i) (sum (tiers_of to i) k) + sum got k
      unfolding late_payment met over_tiers
      paid_tiers k l =
          ⊎_elim
          (λ e. omega (arith, e, shortage_sum i under k, shortage_sum i under tiers, got_le tiers, sum_part got k tiers l))
          (λ e. omega (arith, e, shortage_sum i under k, got_le k))
          (got_ends k l)

      late_tier : (t : ℕ) → t < tiers → fill (tiers_of to i) (paid i + pay i) t ≡ fill (tiers_of to i) (paid i) t + got t
      late_tier t l = omega (
        arith,
        sum_suc got t,
        sum_suc (fill (tiers_of to i) (paid i)) t,
        sum_suc (fill (tiers_of to i) (paid i + pay i)) t,
        paid_tiers t (omega arith),
        paid_tiers (suc t) l,
        fill_sum (tiers_of to i) (paid i + pay i) t,
        fill_sum (tiers_of to i) (paid i + pay i) (suc t),
        fill_sum (tiers_of to i) (paid i) t,
        fill_sum (tiers_of to i) (paid i) (suc t),
      )

    -- all owners: the claims are what was paid, the money at hand, and the arrears that remain
    module _ (remain : ℕ) (under : (i : ℕ) → i < n → paid i ≤ claim i) (fit : (i : ℕ) → i < n → claim i ≤ over_tiers to i)
        (even : sum claim n ≡ sum paid n + (money + remain)) where
      wanted : sum (over_tiers short) n ≡ money + remain
      unfolding over_tiers
      wanted = omega (
        arith,
        even,
        sum_add (over_tiers short) paid n,
        sum_cong (λ i. over_tiers short i + paid i) claim n (λ i h. omega (arith, shortage_sum i (under i h) tiers, fit i h, under i h)),
      )

      -- all of the money is paid
      pub late_exact : sum pay n ≡ money
      unfolding late_payment
      late_exact = met_exact n short money (omega (arith, wanted))

      pub late_le : (i : ℕ) → i < n → paid i + pay i ≤ claim i
      unfolding late_payment met over_tiers
      late_le i h = omega (arith, got_le i h (under i h) tiers, shortage_sum i (under i h) tiers, fit i h, under i h)

      -- each claim is paid in full exactly where no arrears remain
      pub late_full : remain ≡ 0 → (i : ℕ) → i < n → paid i + pay i ≡ claim i
      unfolding late_payment met over_tiers
      late_full e i h =
          omega (arith, got_met i h (under i h) tiers (omega (arith, wanted, wanted_all n short)), shortage_sum i (under i h) tiers, fit i h, under i h)

      pub late_open : ((i : ℕ) → i < n → paid i + pay i ≡ claim i) → remain ≡ 0
      late_open e = omega (arith, even, late_exact, sum_cong (λ i. paid i + pay i) claim n e, sum_add paid pay n)

      -- where money reaches tier t of some owner, no owner has a shortage in a tier before t
      pub tiers_in_order : (t i : ℕ) → t < tiers → i < n → fill (tiers_of to i) (paid i) t < fill (tiers_of to i) (paid i + pay i) t
          → (s j : ℕ) → s < t → j < n → shortage to claim (λ k. paid k + pay k) s j ≡ 0
      unfolding shortage
      tiers_in_order t i lt li more s j ls lj =
          ⊎_elim
          (λ (e : wanted_before n short t ≤ money). omega (
            arith,
            late_tier j lj (under j lj) s (omega arith),
            shortage_is j (under j lj) s,
            tier_met n short money s (le_trans (wanted_mono n short (suc s) t ls) e) j,
          ))
          (λ (g : money < wanted_before n short t). absurd (omega (arith, late_tier i li (under i li) t lt, tier_after n short money t g i li)))
          (le_or_lt (wanted_before n short t) money)
