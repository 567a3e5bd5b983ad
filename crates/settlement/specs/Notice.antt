-- 01's retention, with every participant its own related group, and payable amounts and full claims by any retention (01,
-- Notice; document 000, section 2, (1) and (1a)). `Groups` has the retention that a notice reckons with.
use Rattle.std.specs.Prelude.{ℕ, ◌+◌, ◌-◌, ◌*◌, ◌≤◌, ◌≡◌, cond, List, eqb, leb}
use Rattle.exact.specs.Rows.{sum, largest, cells}
use Rattle.exact.specs.Division.{ceil_div}
use Rattle.settlement.specs.Month.{Month, owing_to, tier5}

-- what a participant or a group gives i: s is its shortfall, g the tier 5 total of all others, G the tier 5 part of i
unfoldable pub gives : ℕ → ℕ → ℕ → ℕ
gives s g G = cond (eqb g 0) 0 (cond (eqb s 0) 0 (cond (leb g s) G (ceil_div (G * s) g)))

module _ (m : Month) where
  -- s = max(0, B_p − O_p)
  unfoldable pub shortfall : ℕ → ℕ
  shortfall p = m.by p - owing_to m p

  -- g, the sum of G over the others
  unfoldable pub others_tier5 : ℕ → ℕ
  others_tier5 p = sum (λ i. cond (eqb i p) 0 (tier5 m i)) m.n

  -- A_i, the largest that any p gives i, i itself included
  unfoldable pub retention : ℕ → ℕ
  retention i = largest (λ p. gives (shortfall p) (others_tier5 p) (tier5 m i)) m.n

-- a row of retention, however it was reckoned: at most the tier 5 part
pub record Retained (m : Month) (retained : ℕ → ℕ) : Type 0 where
  pub within : (i : ℕ) → retained i ≤ tier5 m i

-- `retained i` is A_i
module _ (m : Month) (retained : ℕ → ℕ) where
  -- P_i = max(0, B_i − O_i + A_i) (14.22(1))
  unfoldable pub payable : ℕ → ℕ
  payable i = (m.by i + retained i) - owing_to m i

  -- F_i = O_i − B_i + P_i (14.22(2))
  unfoldable pub full_claim : ℕ → ℕ
  full_claim i = (owing_to m i + payable i) - m.by i

-- a payable row that comes from some sound row of retention, as the one that a notice hands on does
pub record Due (m : Month) (payables : List ℕ) : Type 0 where
  pub retained : ℕ → ℕ
  pub sound : Retained m retained
  pub row : payables ≡ cells (payable m retained) m.n
