-- Shares to the last cent, by example (02, g).
use Rattle.std.specs.Prelude.{ℕ, ◌+◌, ◌≡◌, List, [], ◌∷◌, length}
use Rattle.exact.specs.Rows.{at, sum, table}
use Rattle.settlement.specs.Sharing.{floor_share, remainder, share_by_weight}
use Rattle.settlement.specs.Notice.{retention}
use Rattle.settlement.specs.Claims.{claim}
use Rattle.settlement.specs.Settling.{revised, paid, held}
use Rattle.settlement.specs.Late.{late_payment}
use Rattle.settlement.specs.Examples.{month_a, received_a, late_a}

module _ (weights : List ℕ) (amount : ℕ) where
  abbrev total : ℕ
  total = sum (at weights) (length weights)

  -- each share rounded down, the remainders, and the shares
  abbrev pub floors : List ℕ
  floors = table (floor_share (at weights) amount total) (length weights)

  abbrev pub remainders : List ℕ
  remainders = table (remainder (at weights) amount total) (length weights)

  abbrev pub shares : List ℕ
  shares = table (share_by_weight (at weights) amount total (length weights)) (length weights)

-- what was paid of month A after the late 100, and what the late 200 that ends its arrears pay
abbrev pub paid_then : ℕ → ℕ
paid_then i = paid month_a (retention month_a) received_a i + late_a i

abbrev pub last_a : ℕ → ℕ
last_a = late_payment month_a.to (claim month_a (retention month_a) received_a) paid_then 3 (held 3 (at (400 ∷ 0 ∷ 334 ∷ [])) paid_then + 200)

pub record SharingExamples : Type 0 where
  -- tier 5 of month A, when 600 are left for it: the cent goes to the larger remainder
  pub tier_5_a : (floors (0 ∷ 700 ∷ 200 ∷ []) 600 ≡ 0 ∷ 466 ∷ 133 ∷ []) × (remainders (0 ∷ 700 ∷ 200 ∷ []) 600 ≡ 0 ∷ 600 ∷ 300 ∷ []) × (shares (0 ∷ 700 ∷ 200 ∷ []) 600 ≡ 0 ∷ 467 ∷ 133 ∷ [])
  pub revised_a : table (revised month_a (retention month_a) received_a) 3 ≡ 0 ∷ 567 ∷ 133 ∷ []
  -- the late 200 of its listing, after which nothing is in arrears
  pub last_a_lem : (table last_a 3 ≡ 0 ∷ 155 ∷ 45 ∷ []) × (held 3 (at (600 ∷ 0 ∷ 334 ∷ [])) (λ i. paid_then i + last_a i) ≡ 0)
  -- two cents for three equal remainders: the lower numbers have them
  pub equal : shares (1 ∷ 1 ∷ 1 ∷ []) 2 ≡ 1 ∷ 1 ∷ 0 ∷ []
  -- equal remainders of unlike weights: the lower number has the cent
  pub unlike : (remainders (1 ∷ 3 ∷ []) 2 ≡ 2 ∷ 2 ∷ []) × (shares (1 ∷ 3 ∷ []) 2 ≡ 1 ∷ 1 ∷ [])
  -- one cent for the largest remainder, and one for the first of three equal ones, whatever their places
  pub cut : (remainders (5 ∷ 3 ∷ 3 ∷ 3 ∷ []) 11 ≡ 13 ∷ 5 ∷ 5 ∷ 5 ∷ []) × (shares (5 ∷ 3 ∷ 3 ∷ 3 ∷ []) 11 ≡ 4 ∷ 3 ∷ 2 ∷ 2 ∷ [])
  pub moved : shares (3 ∷ 3 ∷ 5 ∷ 3 ∷ []) 11 ≡ 3 ∷ 2 ∷ 4 ∷ 2 ∷ []
  -- a division without a remainder has no cent, though its weight is the largest; the largest remainder is that of the smallest
  pub without : (remainders (7 ∷ 2 ∷ 5 ∷ []) 6 ≡ 0 ∷ 12 ∷ 2 ∷ []) × (shares (7 ∷ 2 ∷ 5 ∷ []) 6 ≡ 3 ∷ 1 ∷ 2 ∷ [])
  -- one participant alone has all
  pub alone : shares (7 ∷ []) 5 ≡ 5 ∷ []
  -- a cent less than the weights come to, all of it, and nothing
  pub but_one : shares (1 ∷ 1 ∷ 1 ∷ 1 ∷ []) 3 ≡ 1 ∷ 1 ∷ 1 ∷ 0 ∷ []
  pub all : shares (7 ∷ 2 ∷ 5 ∷ []) 14 ≡ 7 ∷ 2 ∷ 5 ∷ []
  pub nothing : shares (7 ∷ 2 ∷ 5 ∷ []) 0 ≡ 0 ∷ 0 ∷ 0 ∷ []
