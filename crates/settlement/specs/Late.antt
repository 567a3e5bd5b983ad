-- What late money pays (01, Late money; document 002, MP-020).
use Rattle.std.specs.Prelude.{ℕ, ◌-◌, min}
use Rattle.exact.specs.Rows.{sum}
use Rattle.settlement.specs.Tiers.{met}

-- of x cents that fill an owner's tiers in order, each up to o t: those in tier t
unfoldable pub fill : (ℕ → ℕ) → ℕ → ℕ → ℕ
fill o x t = min (o t) (x - sum o t)

-- the tiers of one owner, where `to t i` is owing to i in tier t
abbrev pub tiers_of : (ℕ → ℕ → ℕ) → ℕ → ℕ → ℕ
tiers_of to i t = to t i

-- owners with their claims and what each was paid
module _ (to : ℕ → ℕ → ℕ) (claim paid : ℕ → ℕ) where
  -- what is missing in tier t of i's claim
  unfoldable pub shortage : ℕ → ℕ → ℕ
  shortage t i = fill (tiers_of to i) (claim i) t - fill (tiers_of to i) (paid i) t

  -- what i gets when n owners' shortages are met in order; the money is what is held, the receipt added
  unfoldable pub late_payment : ℕ → ℕ → ℕ → ℕ
  late_payment n money i = met n shortage money i
