-- The limits of a book (02, f).
use Rattle.std.specs.Prelude.{ℕ, ◌≤◌, Bool, false, cond, eqb, leb}
use Rattle.exact.specs.Rows.{places}
use Rattle.book.specs.declared.limits.Limits.{Limits}

-- the places that a book has for periods
abbrev pub period_places : ℕ
period_places = 12

-- the market's limits, the highest that a book can have: as many participants and periods as there are places (01, The
-- month's sums)
abbrev pub market : Limits
market = record { participants = places; periods = period_places }

-- those of a demonstration book
abbrev pub demonstration : Limits
demonstration = record { participants = 8; periods = 3 }

-- a number is 1 to the most
abbrev pub within : ℕ → ℕ → Bool
within most x = cond (eqb x 0) false (leb x most)

-- neither limit of a is above that of b
pub record UpTo (b a : Limits) : Type 0 where
  pub participants : a.participants ≤ b.participants
  pub periods : a.periods ≤ b.periods
