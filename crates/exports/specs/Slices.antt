-- Slices that a caller lends: the month that stands in them, and what is left in them.
use Rattle.std.specs.Prelude.{ℕ, ◌*◌, Bool, cond, List, take}
use Rattle.exact.specs.Rows.{places, at, filled}
use Rattle.settlement.specs.Month.{Month, month, tiers, over_tiers, tier_at}
use Rattle.settlement.specs.Groups.{group_count, group_retention}
use Rattle.settlement.specs.declared.groups.Grouping.{Grouping}

-- as many cells as the tiers of all participants take
abbrev pub tier_places : ℕ
tier_places = tiers * places

-- a slice's first cells, as many as this
unfoldable pub front : ℕ → List ℕ → List ℕ
front count s = take count s

-- the row in a slice
abbrev pub row_of : List ℕ → ℕ → ℕ
row_of s = at (front places s)

-- the cents owing to each participant over all tiers, in a slice
abbrev pub owing_of : List ℕ → ℕ → ℕ
owing_of to = over_tiers (tier_at (front tier_places to))

-- the month in two slices
abbrev pub month_of : ℕ → List ℕ → List ℕ → Month
month_of n by to = month n (front places by) (front tier_places to)

-- the groups of participants and the reserves of groups in two slices (02, a)
abbrev pub grouping_of : List ℕ → List ℕ → Grouping
grouping_of groups reserves = record { groups = front places groups; reserves = front group_count reserves }

-- the retention of the month and the groups in four slices (02, a)
abbrev pub retention_of : ℕ → (by to groups reserves : List ℕ) → ℕ → ℕ
retention_of n by to groups reserves = group_retention (month_of n by to) (grouping_of groups reserves)

-- a slice with an array in its first cells
unfoldable pub written : List ℕ → List ℕ → List ℕ
written row s = filled (at row) places s

-- what is left in a slice that is lent for a row: the row where the arguments were in order, else what was there
unfoldable pub left : Bool → List ℕ → List ℕ → List ℕ
left ok row s = cond ok (written row s) s
