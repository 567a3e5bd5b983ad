-- When arguments are in order.
use Rattle.std.specs.Prelude.{ℕ, zero, suc, ◌-◌, ◌≤◌, min, ◌≡◌, Bool, true, false, cond, List, [], ◌∷◌, eqb, leb, length}
use Rattle.exact.specs.Rows.{places, sum}
use Rattle.settlement.specs.Month.{side_limit}
use Rattle.settlement.specs.Notice.{payable}
use Rattle.settlement.specs.Groups.{group_count, grouping_allowed}
use Rattle.exports.specs.Slices.{tier_places, row_of, owing_of, month_of, grouping_of, retention_of}

-- the cents owing to n participants by tiers
pub record TiersSound (n : ℕ) (to : List ℕ) : Type 0 where
  pub few : n ≤ places
  pub long : tier_places ≤ length to
  pub total : sum (owing_of to) n ≤ side_limit

-- with the cents owing by them
pub record Sound (n : ℕ) (by to : List ℕ) : Type 0 where
  pub to_side : TiersSound n to
  pub long : places ≤ length by
  pub total : sum (row_of by) n ≤ side_limit

-- the groups that they are in, and the groups' reserves (02, a)
pub record GroupsSound (n : ℕ) (groups reserves : List ℕ) : Type 0 where
  pub groups_long : places ≤ length groups
  pub reserves_long : group_count ≤ length reserves
  pub grouped : grouping_allowed n (grouping_of groups reserves) ≡ true

-- every test is passed
unfoldable pub all_of : List Bool → Bool
all_of [] = true
all_of (test ∷ tests) = cond test (all_of tests) false

-- each of n participants has at most as much in the first row as in the second
unfoldable pub each_at_most : (ℕ → ℕ) → (ℕ → ℕ) → ℕ → Bool
each_at_most f g zero = true
each_at_most f g (suc n) = cond (each_at_most f g n) (leb (f n) (g n)) false

-- n is 1 to 64 and the side within its bound (01, The month's sums); `room` is the length of the shortest of the other slices
unfoldable pub owing_in_order : ℕ → List ℕ → ℕ → Bool
owing_in_order n to room =
    all_of (leb places room ∷ leb 1 n ∷ leb n places ∷ leb tier_places (length to) ∷ leb (sum (owing_of to) n) side_limit ∷ [])

-- the group numbers of n participants are 0 to 63, and each group's reserve is within its bound (02, a)
unfoldable pub groups_in_order : ℕ → (groups reserves : List ℕ) → Bool
groups_in_order n groups reserves =
    all_of (leb places (length groups) ∷ leb group_count (length reserves) ∷ grouping_allowed n (grouping_of groups reserves) ∷ [])

-- the two sides' totals are equal (01, Notice), so that both are within the bound, and the groups are in order
unfoldable pub in_order : ℕ → (by to groups reserves : List ℕ) → ℕ → Bool
in_order n by to groups reserves room =
    all_of
    (owing_in_order n to room
    ∷ leb places (length by)
    ∷ eqb (sum (row_of by) n) (sum (owing_of to) n)
    ∷ groups_in_order n groups reserves
    ∷ [])

-- nothing received is above what is payable (01, Refused: 13)
unfoldable pub received_in_order : ℕ → (by to groups reserves received : List ℕ) → ℕ → Bool
received_in_order n by to groups reserves received room =
    all_of
    (in_order n by to groups reserves (min (length received) room)
    ∷ each_at_most (row_of received) (payable (month_of n by to) (retention_of n by to groups reserves)) n
    ∷ [])

-- for a settlement: with three slices to write
abbrev pub settlement_in_order : ℕ → (by to groups reserves received a b c : List ℕ) → Bool
settlement_in_order n by to groups reserves received a b c =
    received_in_order n by to groups reserves received (min (length a) (min (length b) (length c)))

-- claims are within what is owing, payments within claims, and money within the unpaid claims (01, Late money; The list of demand 3)
unfoldable pub late_money_in_order : ℕ → (to claims paid : List ℕ) → ℕ → ℕ → Bool
late_money_in_order n to claims paid money room =
    all_of
    (owing_in_order n to (min (length claims) (min (length paid) room))
    ∷ each_at_most (row_of claims) (owing_of to) n
    ∷ each_at_most (row_of paid) (row_of claims) n
    ∷ leb money (sum (λ i. row_of claims i - row_of paid i) n)
    ∷ [])
