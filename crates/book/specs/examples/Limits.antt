-- 01's limits, its examples of them (01, Reckoned examples) among them, and those of groups and reserves (02, a), of
-- purses (02, c) and of washups (02, e), each at the limit and one outside it. The numbers are the papers' own: a limit that
-- code and definitions share wrongly is found.
use Rattle.std.specs.Prelude.{ℕ, ◌-◌, ◌≡◌, List, [], ◌∷◌, ◌++◌, length, take, replicate}
use Rattle.exact.specs.Energy.{energy_cents}
use Rattle.book.specs.layouts.Reading.{reading}
use Rattle.book.specs.layouts.Writing.{writing, written}
use Rattle.book.specs.rules.Limits.{market}
use Rattle.book.specs.rules.State.{State}
use Rattle.book.specs.rules.Makings.{made, separate}
use Rattle.book.specs.rules.Step.{step}
use Rattle.book.specs.examples.Months.{state_after, book, lent, notice_a, settled_a, hundred, openings}
use Rattle.book.specs.declared.makings.Making.{Making}
use Rattle.book.specs.declared.entries.Entry.{Entry}
use Rattle.book.specs.declared.entries.Entry.TheVariants.{Open, Energy, Amount, Notice, Receipt, Settle, Purse, Washup}

-- the answers to entries, each of them given to the same book
abbrev pub answers_of : State → List ℕ → List Entry → List ℕ
answers_of s words [] = []
answers_of s words (e ∷ l) = (step s (record { entry = e; words = words })).answer ∷ answers_of s words l

-- the same after others were applied, with four words lent; in a book of three, and with 64 words in a book of 64
abbrev pub answers_in : State → List Entry → List Entry → List ℕ
answers_in s first l = answers_of (state_after s lent first) lent l

abbrev pub of64 : List Entry → List Entry → List ℕ
of64 first l = answers_of (state_after (book 64) (replicate 64 0) first) (replicate 64 0) l

abbrev pub of3 : List Entry → List Entry → List ℕ
of3 = answers_in (book 3)

-- a making of n participants with their group numbers, and the reserves of the first groups; all others are 0
abbrev pub making : ℕ → List ℕ → List ℕ → Making
making n groups reserves = record { n = n; grouping = record { groups = groups; reserves = reserves }; limits = market }

abbrev pub opened : List Entry
opened = Open 1 ∷ []

-- the most cents are payable by the last of 64
abbrev pub most_payable : List Entry
most_payable = Open 1 ∷ Amount 1 63 0 0 10_000_000_000_000 ∷ Amount 1 0 1 5 10_000_000_000_000 ∷ Notice 1 ∷ []

-- owing by 0, and owing to 1 in two tiers
abbrev pub sides : ℕ → ℕ → List Entry
sides by to = Open 1 ∷ Amount 1 0 0 0 by ∷ Amount 1 1 1 1 1 ∷ Amount 1 1 1 5 to ∷ []

-- payer 0 pays so much of 100 in period 1, and payer 1 none of 100, so that the settled period stays in the book
abbrev pub settled_with : ℕ → List Entry
settled_with cents =
    Open 1 ∷ Amount 1 0 0 0 100 ∷ Amount 1 1 0 0 100 ∷ Amount 1 2 1 5 200 ∷ Notice 1 ∷ Receipt 1 0 cents ∷ Settle 1 ∷ hundred 2

-- the bytes of the largest period, quantity, price and cents
abbrev pub period_bytes : List ℕ
period_bytes = 255 ∷ 255 ∷ 255 ∷ 255 ∷ []

abbrev pub quantity_bytes : List ℕ
quantity_bytes = 0 ∷ 225 ∷ 245 ∷ 5 ∷ []

abbrev pub price_bytes : List ℕ
price_bytes = 128 ∷ 150 ∷ 152 ∷ 0 ∷ []

abbrev pub cents_bytes : List ℕ
cents_bytes = 0 ∷ 160 ∷ 114 ∷ 78 ∷ 24 ∷ 9 ∷ 0 ∷ 0 ∷ []

-- s has just the bytes of e: it is read and written with these, and with one fewer it is neither
pub record JustBytes (s : List ℕ) (e : Entry) : Type 0 where
  pub read : reading s 0 ≡ record { answer = 0; place = length s; entry = e ∷ [] }
  pub read_short : reading (take (length s - 1) s) 0 ≡ record { answer = 1; place = 0; entry = [] }
  pub wrote : writing e (length s) ≡ record { answer = 0; count = length s }
  pub wrote_bytes : written e (replicate (length s) 9) ≡ s
  pub no_room : writing e (length s - 1) ≡ record { answer = 5; count = 0 }
  pub no_room_bytes : written e (replicate (length s - 1) 9) ≡ replicate (length s - 1) 9

-- the values of fields (01, Entries): a value outside is answered 3
pub record FieldLimits : Type 0 where
  pub participant_energy : of64 opened (Energy 1 63 0 1 1 ∷ Energy 1 64 0 1 1 ∷ []) ≡ 0 ∷ 3 ∷ []
  pub participant_amount : of64 opened (Amount 1 63 0 0 1 ∷ Amount 1 64 0 0 1 ∷ []) ≡ 0 ∷ 3 ∷ []
  pub participant_receipt : of64 most_payable (Receipt 1 63 1 ∷ Receipt 1 64 1 ∷ []) ≡ 0 ∷ 3 ∷ []
  pub side_energy : of64 opened (Energy 1 0 0 1 1 ∷ Energy 1 0 1 1 1 ∷ Energy 1 0 2 1 1 ∷ []) ≡ 0 ∷ 0 ∷ 3 ∷ []
  pub side_amount : of64 opened (Amount 1 0 0 0 1 ∷ Amount 1 0 1 1 1 ∷ Amount 1 0 2 1 1 ∷ []) ≡ 0 ∷ 0 ∷ 3 ∷ []
  pub tier_owing_by : of64 opened (Amount 1 0 0 0 1 ∷ Amount 1 0 0 1 1 ∷ []) ≡ 0 ∷ 3 ∷ []
  pub first_tier_owing_to : of64 opened (Amount 1 0 1 1 1 ∷ Amount 1 0 1 0 1 ∷ []) ≡ 0 ∷ 3 ∷ []
  pub last_tier_owing_to : of64 opened (Amount 1 0 1 5 1 ∷ Amount 1 0 1 6 1 ∷ []) ≡ 0 ∷ 3 ∷ []
  pub quantity : of64 opened (Energy 1 0 0 100_000_000 1 ∷ Energy 1 0 0 100_000_001 1 ∷ []) ≡ 0 ∷ 3 ∷ []
  pub price : of64 opened (Energy 1 0 0 1 10_000_000 ∷ Energy 1 0 0 1 10_000_001 ∷ []) ≡ 0 ∷ 3 ∷ []
  pub quantity_and_price : of64 opened (Energy 1 0 1 100_000_000 10_000_000 ∷ Energy 1 0 1 0 0 ∷ []) ≡ 0 ∷ 0 ∷ []
  pub most_energy_cents : energy_cents 100_000_000 10_000_000 ≡ 1_150_000_000_000
  pub least_cents_amount : of64 opened (Amount 1 0 0 0 1 ∷ Amount 1 0 0 0 0 ∷ []) ≡ 0 ∷ 3 ∷ []
  pub most_cents_amount : of64 opened (Amount 1 0 1 5 10_000_000_000_000 ∷ Amount 1 0 1 5 10_000_000_000_001 ∷ []) ≡ 0 ∷ 3 ∷ []
  pub least_cents_receipt : of64 most_payable (Receipt 1 63 1 ∷ Receipt 1 63 0 ∷ []) ≡ 0 ∷ 3 ∷ []
  pub most_cents_receipt : of64 most_payable (Receipt 1 63 10_000_000_000_000 ∷ Receipt 1 63 10_000_000_000_001 ∷ []) ≡ 0 ∷ 3 ∷ []
  pub participant_purse : of64 [] (Purse 63 1 ∷ Purse 64 1 ∷ []) ≡ 0 ∷ 3 ∷ []
  pub least_cents_purse : of64 [] (Purse 63 1 ∷ Purse 63 0 ∷ []) ≡ 0 ∷ 3 ∷ []
  pub most_cents_purse : of64 [] (Purse 63 10_000_000_000_000 ∷ Purse 63 10_000_000_000_001 ∷ []) ≡ 0 ∷ 3 ∷ []
  pub participant_washup : of64 opened (Washup 1 0 63 0 1 1 1 ∷ Washup 1 0 64 0 1 1 1 ∷ []) ≡ 0 ∷ 3 ∷ []
  pub side_washup : of64 opened (Washup 1 0 0 0 1 1 1 ∷ Washup 1 0 0 1 1 1 1 ∷ Washup 1 0 0 2 1 1 1 ∷ []) ≡ 0 ∷ 0 ∷ 3 ∷ []
  pub old_quantity : of64 opened (Washup 1 0 0 0 100_000_000 0 1 ∷ Washup 1 0 0 0 100_000_001 0 1 ∷ []) ≡ 0 ∷ 3 ∷ []
  pub new_quantity : of64 opened (Washup 1 0 0 0 0 100_000_000 1 ∷ Washup 1 0 0 0 0 100_000_001 1 ∷ []) ≡ 0 ∷ 3 ∷ []
  pub price_washup : of64 opened (Washup 1 0 0 0 0 100_000_000 10_000_000 ∷ Washup 1 0 0 0 0 0 10_000_001 ∷ []) ≡ 0 ∷ 3 ∷ []

-- reading and writing (01, Entries, and Refused, numbers 1, 2, 3 and 5), with each field at its largest
pub record ByteLimits : Type 0 where
  pub opening : JustBytes (1 ∷ period_bytes) (Open 4_294_967_295)
  pub energy : JustBytes (2 ∷ period_bytes ++ 63 ∷ 1 ∷ quantity_bytes ++ price_bytes) (Energy 4_294_967_295 63 1 100_000_000 10_000_000)
  pub amount : JustBytes (3 ∷ period_bytes ++ 63 ∷ 1 ∷ 5 ∷ cents_bytes) (Amount 4_294_967_295 63 1 5 10_000_000_000_000)
  pub notice : JustBytes (4 ∷ period_bytes) (Notice 4_294_967_295)
  pub receipt : JustBytes (5 ∷ period_bytes ++ 63 ∷ cents_bytes) (Receipt 4_294_967_295 63 10_000_000_000_000)
  pub settle : JustBytes (6 ∷ period_bytes) (Settle 4_294_967_295)
  pub purse : JustBytes (7 ∷ 63 ∷ cents_bytes) (Purse 63 10_000_000_000_000)
  pub washup : JustBytes (8 ∷ period_bytes ++ period_bytes ++ 63 ∷ 1 ∷ quantity_bytes ++ quantity_bytes ++ price_bytes)
      (Washup 4_294_967_295 4_294_967_295 63 1 100_000_000 100_000_000 10_000_000)
  -- unlike numbers: period 30, earlier 18, from 10,000 to 30,000 kWh
  pub washup_order : JustBytes (8 ∷ 30 ∷ 0 ∷ 0 ∷ 0 ∷ 18 ∷ 0 ∷ 0 ∷ 0 ∷ 2 ∷ 0 ∷ 16 ∷ 39 ∷ 0 ∷ 0 ∷ 48 ∷ 117 ∷ 0 ∷ 0 ∷ 1 ∷ 0 ∷ 0 ∷ 0 ∷ []) (Washup 30 18 2 0 10_000 30_000 1)
  -- no byte, and no byte at the place
  pub no_byte : reading [] 0 ≡ record { answer = 1; place = 0; entry = [] }
  pub last_place : reading (9 ∷ 1 ∷ period_bytes) 1 ≡ record { answer = 0; place = 6; entry = Open 4_294_967_295 ∷ [] }
  pub at_end : reading (1 ∷ period_bytes) 5 ≡ record { answer = 1; place = 5; entry = [] }
  -- kinds 1 and 8 are known by their first byte alone, and kinds 0 and 9 are not
  pub first_kind : ((reading (1 ∷ []) 0).answer ≡ 1) × (reading (0 ∷ []) 0 ≡ record { answer = 2; place = 0; entry = [] })
  pub last_kind : ((reading (8 ∷ []) 0).answer ≡ 1) × (reading (9 ∷ []) 0 ≡ record { answer = 2; place = 0; entry = [] })
  -- a field outside its values is 3, after a missing body in reading and before missing room in writing
  pub read_outside : reading (4 ∷ period_bytes ++ 5 ∷ period_bytes ++ 64 ∷ cents_bytes) 5 ≡ record { answer = 3; place = 5; entry = [] }
  pub read_outside_short : reading (5 ∷ period_bytes ++ 64 ∷ take 7 cents_bytes) 0 ≡ record { answer = 1; place = 0; entry = [] }
  pub write_outside : (writing (Receipt 1 64 1) 14 ≡ record { answer = 3; count = 0 }) × (written (Receipt 1 64 1) (replicate 14 9) ≡ replicate 14 9)
  pub write_outside_short : writing (Receipt 1 64 1) 13 ≡ record { answer = 3; count = 0 }

-- sizes, sums and stages of the book (01, The month's sums to Late money, and Refused), by the refusal's number
pub record BookLimits : Type 0 where
  -- 4: n is 1 to 64
  pub least_n : ((made (separate 1 market)).answer ≡ 0) × ((made (separate 0 market)).answer ≡ 4)
  pub most_n : ((made (separate 64 market)).answer ≡ 0) × ((made (separate 65 market)).answer ≡ 4)
  -- 3: group numbers are 0 to 63; those of participants that the book does not have are not looked at
  pub most_group : ((made (making 2 (0 ∷ 63 ∷ []) [])).answer ≡ 0) × ((made (making 2 (0 ∷ 64 ∷ []) [])).answer ≡ 3)
  pub groups_past_n : made (making 2 (0 ∷ 63 ∷ 64 ∷ []) []) ≡ made (making 2 (0 ∷ 63 ∷ []) [])
  -- 3: each of the 64 reserves is at most 10,000,000,000,000
  pub first_reserve : ((made (making 2 [] (10_000_000_000_000 ∷ []))).answer ≡ 0) × ((made (making 2 [] (10_000_000_000_001 ∷ []))).answer ≡ 3)
  pub last_reserve_lem : ((made (making 2 [] (replicate 63 0 ++ 10_000_000_000_000 ∷ []))).answer ≡ 0) × ((made (making 2 [] (replicate 63 0 ++ 10_000_000_000_001 ∷ []))).answer ≡ 3)
  -- 4 before 3; the book of a refusal is the same one
  pub four_before_three : ((made (making 0 [] (10_000_000_000_001 ∷ []))).answer ≡ 4) × ((made (making 65 (64 ∷ []) [])).answer ≡ 4)
  pub refused_book : (made (making 2 (0 ∷ 64 ∷ []) (1 ∷ []))).state ≡ (made (making 0 [] [])).state
  pub answers_four : answers_of (made (making 2 (0 ∷ 64 ∷ []) [])).state lent (Open 1 ∷ Receipt 1 64 0 ∷ []) ≡ 4 ∷ 4 ∷ []
  -- 5: at least n payout words
  pub words_1 : (answers_of (book 1) (9 ∷ []) opened ≡ 0 ∷ []) × (answers_of (book 1) [] opened ≡ 5 ∷ [])
  pub words_64 : (answers_of (book 64) (replicate 64 9) opened ≡ 0 ∷ []) × (answers_of (book 64) (replicate 63 9) opened ≡ 5 ∷ [])
  -- 6: above the highest, which is 0 at first; the largest number opens, and none after it
  pub first_period : of3 [] (Open 1 ∷ Open 0 ∷ Open 4_294_967_295 ∷ []) ≡ 0 ∷ 6 ∷ 0 ∷ []
  pub next_period : of3 (Open 8 ∷ []) (Open 9 ∷ Open 8 ∷ []) ≡ 0 ∷ 6 ∷ []
  pub last_period : of3 (Open 4_294_967_295 ∷ []) (Open 4_294_967_295 ∷ []) ≡ 6 ∷ []
  -- 7: twelve periods; the place of one that left serves a later one
  pub twelve_periods : (of3 (openings 11) (Open 12 ∷ []) ≡ 0 ∷ []) × (of3 (openings 12) (Open 13 ∷ []) ≡ 7 ∷ [])
  pub freed_place : of3 (openings 12 ++ (Notice 1 ∷ Settle 1 ∷ [])) (Open 13 ∷ []) ≡ 0 ∷ []
  -- 8: a period that was not opened, or has left
  pub not_opened : of3 opened (Energy 2 0 0 1 1 ∷ Amount 2 0 0 0 1 ∷ Notice 2 ∷ Receipt 2 0 1 ∷ Settle 2 ∷ Notice 0 ∷ Washup 2 1 0 0 1 1 1 ∷ []) ≡ 8 ∷ 8 ∷ 8 ∷ 8 ∷ 8 ∷ 8 ∷ 8 ∷ []
  pub has_left : of3 (Open 1 ∷ Notice 1 ∷ Settle 1 ∷ []) (Open 1 ∷ Notice 1 ∷ Open 2 ∷ []) ≡ 6 ∷ 8 ∷ 0 ∷ []
  -- 9: each kind at each stage
  pub before_notice : of3 opened (Energy 1 0 0 1 1 ∷ Amount 1 0 0 0 1 ∷ Notice 1 ∷ Receipt 1 0 1 ∷ Settle 1 ∷ Purse 0 1 ∷ Washup 1 0 0 0 1 1 1 ∷ []) ≡ 0 ∷ 0 ∷ 0 ∷ 9 ∷ 9 ∷ 0 ∷ 0 ∷ []
  pub after_notice : of3 notice_a (Energy 7 0 0 1 1 ∷ Amount 7 0 0 0 1 ∷ Notice 7 ∷ Receipt 7 0 1 ∷ Settle 7 ∷ Purse 0 1 ∷ Washup 7 1 0 0 1 1 1 ∷ []) ≡ 9 ∷ 9 ∷ 9 ∷ 0 ∷ 0 ∷ 0 ∷ 9 ∷ []
  pub once_settled : of3 settled_a (Energy 7 0 0 1 1 ∷ Amount 7 0 0 0 1 ∷ Notice 7 ∷ Receipt 7 0 1 ∷ Settle 7 ∷ Purse 0 1 ∷ Washup 7 1 0 0 1 1 1 ∷ []) ≡ 9 ∷ 9 ∷ 9 ∷ 0 ∷ 9 ∷ 0 ∷ 9 ∷ []
  -- 10: a cent between the sides
  pub equal_sides : of3 (sides 100 99) (Notice 1 ∷ []) ≡ 0 ∷ []
  pub less_owing_to : of3 (sides 100 98) (Notice 1 ∷ []) ≡ 10 ∷ []
  pub more_owing_to : of3 (sides 100 100) (Notice 1 ∷ []) ≡ 10 ∷ []
  -- 11: each side's total by itself, over all participants and tiers; quantity 100 at price 100 comes to 12 cents, and
  -- at price 300 to 34 (34.5; 02, b)
  pub total_owing_by : of3 (sides 9_999_999_999_999 1) (Amount 1 2 0 0 1 ∷ Amount 1 2 0 0 2 ∷ []) ≡ 0 ∷ 11 ∷ []
  pub energy_owing_by : (of3 (sides 9_999_999_999_988 1) (Energy 1 2 0 100 100 ∷ []) ≡ 0 ∷ []) × (of3 (sides 9_999_999_999_989 1) (Energy 1 2 0 100 100 ∷ []) ≡ 11 ∷ [])
  pub half_owing_by : (of3 (sides 9_999_999_999_966 1) (Energy 1 2 0 100 300 ∷ []) ≡ 0 ∷ []) × (of3 (sides 9_999_999_999_967 1) (Energy 1 2 0 100 300 ∷ []) ≡ 11 ∷ [])
  pub total_owing_to : of3 (sides 1 9_999_999_999_998) (Amount 1 2 1 3 1 ∷ Amount 1 2 1 3 2 ∷ []) ≡ 0 ∷ 11 ∷ []
  pub energy_owing_to : (of3 (sides 1 9_999_999_999_987) (Energy 1 2 1 100 100 ∷ []) ≡ 0 ∷ []) × (of3 (sides 1 9_999_999_999_988) (Energy 1 2 1 100 100 ∷ []) ≡ 11 ∷ [])
  pub half_owing_to : (of3 (sides 1 9_999_999_999_965) (Energy 1 2 1 100 300 ∷ []) ≡ 0 ∷ []) × (of3 (sides 1 9_999_999_999_966) (Energy 1 2 1 100 300 ∷ []) ≡ 11 ∷ [])
  -- a washup of 22 cents, on the side to which it is added, whichever is stated; one of no cents has room on a full side
  pub washup_owing_by : (of3 (sides 9_999_999_999_978 1) (Washup 1 0 2 0 100 300 100 ∷ Washup 1 0 2 1 300 100 100 ∷ []) ≡ 0 ∷ 0 ∷ [])
      × (of3 (sides 9_999_999_999_979 1) (Washup 1 0 2 0 100 300 100 ∷ Washup 1 0 2 1 300 100 100 ∷ Washup 1 0 2 1 100 300 100 ∷ []) ≡ 11 ∷ 11 ∷ 0 ∷ [])
  pub washup_owing_to : (of3 (sides 1 9_999_999_999_977) (Washup 1 0 2 1 100 300 100 ∷ Washup 1 0 2 0 300 100 100 ∷ []) ≡ 0 ∷ 0 ∷ [])
      × (of3 (sides 1 9_999_999_999_978) (Washup 1 0 2 1 100 300 100 ∷ Washup 1 0 2 0 300 100 100 ∷ Washup 1 0 2 0 100 300 100 ∷ []) ≡ 11 ∷ 11 ∷ 0 ∷ [])
  pub washup_none : of3 (sides 10_000_000_000_000 9_999_999_999_999) (Washup 1 0 2 0 300 300 100 ∷ Washup 1 0 2 1 300 300 100 ∷ Washup 1 0 2 0 300 299 100 ∷ []) ≡ 0 ∷ 0 ∷ 0 ∷ []
  pub both_full : of3 (sides 10_000_000_000_000 9_999_999_999_999) (Amount 1 2 0 0 1 ∷ Amount 1 2 1 3 1 ∷ Notice 1 ∷ []) ≡ 11 ∷ 11 ∷ 0 ∷ []
  -- 12: participants are 0 to n − 1
  pub participant_energy : of3 opened (Energy 1 2 0 1 1 ∷ Energy 1 3 0 1 1 ∷ []) ≡ 0 ∷ 12 ∷ []
  pub participant_amount : of3 opened (Amount 1 2 0 0 1 ∷ Amount 1 3 0 0 1 ∷ []) ≡ 0 ∷ 12 ∷ []
  pub participant_receipt : of3 notice_a (Receipt 7 2 1 ∷ Receipt 7 3 1 ∷ []) ≡ 0 ∷ 12 ∷ []
  pub participant_purse : of3 [] (Purse 2 1 ∷ Purse 3 1 ∷ []) ≡ 0 ∷ 12 ∷ []
  pub participant_washup : of3 opened (Washup 1 0 2 0 1 1 1 ∷ Washup 1 0 3 0 1 1 1 ∷ []) ≡ 0 ∷ 12 ∷ []
  -- 13: what is payable and not yet received, and arrears once settled
  pub payable : of3 notice_a (Receipt 7 0 600 ∷ Receipt 7 0 601 ∷ []) ≡ 0 ∷ 13 ∷ []
  pub payable_left : of3 (notice_a ++ (Receipt 7 0 300 ∷ [])) (Receipt 7 0 300 ∷ Receipt 7 0 301 ∷ []) ≡ 0 ∷ 13 ∷ []
  pub arrears : of3 settled_a (Receipt 7 0 300 ∷ Receipt 7 0 301 ∷ []) ≡ 0 ∷ 13 ∷ []
  pub arrears_left : of3 (settled_a ++ (Receipt 7 0 100 ∷ [])) (Receipt 7 0 200 ∷ Receipt 7 0 201 ∷ []) ≡ 0 ∷ 13 ∷ []
  pub nothing_payable : of3 notice_a (Receipt 7 1 1 ∷ []) ≡ 13 ∷ []
  -- 14: a cent of earlier arrears
  pub earlier_arrears_lem : (of3 (settled_with 100) (Receipt 2 0 1 ∷ []) ≡ 0 ∷ []) × (of3 (settled_with 99) (Receipt 2 0 1 ∷ []) ≡ 14 ∷ [])
  -- 15: each purse by itself, as it stands; what was drawn makes room again
  pub full_purse : of3 (Purse 0 9_999_999_999_999 ∷ []) (Purse 0 1 ∷ Purse 0 2 ∷ Purse 1 10_000_000_000_000 ∷ []) ≡ 0 ∷ 15 ∷ 0 ∷ []
  pub past_purse : of3 (Purse 0 10_000_000_000_000 ∷ []) (Purse 0 1 ∷ []) ≡ 15 ∷ []
  pub drawn_purse : of3 ((Purse 0 10_000_000_000_000 ∷ []) ++ hundred 1 ++ (Settle 1 ∷ [])) (Purse 0 100 ∷ Purse 0 101 ∷ []) ≡ 0 ∷ 15 ∷ []
  -- 16: an earlier period 1 to 24 below, whether it is in the book, has left or was never opened; number 0 where that is so
  pub earlier_there : (of3 (Open 29 ∷ Open 30 ∷ []) (Washup 30 29 0 0 1 1 1 ∷ []) ≡ 0 ∷ [])
      × (of3 (Open 29 ∷ Notice 29 ∷ Settle 29 ∷ Open 30 ∷ []) (Washup 30 29 0 0 1 1 1 ∷ []) ≡ 0 ∷ [])
  pub most_below_lem : of3 (Open 30 ∷ []) (Washup 30 6 0 0 1 1 1 ∷ Washup 30 5 0 0 1 1 1 ∷ Washup 30 0 0 0 1 1 1 ∷ []) ≡ 0 ∷ 16 ∷ 16 ∷ []
  pub least_below : of3 (Open 30 ∷ []) (Washup 30 29 0 0 1 1 1 ∷ Washup 30 30 0 0 1 1 1 ∷ Washup 30 31 0 0 1 1 1 ∷ []) ≡ 0 ∷ 16 ∷ 16 ∷ []
  pub number_zero : (of3 (Open 5 ∷ []) (Washup 5 0 0 0 1 1 1 ∷ []) ≡ 0 ∷ [])
      × (of3 (Open 24 ∷ []) (Washup 24 0 0 0 1 1 1 ∷ []) ≡ 0 ∷ [])
      × (of3 (Open 25 ∷ []) (Washup 25 0 0 0 1 1 1 ∷ []) ≡ 16 ∷ [])
  pub largest_numbers : of3 (Open 4_294_967_295 ∷ []) (Washup 4_294_967_295 4_294_967_294 0 0 1 1 1 ∷ Washup 4_294_967_295 4_294_967_295 0 0 1 1 1 ∷ []) ≡ 0 ∷ 16 ∷ []
  pub no_wrap : of3 (Open 1 ∷ []) (Washup 1 4_294_967_295 0 0 1 1 1 ∷ []) ≡ 16 ∷ []

pub record LimitExamples : Type 0 where
  pub fields : FieldLimits
  pub bytes : ByteLimits
  pub sizes : BookLimits
