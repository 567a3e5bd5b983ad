-- Books of other limits than the market's (02, f). The numbers are the paper's own: a limit that code and definitions share
-- wrongly is found.
use Rattle.std.specs.Prelude.{ℕ, ◌≡◌, [], ◌∷◌, ◌++◌}
use Rattle.book.specs.rules.Limits.{demonstration}
use Rattle.book.specs.rules.State.{State}
use Rattle.book.specs.rules.Makings.{made, separate}
use Rattle.book.specs.rules.SamePayouts.{limited_to}
use Rattle.book.specs.examples.Months.{lines_from, lent, listing_a, month_a, openings}
use Rattle.book.specs.examples.Limits.{answers_in}
use Rattle.book.specs.declared.limits.Limits.{Limits}
use Rattle.book.specs.declared.makings.Making.{Making}
use Rattle.book.specs.declared.entries.Entry.TheVariants.{Open, Amount, Notice, Settle}

-- the answer to a making of n participants, each in a group of its own, with a participant limit and a period limit
abbrev pub answer_to : ℕ → ℕ → ℕ → ℕ
answer_to n participants periods = (made (separate n (record { participants = participants; periods = periods }))).answer

-- a demonstration book of three participants, and one of as many that has a period limit
abbrev pub demonstrated : State
demonstrated = (made (separate 3 demonstration)).state

abbrev pub of_periods : ℕ → State
of_periods periods = (made (separate 3 (record { participants = 3; periods = periods }))).state

-- two participants, of which one has a group number outside its values
abbrev pub outside : Limits → Making
outside limits = limited_to limits 2 (record { groups = 64 ∷ []; reserves = [] })

pub record Demonstrations : Type 0 where
  -- 4: a participant limit is 1 to 64, a period limit 1 to 12, and n is 1 to the participant limit
  pub participant_limit : (answer_to 1 1 12 ≡ 0) × (answer_to 1 64 12 ≡ 0) × (answer_to 1 0 12 ≡ 4) × (answer_to 1 65 12 ≡ 4)
  pub period_limit : (answer_to 1 64 1 ≡ 0) × (answer_to 1 64 12 ≡ 0) × (answer_to 1 64 0 ≡ 4) × (answer_to 1 64 13 ≡ 4)
  pub n_in_limit : (answer_to 8 8 3 ≡ 0) × (answer_to 9 8 3 ≡ 4) × (answer_to 0 8 3 ≡ 4) × (answer_to 9 9 3 ≡ 0) × (answer_to 64 64 12 ≡ 0) × (answer_to 65 64 12 ≡ 4)
  -- a demonstration book is of at most 8 participants and 3 periods
  pub eight : ((made (separate 8 demonstration)).answer ≡ 0) × ((made (separate 9 demonstration)).answer ≡ 4)
  pub three : answers_in demonstrated (openings 2) (Open 3 ∷ []) ≡ 0 ∷ []
  pub fourth : answers_in demonstrated (openings 3) (Open 4 ∷ []) ≡ 7 ∷ []
  -- 6 before 7; the place of a period that left serves a later one
  pub six_before_seven : answers_in demonstrated (openings 3) (Open 3 ∷ []) ≡ 6 ∷ []
  pub freed_place : answers_in demonstrated (openings 3 ++ (Notice 1 ∷ Settle 1 ∷ [])) (Open 4 ∷ []) ≡ 0 ∷ []
  -- 4 before 3: a group number outside its values is not looked at
  pub four_before_three : ((made (outside (record { participants = 1; periods = 3 }))).answer ≡ 4)
      × ((made (outside (record { participants = 2; periods = 13 }))).answer ≡ 4)
      × ((made (outside (record { participants = 2; periods = 3 }))).answer ≡ 3)
  -- the values of fields do not go by the limits: participants that the book does not have are 12, and 64 is 3
  pub field_values : answers_in demonstrated (Open 1 ∷ []) (Amount 1 2 0 0 1 ∷ Amount 1 8 0 0 1 ∷ Amount 1 63 0 0 1 ∷ Amount 1 64 0 0 1 ∷ []) ≡ 0 ∷ 12 ∷ 12 ∷ 3 ∷ []
  -- a book with a period limit of 1, and of 11
  pub one_period : answers_in (of_periods 1) [] (Open 1 ∷ []) ++ answers_in (of_periods 1) (Open 1 ∷ []) (Open 2 ∷ []) ≡ 0 ∷ 7 ∷ []
  pub eleven_periods : answers_in (of_periods 11) (openings 10) (Open 11 ∷ []) ++ answers_in (of_periods 11) (openings 11) (Open 12 ∷ []) ≡ 0 ∷ 7 ∷ []
  -- month A in a demonstration book is listed as in 01
  pub month_a_lem : lines_from demonstrated lent month_a ≡ listing_a
