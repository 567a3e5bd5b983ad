-- Months with money paid early (02, c), from `step`, and what demand 3 reckons of two of them from their logs.
use Rattle.std.specs.Prelude.{ℕ, ◌≡◌, List, [], ◌∷◌, ◌++◌, take}
use Rattle.book.specs.rules.Limits.{market}
use Rattle.book.specs.rules.Makings.{separate}
use Rattle.book.specs.history.Log.{Accepted, Log, Account, account, purse, money_received, money_paid, retention}
use Rattle.book.specs.history.Demand3.{money_held}
use Rattle.book.specs.examples.Months.{Line, lines_from, state_after, book, lent, notice_a, quiet, paying, answers, answers_after, hundred, in_arrears}
use Rattle.book.specs.declared.entries.Entry.{Entry}
use Rattle.book.specs.declared.entries.Entry.TheVariants.{Open, Amount, Notice, Receipt, Settle, Purse}

-- the lines of entries after others, in a book of n
abbrev pub lines_after : ℕ → List Entry → List Entry → List Line
lines_after n first l = lines_from (state_after (book n) lent first) lent l

-- the purses of a book of three after entries
abbrev pub purses_of_three : List Entry → List ℕ
purses_of_three l = take 3 (state_after (book 3) lent l).purses

-- month A, of which payer 0 has sent 300 of 600 before the period is opened: it is settled as in 01
abbrev pub part_a : List Entry
part_a = (Purse 0 300 ∷ []) ++ notice_a ++ (Receipt 7 2 334 ∷ Settle 7 ∷ Receipt 7 0 100 ∷ Receipt 7 0 200 ∷ [])

abbrev pub listing_part_a : List Line
listing_part_a =
    quiet 300 ∷ quiet 300 ∷ quiet 300 ∷ quiet 300 ∷ quiet 300 ∷ quiet 300 ∷ quiet 300 ∷ quiet 300 ∷ quiet 634
    ∷ paying 634 0 0 (0 ∷ 567 ∷ 67 ∷ 9 ∷ [])
    ∷ paying 100 0 0 (0 ∷ 78 ∷ 22 ∷ 9 ∷ [])
    ∷ paying 200 0 0 (0 ∷ 155 ∷ 45 ∷ 9 ∷ [])
    ∷ []

-- a line of two participants of whom 1 is paid so much, with the cents held
abbrev pub to_one : ℕ → ℕ → Line
to_one paid held = paying paid held 0 (0 ∷ paid ∷ 9 ∷ 9 ∷ [])

-- owing by 0 are 100 in each of periods 1 and 2, and 150 are in its purse: period 1 draws 100, and period 2 the other 50, so
-- that arrears of 50 are left. What comes into the purse later is not drawn on by late money
abbrev pub two_periods : List Entry
two_periods = (Purse 0 150 ∷ []) ++ hundred 1 ++ hundred 2

abbrev pub settles_both : List Entry
settles_both = Settle 1 ∷ Settle 2 ∷ Purse 0 70 ∷ Receipt 2 0 20 ∷ Receipt 2 0 31 ∷ Receipt 2 0 30 ∷ []

-- owing by 0 and by 2 are 100 each in period 4, owing to 1 are 200
abbrev pub both_pay : List Entry
both_pay = Open 4 ∷ Amount 4 0 0 0 100 ∷ Amount 4 2 0 0 100 ∷ Amount 4 1 1 5 200 ∷ Notice 4 ∷ []

-- an accepted entry that paid nothing
abbrev pub nothing_paid : Entry → Accepted
nothing_paid e = record { entry = e; words = 0 ∷ 0 ∷ [] }

abbrev pub logged : List Entry → Log → Log
logged [] log = log
logged (e ∷ l) log = logged l (nothing_paid e ∷ log)

-- the accepted entries of the two periods and their settlements, newest first, with the words that they left
abbrev pub two_log : Log
two_log = record { entry = Settle 2; words = 0 ∷ 50 ∷ [] } ∷ record { entry = Settle 1; words = 0 ∷ 100 ∷ [] } ∷ logged two_periods []

-- and those of `barred`: 0 has arrears in period 2, so period 3 draws nothing from its purse, and period 1 draws
abbrev pub barred_log : Log
barred_log = record { entry = Settle 1; words = 0 ∷ 100 ∷ [] } ∷ logged (in_arrears ++ (Purse 0 150 ∷ Settle 3 ∷ [])) []

-- retention in a book of n in groups of one, by an account
abbrev pub retained : ℕ → Account → ℕ → ℕ
retained n = retention n (separate n market).grouping

pub record PurseExamples : Type 0 where
  -- a purse that covers part, all, and more than what is unpaid
  pub part : lines_from (book 3) lent part_a ≡ listing_part_a
  pub all : lines_after 3 ((Purse 0 600 ∷ Purse 2 334 ∷ []) ++ notice_a) (Settle 7 ∷ []) ≡ paying 934 0 0 (0 ∷ 800 ∷ 134 ∷ 9 ∷ []) ∷ []
  pub more : lines_after 3 ((Purse 0 1_000 ∷ []) ++ notice_a ++ (Receipt 7 0 300 ∷ Receipt 7 2 334 ∷ [])) (Settle 7 ∷ []) ≡ paying 934 700 0 (0 ∷ 800 ∷ 134 ∷ 9 ∷ []) ∷ []
  pub more_left : purses_of_three ((Purse 0 1_000 ∷ []) ++ notice_a ++ (Receipt 7 0 300 ∷ Receipt 7 2 334 ∷ Settle 7 ∷ [])) ≡ 700 ∷ 0 ∷ 0 ∷ []
  -- two periods that draw on one purse
  pub two : lines_after 2 two_periods settles_both
      ≡ to_one 100 50 ∷ to_one 50 0 ∷ to_one 0 70 ∷ to_one 20 70 ∷ record { answer = 13; paid = 0; held = 70; rounds = 0; words = lent } ∷ to_one 30 70 ∷ []
  -- 0 has arrears in period 2: period 3 draws nothing from its purse, period 1 does
  pub barred : lines_after 2 in_arrears (Purse 0 150 ∷ Settle 3 ∷ Settle 1 ∷ []) ≡ to_one 0 150 ∷ to_one 0 150 ∷ to_one 100 50 ∷ []
  -- the other payer of a period is not barred, and 0 is not once its arrears are paid
  pub other_not_barred : lines_after 3 (in_arrears ++ both_pay) (Purse 0 100 ∷ Purse 2 100 ∷ Settle 4 ∷ []) ≡ quiet 100 ∷ quiet 200 ∷ paying 100 100 0 (0 ∷ 100 ∷ 0 ∷ 9 ∷ []) ∷ []
  pub paid_up : lines_after 3 (in_arrears ++ both_pay ++ (Receipt 2 0 100 ∷ [])) (Purse 0 100 ∷ Purse 2 100 ∷ Settle 4 ∷ []) ≡ quiet 100 ∷ quiet 200 ∷ paying 200 0 0 (0 ∷ 200 ∷ 0 ∷ 9 ∷ []) ∷ []
  -- no period is open
  pub none_open : lines_from (book 3) lent (Purse 2 5 ∷ Purse 2 6 ∷ []) ≡ quiet 5 ∷ quiet 11 ∷ []
  -- nothing is drawn at notice, by a settle entry that is refused, or from who has nothing payable
  pub not_at_notice : answers_after 3 ((Purse 0 600 ∷ []) ++ notice_a) (Receipt 7 0 601 ∷ Receipt 7 0 600 ∷ []) ≡ 13 ∷ 0 ∷ []
  pub not_refused : purses_of_three (Purse 0 600 ∷ Open 1 ∷ Settle 1 ∷ Settle 2 ∷ []) ≡ 600 ∷ 0 ∷ 0 ∷ []
  pub not_settled_twice : purses_of_three ((Purse 0 300 ∷ []) ++ notice_a ++ (Settle 7 ∷ Purse 0 50 ∷ Settle 7 ∷ [])) ≡ 50 ∷ 0 ∷ 0 ∷ []
  pub not_payable : purses_of_three ((Purse 1 500 ∷ []) ++ notice_a ++ (Settle 7 ∷ [])) ≡ 0 ∷ 500 ∷ 0 ∷ []
  -- the earlier check answers: 4, 5, 3, and then 12 or 15, which never hold together: who is no participant has no purse
  pub four_before_three : answers_after 65 [] (Purse 64 0 ∷ []) ≡ 4 ∷ []
  pub five_before_three : answers (lines_from (book 3) (9 ∷ 9 ∷ []) (Purse 64 1 ∷ [])) ≡ 5 ∷ []
  pub three_before_twelve : answers_after 3 [] (Purse 64 1 ∷ Purse 3 0 ∷ []) ≡ 3 ∷ 3 ∷ []
  pub three_before_fifteen : answers_after 3 (Purse 0 10_000_000_000_000 ∷ []) (Purse 0 10_000_000_000_001 ∷ []) ≡ 3 ∷ []
  pub no_participant : answers_after 3 [] (Purse 3 10_000_000_000_000 ∷ Purse 3 1 ∷ []) ≡ 12 ∷ 12 ∷ []
  -- demand 3, from the log of the two periods: what was drawn is among the receipts before each settle entry
  pub drawn_first : (account 2 (retained 2) 1 two_log).before 0 ≡ 100
  pub drawn_second : (account 2 (retained 2) 2 two_log).before 0 ≡ 50
  pub purse_then : purse 2 (retained 2) 0 two_log ≡ 0
  pub received_once : money_received two_log ≡ 150
  pub paid_out : money_paid 2 two_log ≡ 150
  pub none_held : money_held 2 (retained 2) two_log (2 ∷ []) ≡ 0
  pub barred_third : (account 2 (retained 2) 3 barred_log).before 0 ≡ 0
  pub drawn_oldest : (account 2 (retained 2) 1 barred_log).before 0 ≡ 100
  pub purse_left : purse 2 (retained 2) 0 barred_log ≡ 50
