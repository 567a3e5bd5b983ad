-- The listing of month A (01, its end; 02, g), month B and the other examples without a star (01, Reckoned examples), a month of related payers
-- (02, a), one of energy with half cents (02, b), one in which the rounds hold a cent until late money comes (02, g), one whose
-- energy is not all met, and the order of checks, from `step`; those at a limit stand in `Limits`.
use Rattle.std.specs.Prelude.{ℕ, ◌+◌, ◌≡◌, cond, List, [], ◌∷◌, ◌++◌, eqb, replicate}
use Rattle.exact.specs.Rows.{at, sum, table}
use Rattle.book.specs.rules.State.{State, held_by}
use Rattle.book.specs.rules.Limits.{market}
use Rattle.book.specs.rules.Makings.{made, separate}
use Rattle.book.specs.rules.Step.{Outcome, step}
use Rattle.book.specs.declared.makings.Making.{Making}
use Rattle.book.specs.declared.entries.Entry.{Entry}
use Rattle.book.specs.declared.entries.Entry.TheVariants.{Open, Energy, Amount, Notice, Receipt, Settle}

-- an entry's line: its answer, the cents it pays, the cents held after it; with the rounds and the words it leaves
pub record Line : Type 0 where
  pub answer : ℕ
  pub paid : ℕ
  pub held : ℕ
  pub rounds : ℕ
  pub words : List ℕ

abbrev pub line : ℕ → Outcome → Line
line n o = record {
  answer = o.answer;
  paid = cond (eqb o.answer 0) (sum (at o.words) n) 0;
  held = held_by o.state;
  rounds = o.rounds;
  words = o.words;
}

-- the lines of a list of entries, each handed the same words
unfoldable pub lines_from : State → List ℕ → List Entry → List Line
lines_from s words [] = []
lines_from s words (e ∷ l) =
    line s.n (step s (record { entry = e; words = words })) ∷ lines_from (step s (record { entry = e; words = words })).state words l

unfoldable pub state_after : State → List ℕ → List Entry → State
state_after s words [] = s
state_after s words (e ∷ l) = state_after (step s (record { entry = e; words = words })).state words l

abbrev pub book : ℕ → State
book n = (made (separate n market)).state

abbrev pub answers : List Line → List ℕ
answers [] = []
answers (x ∷ l) = x.answer ∷ answers l

-- four words, for a book of three or four
abbrev pub lent : List ℕ
lent = 9 ∷ 9 ∷ 9 ∷ 9 ∷ []

abbrev pub notice_a : List Entry
notice_a =
    Open 7 ∷ Amount 7 0 0 0 600 ∷ Amount 7 2 0 0 400 ∷ Amount 7 1 1 1 100 ∷ Amount 7 1 1 5 700 ∷ Amount 7 2 1 5 200 ∷ Notice 7 ∷ []

abbrev pub settled_a : List Entry
settled_a = notice_a ++ (Receipt 7 0 300 ∷ Receipt 7 2 334 ∷ Settle 7 ∷ [])

abbrev pub month_a : List Entry
month_a = settled_a ++ (Receipt 7 0 100 ∷ Receipt 7 0 200 ∷ [])

-- a line of an accepted entry that pays nothing, and of one that pays
abbrev pub quiet : ℕ → Line
quiet held = record { answer = 0; paid = 0; held = held; rounds = 0; words = 0 ∷ 0 ∷ 0 ∷ 9 ∷ [] }

abbrev pub paying : ℕ → ℕ → ℕ → List ℕ → Line
paying paid held rounds words = record { answer = 0; paid = paid; held = held; rounds = rounds; words = words }

abbrev pub listing_a : List Line
listing_a =
    quiet 0 ∷ quiet 0 ∷ quiet 0 ∷ quiet 0 ∷ quiet 0 ∷ quiet 0 ∷ quiet 0 ∷ quiet 300 ∷ quiet 634
    ∷ paying 634 0 0 (0 ∷ 567 ∷ 67 ∷ 9 ∷ [])
    ∷ paying 100 0 0 (0 ∷ 78 ∷ 22 ∷ 9 ∷ [])
    ∷ paying 200 0 0 (0 ∷ 155 ∷ 45 ∷ 9 ∷ [])
    ∷ []

-- month B, in which only 0 pays
abbrev pub month_b : List Entry
month_b =
    Open 1 ∷ Amount 1 0 0 0 300 ∷ Amount 1 2 0 0 500 ∷ Amount 1 1 1 5 600 ∷ Amount 1 2 1 5 200 ∷ Notice 1 ∷ Receipt 1 0 300 ∷ Settle 1 ∷ []

abbrev pub listing_b : List Line
listing_b =
    quiet 0 ∷ quiet 0 ∷ quiet 0 ∷ quiet 0 ∷ quiet 0 ∷ quiet 0 ∷ quiet 300
    ∷ paying 300 0 1 (0 ∷ 300 ∷ 0 ∷ 9 ∷ [])
    ∷ []

-- 0 and 2 are related, in group 63, which has this reserve
abbrev pub related : ℕ → Making
related reserve = record { n = 4; grouping = record { groups = 63 ∷ 1 ∷ 63 ∷ 3 ∷ replicate 60 0; reserves = replicate 63 0 ++ reserve ∷ [] }; limits = market }

-- owing by 0: 600, by 2: 100, by 3: 300; owing to 1: tier 1 100, tier 5 700, to 2: tier 5 200. Payable are 600, 0, 43 and 300,
-- with a reserve of 100 they are 600, 0, 72 and 300, and with groups of one 600, 0, 34 and 300
abbrev pub notice_c : List Entry
notice_c =
    Open 1 ∷ Amount 1 0 0 0 600 ∷ Amount 1 2 0 0 100 ∷ Amount 1 3 0 0 300 ∷ Amount 1 1 1 1 100 ∷ Amount 1 1 1 5 700 ∷ Amount 1 2 1 5 200 ∷ Notice 1 ∷ []

-- the lines of entries after others, in the book of related payers with a reserve
abbrev pub lines_c : ℕ → List Entry → List Entry → List Line
lines_c reserve first l = lines_from (state_after (made (related reserve)).state lent first) lent l

-- energy owing by 0: 34 (34.5), by 2: 12 (11.5), owing to 1: 46. With a half rounded up the sides are 47 and 46
abbrev pub month_d : List Entry
month_d =
    Open 1 ∷ Energy 1 0 0 100 300 ∷ Energy 1 2 0 100 100 ∷ Energy 1 1 1 100 400 ∷ Notice 1 ∷ Receipt 1 0 34 ∷ Receipt 1 2 12 ∷ Settle 1 ∷ []

abbrev pub listing_d : List Line
listing_d =
    quiet 0 ∷ quiet 0 ∷ quiet 0 ∷ quiet 0 ∷ quiet 0 ∷ quiet 34 ∷ quiet 46
    ∷ paying 46 0 0 (0 ∷ 46 ∷ 0 ∷ 9 ∷ [])
    ∷ []

-- owing by 0: 300, by 3: 500; owing to 1: 300, to 2: 300, to 3: 200, tier 5. Payable are 300 by 0 and 400 by 3
abbrev pub notice_e : List Entry
notice_e =
    Open 1 ∷ Amount 1 0 0 0 300 ∷ Amount 1 3 0 0 500 ∷ Amount 1 1 1 5 300 ∷ Amount 1 2 1 5 300 ∷ Amount 1 3 1 5 200 ∷ Notice 1 ∷ []

-- only 0 pays before settlement: of 500 available, 187.5 and 187.5 and 125, the leftover cent goes to 1; the deficit of 75 takes
-- 37.6 and 37.4, each rounded up, so that a cent is held. With the late 100 of 3 it is paid out, and with the late 200 the period leaves
abbrev pub pays_e : List Entry
pays_e = Receipt 1 0 300 ∷ Settle 1 ∷ Receipt 1 3 100 ∷ Receipt 1 3 200 ∷ []

abbrev pub listing_e : List Line
listing_e =
    paying 0 300 0 (0 ∷ 0 ∷ 0 ∷ 0 ∷ [])
    ∷ paying 299 1 1 (0 ∷ 150 ∷ 149 ∷ 0 ∷ [])
    ∷ paying 101 0 0 (0 ∷ 50 ∷ 51 ∷ 0 ∷ [])
    ∷ paying 200 0 0 (0 ∷ 100 ∷ 100 ∷ 0 ∷ [])
    ∷ []

-- owing by 0: 100, owing to 1: 100, in each of periods 1 to 3, and 0 has arrears in period 2
abbrev pub hundred : ℕ → List Entry
hundred k = Open k ∷ Amount k 0 0 0 100 ∷ Amount k 1 1 5 100 ∷ Notice k ∷ []

abbrev pub in_arrears : List Entry
in_arrears = hundred 1 ++ hundred 2 ++ hundred 3 ++ (Settle 2 ∷ [])

-- a receipt on period 3 is barred until that on period 2, one on period 1 is not
abbrev pub pays_later : List Entry
pays_later = Receipt 3 0 10 ∷ Receipt 1 0 10 ∷ Receipt 2 0 100 ∷ Receipt 3 0 10 ∷ []

-- owing by 2 are 50 in period 4, owing to 1: 50
abbrev pub paid_by_two : List Entry
paid_by_two = Open 4 ∷ Amount 4 2 0 0 50 ∷ Amount 4 1 1 5 50 ∷ Notice 4 ∷ []

-- 0 has arrears in periods 2 and 3: a late receipt on period 3 is barred until the last cent of those in period 2 is paid
abbrev pub pays_late : List Entry
pays_late = Receipt 3 0 10 ∷ Receipt 2 0 99 ∷ Receipt 3 0 10 ∷ Receipt 2 0 1 ∷ Receipt 3 0 10 ∷ []

-- energy of 46 owing to 1, which is tier 5, and 54 owing to 2 in tier 4. 0 pays 60 of 100: tier 4 is met, and 6 are left for tier 5
abbrev pub energy_last : List Entry
energy_last = Open 1 ∷ Amount 1 0 0 0 100 ∷ Energy 1 1 1 100 400 ∷ Amount 1 2 1 4 54 ∷ Notice 1 ∷ Receipt 1 0 60 ∷ []

-- n periods are opened, the first of them 1
abbrev pub openings : ℕ → List Entry
openings n = table (λ k. Open (k + 1)) n

-- the answers to entries after others were applied
abbrev pub answers_after : ℕ → List Entry → List Entry → List ℕ
answers_after n first l = answers (lines_from (state_after (book n) lent first) lent l)

pub record Examples : Type 0 where
  pub month_a_lem : lines_from (book 3) lent month_a ≡ listing_a
  pub gone_a : (state_after (book 3) lent month_a).periods ≡ []
  pub month_b_lem : lines_from (book 3) lent month_b ≡ listing_b
  -- what is payable by 2 stands and a cent more is 13, without and with a reserve
  pub payable_c : answers (lines_c 0 notice_c (Receipt 1 2 44 ∷ Receipt 1 2 43 ∷ [])) ≡ 13 ∷ 0 ∷ []
  pub payable_reserve : answers (lines_c 100 notice_c (Receipt 1 2 73 ∷ Receipt 1 2 72 ∷ [])) ≡ 13 ∷ 0 ∷ []
  -- only 0 does not pay: 2 is paid 10 of its claim of 143, and with groups of one 1 of its claim of 134
  pub month_c_lem : lines_c 0 (notice_c ++ (Receipt 1 2 43 ∷ Receipt 1 3 300 ∷ [])) (Settle 1 ∷ []) ≡ paying 343 0 0 (0 ∷ 333 ∷ 10 ∷ 0 ∷ []) ∷ []
  pub month_c_alone : lines_from (state_after (book 4) lent (notice_c ++ (Receipt 1 2 34 ∷ Receipt 1 3 300 ∷ []))) lent (Settle 1 ∷ []) ≡ paying 334 0 0 (0 ∷ 333 ∷ 1 ∷ 0 ∷ []) ∷ []
  -- both related payers do not pay: what 2 leaves unpaid is set off, and a round takes the deficit from 1
  pub month_c_both : lines_c 0 (notice_c ++ (Receipt 1 3 300 ∷ [])) (Settle 1 ∷ []) ≡ paying 300 0 1 (0 ∷ 300 ∷ 0 ∷ 0 ∷ []) ∷ []
  pub month_d_lem : lines_from (book 3) lent month_d ≡ listing_d
  pub month_e_lem : lines_from (state_after (book 4) lent notice_e) lent pays_e ≡ listing_e
  pub empty_month : answers_after 3 [] (Open 1 ∷ Notice 1 ∷ Settle 1 ∷ []) ≡ 0 ∷ 0 ∷ 0 ∷ []
  pub empty_gone : (state_after (book 3) lent (Open 1 ∷ Notice 1 ∷ Settle 1 ∷ [])).periods ≡ []
  pub answers_65 : answers_after 65 [] (Open 1 ∷ Receipt 1 64 0 ∷ []) ≡ 4 ∷ 4 ∷ []
  pub full_side : answers_after 3 (Open 1 ∷ []) (Amount 1 0 0 0 10_000_000_000_000 ∷ Amount 1 1 0 0 1 ∷ Energy 1 1 0 0 1 ∷ []) ≡ 0 ∷ 11 ∷ 0 ∷ []
  pub energy_in_tier_5 : lines_from (state_after (book 3) lent energy_last) lent (Settle 1 ∷ []) ≡ paying 60 0 0 (0 ∷ 6 ∷ 54 ∷ 9 ∷ []) ∷ []
  pub earlier_arrears_lem : answers_after 2 in_arrears pays_later ≡ 14 ∷ 0 ∷ 0 ∷ 0 ∷ []
  -- another payer of the period is not barred
  pub earlier_arrears_other : answers_after 3 (in_arrears ++ paid_by_two) (Receipt 4 0 1 ∷ Receipt 4 2 50 ∷ []) ≡ 14 ∷ 0 ∷ []
  pub earlier_arrears_late : answers_after 2 (in_arrears ++ (Settle 3 ∷ [])) pays_late ≡ 14 ∷ 0 ∷ 14 ∷ 0 ∷ 0 ∷ []
  -- the earlier check in 01's order answers
  pub five_before_three : answers (lines_from (book 3) (9 ∷ 9 ∷ []) (Amount 1 64 0 0 1 ∷ [])) ≡ 5 ∷ []
  pub three_before_eight : answers_after 3 [] (Amount 1 64 0 0 1 ∷ []) ≡ 3 ∷ []
  pub six_before_seven : answers_after 3 (openings 12) (Open 12 ∷ []) ≡ 6 ∷ []
  pub eight_before_twelve : answers_after 3 [] (Amount 1 3 0 0 1 ∷ []) ≡ 8 ∷ []
  pub twelve_before_nine : answers_after 3 notice_a (Amount 7 3 0 0 1 ∷ []) ≡ 12 ∷ []
  pub nine_before_eleven : answers_after 3 notice_a (Amount 7 0 0 0 10_000_000_000_000 ∷ []) ≡ 9 ∷ []
  pub fourteen_before_thirteen : answers_after 2 in_arrears (Receipt 3 0 101 ∷ []) ≡ 14 ∷ []
  -- of receipts too: from no participant, on no period and on one before notice; from a payer in arrears, on one before notice and on none
  pub eight_before_twelve_receipt : answers_after 3 [] (Receipt 1 3 1 ∷ []) ≡ 8 ∷ []
  pub twelve_before_nine_receipt : answers_after 3 (Open 1 ∷ []) (Receipt 1 3 1 ∷ []) ≡ 12 ∷ []
  pub nine_before_fourteen : answers_after 2 (in_arrears ++ (Open 4 ∷ [])) (Receipt 4 0 1 ∷ []) ≡ 9 ∷ []
  pub eight_before_fourteen : answers_after 2 in_arrears (Receipt 4 0 1 ∷ []) ≡ 8 ∷ []
