-- Clause 14.59(4) and (5), paragraph by paragraph, by example (02, d).
use Rattle.std.specs.Prelude.{ℕ, ◌≡◌, [], ◌∷◌}
use Rattle.exact.specs.Rows.{at, sum, table}
use Rattle.settlement.specs.Notice.{retention}
use Rattle.settlement.specs.Rounds.{Standing, start, negatives_at_zero, weight, loss, round, spread}
use Rattle.settlement.specs.Settling.{revised, scaled_above, scaled_below}
use Rattle.settlement.specs.Examples.{month_b, received_b}

-- scaled amounts of four participants in two rows, and their revised amounts V
pub record Amounts : Type 0 where
  pub above : ℕ → ℕ
  pub below : ℕ → ℕ
  pub revised : ℕ → ℕ

module _ (a : Amounts) where
  -- (a) and AP negative, with its sign turned: where the rounds start
  abbrev pub begun : Standing
  begun = start (negatives_at_zero a.above a.below) (sum a.below 4)

  -- AO positive
  abbrev pub positive_sum : Standing → ℕ
  positive_sum s = sum (weight a.revised s.balance) 4

  -- what each loses by (b)
  abbrev pub lost : Standing → ℕ → ℕ
  lost s = loss 4 a.revised s.balance s.deficit

  -- a round: the balances that (b) leaves, and AP negative after it
  abbrev pub next : Standing → Standing
  next s = round 4 a.revised s

  -- all rounds
  abbrev pub ended : Standing
  ended = spread 4 a.revised begun.balance begun.deficit

-- month B (01, Reckoned examples): only 0 has paid
abbrev pub of_month_b : Amounts
of_month_b = record {
  above = scaled_above month_b (retention month_b) received_b;
  below = scaled_below month_b (retention month_b) received_b;
  revised = revised month_b (retention month_b) received_b;
}

-- 01's example of two rounds: 2 and 20 with V 10 and 10, beside an amount of −10 whose V is 10 too
abbrev pub of_two_rounds : Amounts
of_two_rounds = record { above = at (2 ∷ 20 ∷ []); below = at (0 ∷ 0 ∷ 10 ∷ []); revised = at (10 ∷ 10 ∷ 10 ∷ []) }

-- 3, 20 and 20 with V 10 each, beside an amount of −10: a third of 10 is rounded up
abbrev pub of_rounding : Amounts
of_rounding = record { above = at (3 ∷ 20 ∷ 20 ∷ []); below = at (0 ∷ 0 ∷ 0 ∷ 10 ∷ []); revised = at (10 ∷ 10 ∷ 10 ∷ 10 ∷ []) }

pub record ClauseExamples : Type 0 where
  -- month B: the scaled amounts are 0, 375 and −75, V is 0, 375 and 125
  pub scaled_b : (table of_month_b.above 4 ≡ 0 ∷ 375 ∷ 0 ∷ 0 ∷ []) × (table of_month_b.below 4 ≡ 0 ∷ 0 ∷ 75 ∷ 0 ∷ [])
  pub revised_b : table of_month_b.revised 4 ≡ 0 ∷ 375 ∷ 125 ∷ 0 ∷ []
  -- (4)(a)
  pub zero_b : table (begun of_month_b).balance 4 ≡ 0 ∷ 375 ∷ 0 ∷ 0 ∷ []
  -- AP negative, and AO positive without the 125 of the negative amount
  pub sums_b : ((begun of_month_b).deficit ≡ 75) × (positive_sum of_month_b (begun of_month_b) ≡ 375)
  -- (4)(b)
  pub lost_b : table (lost of_month_b (begun of_month_b)) 4 ≡ 0 ∷ 75 ∷ 0 ∷ 0 ∷ []
  -- (5): nothing is left of AP negative
  pub again_b : (next of_month_b (begun of_month_b)).deficit ≡ 0
  pub end_b : (table (ended of_month_b).balance 4 ≡ 0 ∷ 300 ∷ 0 ∷ 0 ∷ []) × ((ended of_month_b).rounds ≡ 1)
  -- two rounds: (4)(a) and the two sums
  pub zero_two : table (begun of_two_rounds).balance 4 ≡ 2 ∷ 20 ∷ 0 ∷ 0 ∷ []
  pub sums_two : ((begun of_two_rounds).deficit ≡ 10) × (positive_sum of_two_rounds (begun of_two_rounds) ≡ 20)
  -- (4)(b): the part of each is 5, and the first has 2
  pub lost_two : table (lost of_two_rounds (begun of_two_rounds)) 4 ≡ 2 ∷ 5 ∷ 0 ∷ 0 ∷ []
  -- (5): 3 are left of AP negative, and AO positive is the second's V alone
  pub again_two : ((next of_two_rounds (begun of_two_rounds)).deficit ≡ 3) × (positive_sum of_two_rounds (next of_two_rounds (begun of_two_rounds)) ≡ 10)
  pub end_two : (table (ended of_two_rounds).balance 4 ≡ 0 ∷ 12 ∷ 0 ∷ 0 ∷ []) × ((ended of_two_rounds).rounds ≡ 2)
  -- rounding: the part of each is 4, the first has 3, and the 11 lost leave nothing of AP negative
  pub lost_rounding : table (lost of_rounding (begun of_rounding)) 4 ≡ 3 ∷ 4 ∷ 4 ∷ 0 ∷ []
  pub again_rounding : (next of_rounding (begun of_rounding)).deficit ≡ 0
  pub end_rounding : (table (ended of_rounding).balance 4 ≡ 0 ∷ 16 ∷ 16 ∷ 0 ∷ []) × ((ended of_rounding).rounds ≡ 1)
