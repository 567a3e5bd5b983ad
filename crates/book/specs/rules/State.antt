-- The book as 01 and 02 have it, a list of periods and a row of purses, and the record that the program keeps of it.
use Rattle.std.specs.Prelude.{ℕ, suc, ◌+◌, ◌-◌, Bool, true, false, cond, List, [], ◌∷◌, ◌++◌, eqb, ltb, get_or, length, take, drop, replicate}
use Rattle.exact.specs.Rows.{at, sum}
use Rattle.settlement.specs.declared.groups.Grouping.{Grouping}
use Rattle.book.specs.rules.Limits.{period_places}
use Rattle.book.specs.rules.Periods.{is_settled, fresh, holds}
use Rattle.book.specs.declared.limits.Limits.{Limits}
use Rattle.book.specs.declared.Stage.TheVariants.{Opened}
use Rattle.book.specs.declared.Period.{Period}
use Rattle.book.specs.declared.Book.{Book}

-- n participants, their groups with the groups' reserves, the book's limits (02, f), the highest period ever opened, the
-- periods in the book, oldest first, and each participant's purse (02, c)
pub record State : Type 0 where
  pub n : ℕ
  pub grouping : Grouping
  pub limits : Limits
  pub highest : ℕ
  pub periods : List Period
  pub purses : List ℕ

-- the cents held over periods
unfoldable pub held_in : ℕ → List Period → ℕ
held_in n [] = 0
held_in n (p ∷ ps) = holds n p + held_in n ps

-- the cents that the book holds: over its periods, and in its purses (02, c)
unfoldable pub held_by : State → ℕ
held_by s = held_in s.n s.periods + sum (at s.purses) s.n

-- the state that a record stands for ..
abbrev pub view : Book → State
view b = record {
  n = b.n;
  grouping = b.grouping;
  limits = b.limits;
  highest = b.highest;
  periods = take b.count b.periods;
  purses = b.purses;
}

-- .. and the record of a state: nothing in it is free
unfoldable pub pack : State → Book
pack s = record {
  n = s.n;
  grouping = s.grouping;
  limits = s.limits;
  highest = s.highest;
  count = length s.periods;
  held = held_by s;
  periods = s.periods ++ replicate (period_places - length s.periods) (fresh 0);
  purses = s.purses;
}

-- the cents held, which the book keeps and the listing prints
abbrev pub cents_held : Book → ℕ
cents_held b = b.held

-- the numbers of the periods in the book
abbrev pub numbers : List Period → List ℕ
numbers [] = []
numbers (p ∷ ps) = p.number ∷ numbers ps

abbrev pub numbers_in : Book → List ℕ
numbers_in b = numbers (view b).periods

-- the place of period k in a list of periods, or how many there are where it is not among them
unfoldable pub find : ℕ → List Period → ℕ
find k [] = 0
find k (p ∷ ps) = cond (eqb p.number k) 0 (suc (find k ps))

-- what stands for a period past the end of a list
abbrev pub no_period : Period
no_period = record {
  number = 0;
  stage = Opened;
  totals = [];
  by = [];
  to = [];
  payable = [];
  received = [];
  paid = [];
  claim = [];
  arrears = [];
}

abbrev pub period_at : ℕ → List Period → Period
period_at k ps = get_or ps (find k ps) no_period

-- the period is settled and earlier than period k, and i has arrears in it
unfoldable pub arrears_before : ℕ → ℕ → Period → Bool
arrears_before i k p = cond (ltb p.number k) (cond (is_settled p.stage) (ltb 0 (at p.arrears i)) false) false

-- an earlier settled period has arrears of i
unfoldable pub earlier_arrears : ℕ → ℕ → List Period → Bool
earlier_arrears i k [] = false
earlier_arrears i k (p ∷ ps) = cond (arrears_before i k p) true (earlier_arrears i k ps)

abbrev pub with_periods : State → List Period → State
with_periods s ps = record { n = s.n; grouping = s.grouping; limits = s.limits; highest = s.highest; periods = ps; purses = s.purses }

abbrev pub with_purses : State → List ℕ → State
with_purses s purses = record { n = s.n; grouping = s.grouping; limits = s.limits; highest = s.highest; periods = s.periods; purses = purses }

-- the period at place j replaced by another
unfoldable pub replaced : State → ℕ → Period → State
replaced s j p = with_periods s (take j s.periods ++ p ∷ drop (suc j) s.periods)

-- the period at place j taken out
unfoldable pub removed : State → ℕ → State
removed s j = with_periods s (take j s.periods ++ drop (suc j) s.periods)

-- one more period, the last, whose number is then the highest
unfoldable pub added : State → Period → State
added s p = record { n = s.n; grouping = s.grouping; limits = s.limits; highest = p.number; periods = s.periods ++ (p ∷ []); purses = s.purses }
