-- What an entry does to the book: the answer, the rounds, the new book and the payout words.
use Rattle.std.specs.Prelude.{ℕ, cond, List, [], ◌∷◌, eqb}
use Rattle.exact.specs.Rows.{places, at, sum, filled}
use Rattle.book.specs.Checks.{refusal}
use Rattle.book.specs.rules.Kinds.{period_of, is_open, is_purse, purse_of, purse_cents}
use Rattle.book.specs.rules.Periods.{fresh, Change, changed, leaves, zeros, raised}
use Rattle.book.specs.rules.State.{State, view, pack, find, period_at, replaced, removed, added, with_purses}
use Rattle.book.specs.rules.Purses.{after_drawing}
use Rattle.book.specs.rules.Refusals.{Input, checks}
use Rattle.book.specs.declared.Period.{Period}
use Rattle.book.specs.declared.Book.{Book}

pub record Outcome : Type 0 where
  pub answer : ℕ
  pub rounds : ℕ
  pub state : State
  pub words : List ℕ

-- period j as an entry left it is stored, or leaves the book
unfoldable pub stored : State → ℕ → Period → State
stored s j p = cond (leaves s.n p) (removed s j) (replaced s j p)

-- acceptance sets the first n payout words, 0 where nothing is paid, and no others
unfoldable pub payout_words : ℕ → List ℕ → List ℕ → List ℕ
payout_words n pays words = filled (at pays) n words

-- an open entry: one more period, and nothing paid
abbrev pub opened : State → ℕ → List ℕ → Outcome
opened s k words = record { answer = 0; rounds = 0; state = added s (fresh k); words = payout_words s.n (zeros places) words }

-- a purse entry: its cents are added to the purse of i, and nothing is paid (02, c)
abbrev pub purse_raised : State → ℕ → ℕ → List ℕ → Outcome
purse_raised s i cents words = record {
  answer = 0;
  rounds = 0;
  state = with_purses s (raised s.purses i cents);
  words = payout_words s.n (zeros places) words;
}

-- an entry that changes the period at place j
abbrev pub moved : State → ℕ → Change → List ℕ → Outcome
moved s j c words = record {
  answer = 0;
  rounds = c.rounds;
  state = stored s j c.period;
  words = payout_words s.n c.pays words;
}

-- an entry that names a period in the book, and what it makes of that period
unfoldable pub acted : State → Input → Outcome
acted s x = moved s (find (period_of x.entry) s.periods) (changed s.n s.grouping x.entry (period_at (period_of x.entry) s.periods)) x.words

-- an entry that names a period finds the book with what it draws from the purses moved into that period
unfoldable pub accepted : State → Input → Outcome
accepted s x =
    cond (is_open x.entry) (opened s (period_of x.entry) x.words)
    (cond (is_purse x.entry) (purse_raised s (purse_of x.entry) (purse_cents x.entry) x.words)
    (acted (after_drawing s x.entry) x))

-- a refusal changes nothing
abbrev pub refused : State → Input → ℕ → Outcome
refused s x number = record { answer = number; rounds = 0; state = s; words = x.words }

unfoldable pub step : State → Input → Outcome
step s x = cond (eqb (refusal (checks s x)) 0) (accepted s x) (refused s x (refusal (checks s x)))

-- what the program answers, the record it hands back, and the words as it leaves them
pub record Reply : Type 0 where
  pub answer : ℕ
  pub rounds : ℕ
  pub book : Book
  pub words : List ℕ

unfoldable pub reply : Book → Input → Reply
reply b x = record {
  answer = (step (view b) x).answer;
  rounds = (step (view b) x).rounds;
  book = pack (step (view b) x).state;
  words = (step (view b) x).words;
}

-- the replies to entries, each applied to the book that the one before it handed back
unfoldable pub replies : Book → List Input → List Reply
replies b [] = []
replies b (x ∷ inputs) = reply b x ∷ replies (reply b x).book inputs

-- the cents that an entry paid n participants; a refused one pays nothing
unfoldable pub paid_by : ℕ → Reply → ℕ
paid_by n r = cond (eqb r.answer 0) (sum (at r.words) n) 0
