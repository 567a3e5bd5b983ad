-- Demand 3 of the book that block runs and single entries hand back, in any order (01, The list of demand 3).
use Rattle.std.specs.Prelude.{ℕ, ◌⊎◌, List, [], ◌∷◌}
use Rattle.std.proofs.Common.{inl, inr}
use Rattle.book.specs.rules.Refusals.{Input}
use Rattle.book.specs.runs.Running.{Run, run, inputs_of}
use Rattle.book.specs.history.Log.{retention}
use Rattle.book.specs.history.Demand3.{History, begun, next, after, Clauses}
use Rattle.book.specs.declared.makings.Making.{Making}
use Rattle.book.specs.declared.Book.{Book}

-- a block of the feed as it is lent: its bytes, the place of the next entry, the payout words, and the room for lines
pub record Block : Type 0 where
  pub bytes : List ℕ
  pub place : ℕ
  pub words : List ℕ
  pub room : ℕ

-- a block's run from a book, and the entries that it applies
abbrev pub ran : Book → Block → Run
ran b x = run x.bytes x.room b x.place x.words

abbrev pub entries_in : Book → Block → List Input
entries_in b x = inputs_of x.bytes x.room b x.place x.words

-- the run's own book, and the log of the entries that were answered 0 so far
unfoldable pub after_run : History → Block → History
after_run h x = record { book = (ran h.book x).book; log = (after h (entries_in h.book x)).log }

-- an entry that is applied, or a block that is run
abbrev pub Work : Type 0
Work = Input ⊎ Block

unfoldable pub after_work : History → Work → History
after_work h (inl x) = next h x
after_work h (inr x) = after_run h x

-- each starts from the book that the one before it handed back
unfoldable pub after_all : History → List Work → History
after_all h [] = h
after_all h (x ∷ work) = after_all (after_work h x) work

abbrev pub RunDemand3 : Type 0
RunDemand3 = (m : Making) (work : List Work) → Clauses m.n (retention m.n m.grouping) (after_all (begun m) work)
