-- Entries read from lent bytes and applied one after the other.
use Rattle.std.specs.Prelude.{ℕ, zero, suc, cond, List, [], ◌∷◌, ◌++◌, eqb}
use Rattle.book.specs.layouts.Reading.{reading, on_entry}
use Rattle.book.specs.rules.State.{cents_held}
use Rattle.book.specs.rules.Refusals.{Input}
use Rattle.book.specs.rules.Step.{Reply, reply, paid_by}
use Rattle.book.specs.declared.Book.{Book}

-- what a run leaves: the book, the place of the next entry, the payout words, and the lines of its entries
pub record Run : Type 0 where
  pub book : Book
  pub place : ℕ
  pub words : List ℕ
  pub lines : List ℕ

-- the three words of an entry's line: its answer, the cents paid by it and the cents held
abbrev pub line_of : ℕ → Reply → List ℕ
line_of n r = r.answer ∷ paid_by n r ∷ cents_held r.book ∷ []

abbrev pub stopped : Book → ℕ → List ℕ → Run
stopped b place words = record { book = b; place = place; words = words; lines = [] }

-- a line, and what follows it
abbrev pub lined : List ℕ → Run → Run
lined line r = record { book = r.book; place = r.place; words = r.words; lines = line ++ r.lines }

-- the entries of the bytes from a place on, while there is room for a line: before the first that cannot be read, or with
-- the first that has paid
module _ (bytes : List ℕ) where
  unfoldable pub run : ℕ → Book → ℕ → List ℕ → Run
  run zero b place words = stopped b place words
  run (suc zero) b place words = stopped b place words
  run (suc (suc zero)) b place words = stopped b place words
  run (suc (suc (suc room))) b place words =
      on_entry (reading bytes place).entry
      (λ e. let r = reply b (record { entry = e; words = words }) in
      lined (line_of b.n r)
      (cond (eqb (paid_by b.n r) 0) (run room r.book (reading bytes place).place r.words) (stopped r.book (reading bytes place).place r.words)))
      (stopped b place words)

  -- the same entries, each with the payout words that it is lent
  unfoldable pub inputs_of : ℕ → Book → ℕ → List ℕ → List Input
  inputs_of zero b place words = []
  inputs_of (suc zero) b place words = []
  inputs_of (suc (suc zero)) b place words = []
  inputs_of (suc (suc (suc room))) b place words =
      on_entry (reading bytes place).entry
      (λ e. let x : Input = record { entry = e; words = words } in
      x ∷ cond (eqb (paid_by b.n (reply b x)) 0) (inputs_of room (reply b x).book (reading bytes place).place (reply b x).words) [])
      []
