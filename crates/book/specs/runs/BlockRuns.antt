-- What block runs leave, by the replies to their entries: lines, payout words and the money paid (01, The list of demand 3).
use Rattle.std.specs.Prelude.{ℕ, ◌+◌, ◌≤◌, ◌<◌, ◌≡◌, ◌⊎◌, List, [], ◌∷◌, ◌++◌, length}
use Rattle.std.proofs.Common.{inl, inr}
use Rattle.exact.specs.Rows.{at, sum}
use Rattle.book.specs.layouts.Reading.{reading}
use Rattle.book.specs.rules.Refusals.{Input}
use Rattle.book.specs.rules.Step.{Reply, reply, replies, paid_by}
use Rattle.book.specs.runs.Running.{Run, line_of}
use Rattle.book.specs.history.Log.{money_paid}
use Rattle.book.specs.history.Demand3.{History, begun}
use Rattle.book.specs.runs.RunDemand3.{Block, ran, entries_in, after_run, Work, after_work, after_all, RunDemand3}
use Rattle.book.specs.declared.makings.Making.{Making}
use Rattle.book.specs.declared.Book.{Book}

-- the first entry is lent these payout words, and each later one those that the one before it left
abbrev pub Lent : Book → List ℕ → List Input → Type 0
Lent b words [] = Unit {0}
Lent b words (x ∷ inputs) = (x.words ≡ words) × Lent (reply b x).book (reply b x).words inputs

-- the book that the last reply handed back, or the book before them where there is none
unfoldable pub book_after : Book → List Reply → Book
book_after b [] = b
book_after b (r ∷ rs) = book_after r.book rs

-- the payout words that the last reply left, or the lent ones where there is none
unfoldable pub words_after : List ℕ → List Reply → List ℕ
words_after words [] = words
words_after words (r ∷ rs) = words_after r.words rs

-- the lines of replies, one after the other
unfoldable pub lines_of : ℕ → List Reply → List ℕ
lines_of n [] = []
lines_of n (r ∷ rs) = line_of n r ++ lines_of n rs

-- the paid words of lines: the second of each three
unfoldable pub paid_words : List ℕ → List ℕ
paid_words [] = []
paid_words (answer ∷ []) = []
paid_words (answer ∷ paid ∷ []) = []
paid_words (answer ∷ paid ∷ held ∷ lines) = paid ∷ paid_words lines

-- the sum of a list
unfoldable pub total : List ℕ → ℕ
total [] = 0
total (x ∷ l) = x + total l

-- every number but the last is 0
abbrev pub LastAlone : List ℕ → Type 0
LastAlone [] = Unit {0}
LastAlone (x ∷ l) = ((x ≡ 0) ⊎ (l ≡ [])) × LastAlone l

-- the entries stand in the bytes one after the other, from a place on up to another
abbrev pub Stand : List ℕ → ℕ → List Input → ℕ → Type 0
Stand bytes place [] end = end ≡ place
Stand bytes place (x ∷ inputs) end = ((reading bytes place).entry ≡ x.entry ∷ []) × Stand bytes (reading bytes place).place inputs end

-- r is the run of these entries of a block, from the book b
pub record RunOf (b : Book) (x : Block) (inputs : List Input) (r : Run) : Type 0 where
  -- the entries are those of the bytes from the place on, up to where no further line has room, none can be read, or one has paid
  pub read : Stand x.bytes x.place inputs r.place
  pub few : length r.lines ≤ x.room
  pub ended : (x.room < length r.lines + 3) ⊎ ((reading x.bytes r.place).entry ≡ []) ⊎ (0 < total (paid_words r.lines))
  -- what is left is that of their replies
  pub in_turn : Lent b x.words inputs
  pub book : r.book ≡ book_after b (replies b inputs)
  pub words : r.words ≡ words_after x.words (replies b inputs)
  pub lines : r.lines ≡ lines_of b.n (replies b inputs)
  -- only the last line can have paid; where it has, the payout words, its entry's, come to its paid word
  pub last : LastAlone (paid_words r.lines)
  pub payouts : 0 < total (paid_words r.lines) → sum (at r.words) b.n ≡ total (paid_words r.lines)

-- the cents that callers are told were paid: by a single entry its reply, by a block the paid words of its lines
unfoldable pub paid_at : Book → Work → ℕ
paid_at b (inl x) = paid_by b.n (reply b x)
paid_at b (inr x) = total (paid_words (ran b x).lines)

-- and so over a list of work, each from the book that the one before it handed back
unfoldable pub paid_over : History → List Work → ℕ
paid_over h [] = 0
paid_over h (x ∷ work) = paid_at h.book x + paid_over (after_work h x) work

-- all that is claimed of block runs, alone and among single entries
pub record BlockRuns : Type 0 where
  pub demand3 : RunDemand3
  pub each : (b : Book) (x : Block) → RunOf b x (entries_in b x) (ran b x)
  -- money paid, as demand 3 reckons it from the log, grows by the paid words of a run's lines ..
  pub paid : (h : History) (x : Block)
      → money_paid h.book.n (after_run h x).log ≡ money_paid h.book.n h.log + total (paid_words (ran h.book x).lines)
  -- .. and is all that callers were told. The lines go by the book's n: the making's, or 0 where that was refused and all entries are
  pub all_paid : (m : Making) (work : List Work) → money_paid m.n (after_all (begun m) work).log ≡ paid_over (begun m) work
