-- The listing of a whole input in a book of some limits, entry by entry (01, Reckoned examples, its end; 02, f). It knows no
-- blocks, runs or buffers.
use Rattle.std.specs.Prelude.{ℕ, zero, suc, ◌+◌, List, [], ◌∷◌, ◌++◌, length, drop, replicate}
use Rattle.exact.specs.Rows.{places}
use Rattle.book.specs.layouts.Reading.{reading, on_entry}
use Rattle.book.specs.rules.State.{pack, cents_held}
use Rattle.book.specs.rules.Makings.{made, separate}
use Rattle.book.specs.rules.Step.{Reply, reply, paid_by}
use Rattle.book.specs.declared.limits.Limits.{Limits}
use Rattle.book.specs.declared.Book.{Book}
use Rattle.lister.specs.Lines.{header, entry_line, pay_lines}

-- the payout words that each entry is lent: enough for every book, and 0
abbrev pub lent : List ℕ
lent = replicate places 0

-- the line of an entry of a book of n, and one for each participant that it pays
unfoldable pub entry_lines : ℕ → ℕ → Reply → List ℕ
entry_lines number n r = entry_line number r.answer (paid_by n r) (cents_held r.book) ++ pay_lines r.words n

-- where no entry can be read: no further line at the end of the input, else the line of the bytes that cannot be read
unfoldable pub end_line : ℕ → ℕ → List ℕ → List ℕ
end_line number held [] = []
end_line number held (x ∷ s) = entry_line number (reading (x ∷ s) 0).answer 0 held

-- the entries at the front of the bytes left, one after the other, at most so many, and the end
unfoldable pub entries_from : ℕ → ℕ → Book → List ℕ → List ℕ
entries_from zero number b s = end_line number (cents_held b) s
entries_from (suc most) number b s =
    on_entry (reading s 0).entry
    (λ e. let r = reply b (record { entry = e; words = lent }) in
    entry_lines number b.n r ++ entries_from most (number + 1) r.book (drop (reading s 0).place s))
    (end_line number (cents_held b) s)

-- the listing from the entry of a number on; there are no more entries than bytes
unfoldable pub listing_from : ℕ → Book → List ℕ → List ℕ
listing_from number b s = entries_from (length s) number b s

-- the book of these limits that is made for n participants, each in a group of its own, without reserves; of a refused n it has
-- none (02, a and f)
abbrev pub book_for : Limits → ℕ → Book
book_for limits n = pack (made (separate n limits)).state

-- the header for every input; n is its first byte, and entries are what follows
unfoldable pub listing : Limits → List ℕ → List ℕ
listing limits [] = header
listing limits (n ∷ s) = header ++ listing_from 1 (book_for limits n) s
