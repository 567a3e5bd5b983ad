-- A feed that is made longer and listed again from its start: what its listing has of the one before. A program that reads
-- listings relies on it to skip what it has paid.
use Rattle.std.specs.Prelude.{◌≡◌, ℕ, zero, suc, ◌%◌, ◌^◌, ◌<◌, ◌⊎◌, List, [], ◌∷◌, ◌++◌, length, drop, ◌≢◌}
use Rattle.book.specs.layouts.Reading.{reading, on_entry}
use Rattle.book.specs.rules.Step.{reply}
use Rattle.book.specs.declared.limits.Limits.{Limits}
use Rattle.book.specs.declared.entries.Entry.{Entry}
use Rattle.book.specs.declared.Book.{Book}
use Rattle.lister.specs.Lines.{with_space, entry_line}
use Rattle.lister.specs.Listing.{lent, listing}

-- what is left of bytes after the entries at their front, at most so many of them
unfoldable pub unread_from : ℕ → List ℕ → List ℕ
unread_from zero s = s
unread_from (suc most) s = on_entry (reading s 0).entry (λ _. unread_from most (drop (reading s 0).place s)) s

-- what is left of a whole input, behind n: no byte where it is empty, or ends after n or after a whole entry, else bytes that cannot
-- be read as an entry; there are no more entries than bytes
unfoldable pub unread : List ℕ → List ℕ
unread [] = []
unread (n ∷ s) = unread_from (length s) s

-- the bytes of `whole` begin with those of `front`
pub record Begins (whole front : List ℕ) : Type 0 where
  pub rest : List ℕ
  pub same : whole ≡ front ++ rest

-- a listing is `front` and the line of bytes that cannot be read, which pay nothing
pub record EndsUnread (listed front : List ℕ) (answer : ℕ) : Type 0 where
  pub number : ℕ
  pub held : ℕ
  pub same : listed ≡ front ++ entry_line number answer 0 held

-- an input, and the same with more behind it, in a book of some limits: three cases, by what is left of the input
module _ (limits : Limits) (input more : List ℕ) where
  abbrev pub answer_left : ℕ
  answer_left = (reading (unread input) 0).answer

  pub record Longer : Type 0 where
    -- no byte is left: the longer listing begins with the shorter
    pub after_entry : unread input ≡ [] → Begins (listing limits (input ++ more)) (listing limits input)
    -- a part of an entry is left, answered 1: the longer listing begins with the shorter but for this last line, and goes on with
    -- an entry of the same number
    pub within_entry : (unread input ≢ []) → answer_left ≡ 1
        → (front : List ℕ) × (last : EndsUnread (listing limits input) front 1)
        × Begins (listing limits (input ++ more)) (front ++ with_space (last.number % 2 ^ 64))
    -- bytes are left of which no further bytes make an entry, answered 2 or 3: both listings are the same, and end there
    pub unreadable : (answer_left ≢ 1)
        → ((answer_left ≡ 2) ⊎ (answer_left ≡ 3))
        × ((front : List ℕ) × EndsUnread (listing limits input) front answer_left)
        × (listing limits (input ++ more) ≡ listing limits input)

pub record LongerInputs : Type 0 where
  pub longer : (limits : Limits) (input more : List ℕ) → Longer limits input more
  -- an entry that was read is never answered 1, 2 or 3, so that the last answer of a listing tells the case
  pub told : (s : List ℕ) (e : Entry) → (reading s 0).entry ≡ e ∷ [] → (b : Book)
      → let answer = (reply b (record { entry = e; words = lent })).answer in (answer ≡ 0) ⊎ (3 < answer)
