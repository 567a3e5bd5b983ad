-- A listing of which some of the input was handed over.
use Rattle.std.specs.Prelude.{◌≡◌, ℕ, List, ◌++◌}
use Rattle.book.specs.declared.limits.Limits.{Limits}
use Rattle.book.specs.declared.Book.{Book}
use Rattle.lister.specs.Listing.{listing_from, listing}

-- where a listing stands: the number of the next entry, the book, and the bytes left of those handed over
pub record Stand : Type 0 where
  pub number : ℕ
  pub book : Book
  pub left : List ℕ

-- the same with a further piece of the input behind the bytes left
abbrev pub fed : Stand → List ℕ → Stand
fed a piece = record { number = a.number; book = a.book; left = a.left ++ piece }

-- the listing from there on, if nothing follows
abbrev pub rest : Stand → List ℕ
rest a = listing_from a.number a.book a.left

-- from one stand to another these bytes are listed, whatever follows
pub record Lists (a : Stand) (put : List ℕ) (z : Stand) : Type 0 where
  pub whole : (more : List ℕ) → rest (fed a more) ≡ put ++ rest (fed z more)

-- after the bytes seen so far these were put, and the listing stands there, whatever follows
pub record Stands (limits : Limits) (seen put : List ℕ) (z : Stand) : Type 0 where
  pub whole : (more : List ℕ) → listing limits (seen ++ more) ≡ put ++ rest (fed z more)
