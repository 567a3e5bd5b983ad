-- An input that is handed over in pieces is listed as it is whole.
use Rattle.std.specs.Prelude.{◌≡◌, ℕ, ◌<◌, ◌≤◌, Bool, true, false, List, [], ◌∷◌, ◌++◌, length, ◌≢◌}
use Rattle.book.specs.layouts.Reading.{reading}
use Rattle.book.specs.rules.State.{cents_held}
use Rattle.book.specs.declared.limits.Limits.{Limits}
use Rattle.lister.specs.Lines.{header}
use Rattle.lister.specs.Listing.{end_line, book_for, listing}
use Rattle.lister.specs.Pieces.{Stand, fed, Lists}
use Rattle.lister.specs.declared.blocks.Next.{Next}
use Rattle.lister.specs.declared.blocks.Next.TheVariants.{Again, Read, Done}

-- more bytes of output than this wait to be written out
abbrev pub waiting : ℕ
waiting = 212992

-- the listing ends before the bytes left: they cannot be read as an entry, and if the input has not ended no further bytes
-- make one of them
pub record Ends (ended : Bool) (a : Stand) (put : List ℕ) (z : Stand) : Type 0 where
  pub before : List ℕ
  pub lists : Lists a before z
  pub none : (reading z.left 0).entry ≡ []
  pub whole : put ≡ before ++ end_line z.number (cents_held z.book) z.left
  pub for_good : ended ≡ false → (reading z.left 0).answer ≢ 1

-- what is listed of a block, by what is to be done next: list on, since output waits; read, since the bytes left are short and
-- the input has not ended; or nothing
abbrev pub Goes : Bool → Next → ℕ → Stand → List ℕ → Stand → Type 0
Goes ended Again wrote a put z = Lists a put z × (length z.left < length a.left) × (waiting < wrote)
Goes false Read wrote a put z = Lists a put z × (length z.left ≤ length a.left) × ((reading z.left 0).answer ≡ 1)
Goes true Read wrote a put z = ⊥
Goes ended Done wrote a put z = Ends ended a put z

-- a turn of `list_block`: the piece of the input that was handed over before it, which may be none, and whether the input had
-- ended; what is to be done next, and how many bytes of output wait; the bytes put, and where the listing then stands
pub record Turn : Type 0 where
  pub piece : List ℕ
  pub ended : Bool
  pub next : Next
  pub wrote : ℕ
  pub put : List ℕ
  pub stand : Stand

-- what `list_block` promises of a turn
abbrev pub Promised : Stand → Turn → Type 0
Promised a t = Goes t.ended t.next t.wrote (fed a t.piece) t.put t.stand

-- turns one after the other, each from where the one before it stood; with the last the listing is whole
abbrev pub Follow : Stand → Turn → List Turn → Type 0
Follow a t [] = Promised a t × (t.next ≡ Done)
Follow a t (u ∷ ts) = Promised a t × (t.next ≢ Done) × Follow t.stand u ts

abbrev pub last : Turn → List Turn → Turn
last t [] = t
last t (u ∷ ts) = last u ts

-- all that they were handed, and all that they put
abbrev pub pieces : List Turn → List ℕ
pieces [] = []
pieces (t ∷ ts) = t.piece ++ pieces ts

abbrev pub all_put : List Turn → List ℕ
all_put [] = []
all_put (t ∷ ts) = t.put ++ all_put ts

-- where a listing begins that was handed n
abbrev pub begun : Limits → ℕ → Stand
begun limits n = record { number = 1; book = book_for limits n; left = [] }

-- any limits and any input, n and what follows it, cut into pieces in any way: what the turns put, in order, is its listing; and
-- where the input had not ended, that of every input that begins so
pub record Joined (limits : Limits) (n : ℕ) (t : Turn) (ts : List Turn) : Type 0 where
  pub whole : listing limits (n ∷ pieces (t ∷ ts)) ≡ header ++ all_put (t ∷ ts)
  pub for_good : (last t ts).ended ≡ false → (more : List ℕ) → listing limits ((n ∷ pieces (t ∷ ts)) ++ more) ≡ header ++ all_put (t ∷ ts)

-- an input of no byte has the header alone
pub record JoinedPieces : Type 0 where
  pub empty : (limits : Limits) → listing limits [] ≡ header
  pub joined : (limits : Limits) (n : ℕ) (t : Turn) (ts : List Turn) → Follow (begun limits n) t ts → Joined limits n t ts
