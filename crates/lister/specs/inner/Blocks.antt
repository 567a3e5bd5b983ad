-- A block of the input: the bytes that are there of it, listed from a place on.
use Rattle.std.specs.Prelude.{◌≡◌, ℕ, ◌<◌, ◌≤◌, min, Bool, true, cond, List, [], length, drop}
use Rattle.text.specs.Streams.{most, is_ended, is_failed}
use Rattle.text.specs.declared.streams.Last.{Last}
use Rattle.text.specs.declared.streams.Last.TheVariants.{More}
use Rattle.text.specs.declared.streams.Input as input
use Rattle.text.specs.declared.streams.Output as output
use Rattle.book.specs.layouts.Reading.{reading}
use Rattle.book.specs.rules.Valid.{Valid}
use Rattle.book.specs.rules.Words.{AgreeFrom}
use Rattle.lister.specs.Lines.{header}
use Rattle.lister.specs.Listing.{lent}
use Rattle.lister.specs.Pieces.{Stand, Lists}
use Rattle.lister.specs.Turns.{waiting, Goes}
use Rattle.lister.specs.declared.ends.End.{End}
use Rattle.lister.specs.declared.ends.End.TheVariants.{Unread, Input, NotRead}
use Rattle.lister.specs.declared.blocks.Standing.{Standing}
use Rattle.lister.specs.declared.blocks.Next.TheVariants.{Again}

-- the bytes of output that there is room for
abbrev pub out_room : ℕ
out_room = 262144

-- where a listing stands in a block
abbrev pub stand_in : List ℕ → Standing → Stand
stand_in feed s = record { number = s.number; book = s.book; left = drop s.place feed }

-- what the functions require of where it stands: a valid book, a place in the block, and payout words as first lent from n on
pub record Ready (feed : List ℕ) (s : Standing) (words : List ℕ) : Type 0 where
  pub valid : Valid s.book
  pub within : s.place ≤ length feed
  pub agree : AgreeFrom s.book.n words lent

-- run after run is listed on an empty output, until output waits or no further entry can be read
pub record RunsListed (feed : List ℕ) (a z : Standing) (out words : List ℕ) : Type 0 where
  pub ready : Ready feed z words
  pub lists : Lists (stand_in feed a) out (stand_in feed z)
  pub onward : a.place ≤ z.place
  pub some : waiting < length out → a.place < z.place
  pub stopped : length out ≤ waiting → (reading (drop z.place feed) 0).entry ≡ []
  pub again : z.next ≡ Again

-- the bytes of output put, and where the listing then stands, ready to go on
pub record BlockListed (feed : List ℕ) (a : Standing) (ended : Bool) (z : Standing) (out words : List ℕ) : Type 0 where
  pub ready : Ready feed z words
  pub goes : Goes ended z.next (length out) (stand_in feed a) out (stand_in feed z)

-- why a listing ended, by what the last read left
abbrev pub why_ended : Last → End
why_ended l = cond (is_failed l) NotRead (cond (is_ended l) Input Unread)

-- a listing begins: the header was handed over and written, n and what follows it in the block was read, and the payout words
-- are as first lent
pub record Begun (i : input.Input) (o : output.Output) (feed words : List ℕ) : Type 0 where
  pub some : 0 < length feed
  pub read_counted : i.total ≡ min (length feed) most
  pub brought : i.last ≡ More
  pub header_counted : o.total ≡ length header
  pub header_written : o.all ≡ true
  pub as_lent : words ≡ lent
