-- A listing of standard input, from its first byte to its end.
use Rattle.std.specs.Prelude.{◌≡◌, ℕ, ◌+◌, ◌*◌, ◌≤◌, min, true, false, ◌⊎◌, List, [], ◌++◌, length}
use Rattle.text.specs.Streams.{most}
use Rattle.text.specs.declared.streams.Last.TheVariants.{More, Ended, Failed}
use Rattle.text.specs.declared.streams.Input as input
use Rattle.text.specs.declared.streams.Output as output
use Rattle.book.specs.layouts.Reading.{reading}
use Rattle.book.specs.declared.limits.Limits.{Limits}
use Rattle.lister.specs.Lines.{header}
use Rattle.lister.specs.Listing.{listing}
use Rattle.lister.specs.Pieces.{Stand, Stands}
use Rattle.lister.specs.declared.ends.End.{End}
use Rattle.lister.specs.declared.ends.End.TheVariants.{Unread, Input, Turns, NotRead, NotWritten}
use Rattle.lister.specs.declared.ends.Ending.{Ending}

-- what was put when a listing ended, by why it ended: the listing of every input that begins with the bytes seen, or that of
-- these bytes; the header, or all entries that are there whole; some of them; what was handed over is the front of the listing
abbrev pub Listed : Limits → End → List ℕ → List ℕ → Type 0
Listed limits Unread seen put = (more : List ℕ) → listing limits (seen ++ more) ≡ put
Listed limits Input seen put = listing limits seen ≡ put
Listed limits NotRead seen put = ((seen ≡ []) × (put ≡ header)) ⊎ ((z : Stand) × Stands limits seen put z × ((reading z.left 0).answer ≡ 1))
Listed limits Turns seen put = (z : Stand) × Stands limits seen put z
Listed limits NotWritten seen put = (rest : List ℕ) × (listing limits seen ≡ put ++ rest)

-- what the streams and the turns say of it: only a read tells the end of the input or that it failed, and only a write that not
-- all was written
abbrev pub Told : End → input.Input → output.Output → ℕ → Type 0
Told Unread i o turns = (i.last ≡ More) × (o.all ≡ true)
Told Input i o turns = (i.last ≡ Ended) × (o.all ≡ true)
Told NotRead i o turns = (i.last ≡ Failed) × (o.all ≡ true)
Told Turns i o turns = (turns ≡ most) × (o.all ≡ true)
Told NotWritten i o turns = o.all ≡ false

-- a listing in a book of these limits: the bytes that were read, and the bytes that were handed over for writing, each as many as
-- its stream has counted
pub record Session (limits : Limits) (r : Ending) : Type 0 where
  pub seen : List ℕ
  pub put : List ℕ
  pub seen_counted : r.input.total ≡ min (length seen) most
  pub put_counted : r.output.total ≡ min (length put) most
  pub listed : Listed limits r.why seen put
  pub told : Told r.why r.input r.output r.turns
  -- so the turns are used up only where 2 ^ 63 - 1 bytes were read
  pub few_turns : r.turns ≤ 2 * length seen + 2
