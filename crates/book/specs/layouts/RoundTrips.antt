-- Reading and writing undo each other.
use Rattle.std.specs.Prelude.{ℕ, ◌+◌, ◌-◌, ◌≤◌, ◌<◌, ◌≡◌, List, [], ◌∷◌, ◌++◌, get_or, length, take, drop}
use Rattle.book.specs.layouts.Fields.{Fit}
use Rattle.book.specs.layouts.Entries.{layout, kind_of, fields_of}
use Rattle.book.specs.layouts.Reading.{reading}
use Rattle.book.specs.layouts.Writing.{writing, written}
use Rattle.book.specs.declared.entries.Entry.{Entry}

-- an entry that was written is read back, at any place and before any bytes; each field of an entry fits its width
abbrev pub WrittenThenRead : Type 0
WrittenThenRead =
    (e : Entry) (out before after : List ℕ) (n : ℕ) → Fit (layout (kind_of e)) (fields_of e)
    → writing e (length out) ≡ record { answer = 0; count = n }
    → reading (before ++ take n (written e out) ++ after) (length before)
    ≡ record { answer = 0; place = length before + n; entry = e ∷ [] }

-- an entry that was read, written where there is room, gives the same bytes and leaves the others
abbrev pub ReadThenWritten : Type 0
ReadThenWritten =
    (s out : List ℕ) (place next : ℕ) (e : Entry) → ((i : ℕ) → get_or s i 0 < 256)
    → reading s place ≡ record { answer = 0; place = next; entry = e ∷ [] } → next - place ≤ length out
    → (writing e (length out) ≡ record { answer = 0; count = next - place })
    × (written e out ≡ take (next - place) (drop place s) ++ drop (next - place) out)
