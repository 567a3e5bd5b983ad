-- Fields that are put one after the other.
use Rattle.std.specs.Prelude.{ℕ, ◌+◌, List, [], ◌∷◌}
use Rattle.book.specs.layouts.Fields.{field_bytes}
use Rattle.book.specs.declared.fields.Field.{Field}
use Rattle.book.specs.declared.fields.Field.TheVariants.{Byte, Word, Long}

abbrev pub width_of : Field → ℕ
width_of (Byte v) = 1
width_of (Word v) = 4
width_of (Long v) = 8

abbrev pub value_of : Field → ℕ
value_of (Byte v) = v
value_of (Word v) = v
value_of (Long v) = v

-- the widths and the values of fields
abbrev pub widths : List Field → List ℕ
widths [] = []
widths (f ∷ fs) = width_of f ∷ widths fs

abbrev pub values : List Field → List ℕ
values [] = []
values (f ∷ fs) = value_of f ∷ values fs

-- how many bytes they take, and these bytes
abbrev pub room_of : List Field → ℕ
room_of [] = 0
room_of (f ∷ fs) = width_of f + room_of fs

abbrev pub bytes_of_fields : List Field → List ℕ
bytes_of_fields fs = field_bytes (widths fs) (values fs)
