-- Unsigned fields, least significant byte first (01, Entries).
use Rattle.std.specs.Prelude.{ℕ, zero, suc, ◌+◌, ◌*◌, ◌/◌, ◌%◌, ◌^◌, ◌<◌, List, [], ◌∷◌, ◌++◌, get_or}

-- the number in k bytes of s, from a place on
unfoldable pub value_at : ℕ → List ℕ → ℕ → ℕ
value_at zero s place = 0
value_at (suc k) s place = get_or s place 0 + 256 * value_at k s (place + 1)

-- the k bytes of a number
unfoldable pub bytes : ℕ → ℕ → List ℕ
bytes zero v = []
bytes (suc k) v = v % 256 ∷ bytes k (v / 256)

-- fields of given widths, one after the other: the numbers in them, from a place on
unfoldable pub fields_at : List ℕ → List ℕ → ℕ → List ℕ
fields_at [] s place = []
fields_at (w ∷ ws) s place = value_at w s place ∷ fields_at ws s (place + w)

-- and their bytes
unfoldable pub field_bytes : List ℕ → List ℕ → List ℕ
field_bytes [] vs = []
field_bytes (w ∷ ws) [] = []
field_bytes (w ∷ ws) (v ∷ vs) = bytes w v ++ field_bytes ws vs

-- values that fit their widths, one each
abbrev pub Fit : List ℕ → List ℕ → Type 0
Fit [] [] = Unit {0}
Fit [] (v ∷ vs) = ⊥
Fit (w ∷ ws) [] = ⊥
Fit (w ∷ ws) (v ∷ vs) = (v < 256 ^ w) × Fit ws vs
