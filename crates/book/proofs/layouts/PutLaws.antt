-- Laws of bytes that are put into others: a field's, and those of fields one after the other.
use Rattle.std.proofs.Common.{◌≡◌, ℕ, zero, suc, ◌+◌, ◌/◌, ◌%◌, ◌^◌, ◌<◌, ◌≤◌, List, [], ◌∷◌, ◌++◌, length, set, refl, sym, ap, ap₂, ◌∙◌, append_assoc, arith}
use Rattle.std.proofs.Math.Nat.{div-div-eq-div-mul, div-one, pow-suc, add-zero, add-suc, suc-add}
use Rattle.std.specs.Int.{w32, w64, to_le_bytes, byte_at, bytes_low_first}
use borrow.Rule.Slice.PartMut.{put_mid}
use Rattle.std.proofs.lemmas.List.Edits.{sets, sets-eq}
use lib.Seq.{drop-drop}
use Rattle.book.specs.layouts.Fields.{bytes, field_bytes}
use Rattle.book.specs.inner.Puts.{width_of, value_of, bytes_of_fields}
use Rattle.book.specs.declared.fields.Field.{Field}

-- what a copy into a part leaves
pub put_part : (out b w : List ℕ) (place n : ℕ) → place + length b ≤ length out → n ≡ length b → w ≡ b → put_mid place n out w ≡ sets out place b
put_part out b w place n h e q = rw (e, q, sets-eq b out place h, append_assoc, drop-drop)

-- the library's bytes of a number
low_first : (i k n : ℕ) → bytes k (n / 256 ^ i) ≡ bytes_low_first i k n
unfolding bytes
low_first i zero n = refl
low_first i (suc k) n = ap₂ ◌∷◌ (head i) (rest ∙ low_first (suc i) k n)
  where
    head : (i : ℕ) → n / 256 ^ i % 256 ≡ byte_at i n
    head zero = ap (λ (m : ℕ). m % 256) (div-one n)
    head (suc i) = refl

    rest : bytes k (n / 256 ^ i / 256) ≡ bytes k (n / 256 ^ suc i)
    rest = rw (div-div-eq-div-mul, pow-suc)

pub byte_bytes : (v : ℕ) → v < 256 → v ∷ [] ≡ bytes 1 v
unfolding bytes
byte_bytes v h = ap (λ (b : ℕ). b ∷ []) (omega arith)

pub word_bytes : (v : ℕ) → to_le_bytes w32 v ≡ bytes 4 v
word_bytes v = sym (low_first 0 4 v) ∙ rw div-one

pub long_bytes : (v : ℕ) → to_le_bytes w64 v ≡ bytes 8 v
long_bytes v = sym (low_first 0 8 v) ∙ rw div-one

-- what is put after a field
put_more : (k : ℕ) (o : List ℕ) (j v : ℕ) (rest : List ℕ) → sets o j (bytes k v ++ rest) ≡ sets (sets o j (bytes k v)) (j + k) rest
unfolding bytes
put_more zero o j v rest = rw add-zero
put_more (suc k) o j v rest = rw (put_more k (set o j (v % 256)) (suc j) (v / 256) rest, add-suc, suc-add)

pub put_first : (f : Field) (fs : List Field) (o : List ℕ) (j : ℕ)
    → sets o j (bytes_of_fields (f ∷ fs)) ≡ sets (sets o j (bytes (width_of f) (value_of f))) (j + width_of f) (bytes_of_fields fs)
unfolding field_bytes
put_first f fs o j = put_more (width_of f) o j (value_of f) (bytes_of_fields fs)

pub put_none : (o : List ℕ) (j : ℕ) → sets o j (bytes_of_fields []) ≡ o
unfolding field_bytes
put_none o j = refl
