-- Laws of little-endian fields, over any width, and of fields one after the other.
use mathlib.Core.Path.{◌≡◌, refl, sym, ap, ap₂, ◌∙◌}
use mathlib.Core.List.{List, [], ◌∷◌, ◌++◌, append_assoc}
use Prim.Native.Nat.{ℕ, zero, suc, ◌+◌, ◌*◌, ◌/◌, ◌%◌, ◌^◌, ◌≤◌, ◌<◌}
use native.Mathlib.Nat.{pow-suc, add-zero, zero-add}
use native.Mathlib.Numerals.{add-one}
use native.Mathlib.Omega.{arith}
use lib.ListN.{length, get_or, take, drop, get_or-append, length-drop}
use lib.Seq.{get_or-drop, drop-drop, drop-cons, drop_at, take-add}
use Rattle.std.specs.Int.{w8, w32, w64, from_le_bytes}
use Rattle.std.proofs.lemmas.List.{take-append-drop, length-take-le}
use Rattle.book.specs.layouts.Fields.{value_at, bytes, fields_at, field_bytes, Fit}

-- a field is read of what stands from its place on
pub value_drop : (k : ℕ) (s : List ℕ) (place : ℕ) → value_at k s place ≡ value_at k (drop place s) 0
unfolding value_at
value_drop zero s place = refl
value_drop (suc k) s place =
    let a : get_or (drop place s) 0 0 ≡ get_or s place 0 = rw (get_or-drop, add-zero) in
    let b : value_at k (drop place s) 1 ≡ value_at k s (place + 1) = value_drop k (drop place s) 1 ∙ rw drop-drop (sym (value_drop k s (place + 1))) in
    rw (a, b)

-- nor what stands behind it
pub value_before : (k : ℕ) (s more : List ℕ) (place : ℕ) → place + k ≤ length s → value_at k (s ++ more) place ≡ value_at k s place
unfolding value_at
value_before zero s more place h = refl
value_before (suc k) s more place h = ap₂ (λ (x y : ℕ). x + 256 * y) (get_or-append s more 0 place (omega arith)) (value_before k s more (place + 1) (omega arith))

-- the number in the first k bytes is that in those alone
value_taken : (k : ℕ) (s : List ℕ) → k ≤ length s → value_at k (take k s) 0 ≡ value_at k s 0
value_taken k s h =
    sym (value_before k (take k s) (drop k s) 0 (omega (arith, length-take-le k s h))) ∙ ap (λ (l : List ℕ). value_at k l 0) (take-append-drop k s)

-- the library's number of the first 1, 4 or 8 bytes
pub byte_taken : (s : List ℕ) → 1 ≤ length s → from_le_bytes w8 (take 1 s) ≡ value_at 1 s 0
unfolding value_at
byte_taken s h = omega (arith, value_taken 1 s h)

pub word_taken : (s : List ℕ) → 4 ≤ length s → from_le_bytes w32 (take 4 s) ≡ value_at 4 s 0
unfolding value_at
word_taken s h = omega (arith, value_taken 4 s h)

pub long_taken : (s : List ℕ) → 8 ≤ length s → from_le_bytes w64 (take 8 s) ≡ value_at 8 s 0
unfolding value_at
long_taken s h = omega (arith, value_taken 8 s h)

pub bytes_length : (k v : ℕ) → length (bytes k v) ≡ k
unfolding bytes
bytes_length zero v = refl
bytes_length (suc k) v = ap suc (bytes_length k (v / 256))

-- the bytes of a number that fits hold that number, whatever follows
pub value_bytes : (k v : ℕ) (after : List ℕ) → v < 256 ^ k → value_at k (bytes k v ++ after) 0 ≡ v
unfolding value_at bytes
value_bytes zero v after h = omega arith
value_bytes (suc k) v after h =
    let rest : value_at k (v % 256 ∷ (bytes k (v / 256) ++ after)) 1 ≡ v / 256 =
    value_drop k (v % 256 ∷ (bytes k (v / 256) ++ after)) 1 ∙ value_bytes k (v / 256) after (omega (arith, pow-suc 256 k)) in
    rw rest (omega arith)

-- the number in k bytes has just those bytes
pub bytes_value : (k : ℕ) (s : List ℕ) (place : ℕ) → ((i : ℕ) → get_or s i 0 < 256) → place + k ≤ length s
    → bytes k (value_at k s place) ≡ take k (drop place s)
unfolding value_at bytes
bytes_value zero s place small h = refl
bytes_value (suc k) s place small h =
    let b : ℕ = get_or s place 0 in
    let n : ℕ = value_at k s (place + 1) in
    let low : (b + 256 * n) % 256 ≡ b = omega (arith, small place) in
    let high : (b + 256 * n) / 256 ≡ n = omega (arith, small place) in
    rw (low, high, bytes_value k s (place + 1) small (omega arith), add-one place, drop-cons s place 0 (omega arith))

-- how many bytes fields take
abbrev pub total : List ℕ → ℕ
total [] = 0
total (w ∷ ws) = w + total ws

pub fields_drop : (ws s : List ℕ) (place : ℕ) → fields_at ws s place ≡ fields_at ws (drop place s) 0
unfolding fields_at
fields_drop [] s place = refl
fields_drop (w ∷ ws) s place =
    ap₂ ◌∷◌ (value_drop w s place) (fields_drop ws s (place + w) ∙ rw (← drop-drop, zero-add w) (sym (fields_drop ws (drop place s) w)))

pub fields_before : (ws s more : List ℕ) (place : ℕ) → place + total ws ≤ length s → fields_at ws (s ++ more) place ≡ fields_at ws s place
unfolding fields_at
fields_before [] s more place h = refl
fields_before (w ∷ ws) s more place h = ap₂ ◌∷◌ (value_before w s more place (omega arith)) (fields_before ws s more (place + w) (omega arith))

-- fields are read of their own bytes alone
pub fields_taken : (ws s : List ℕ) (place n : ℕ) → n ≡ total ws → place + n ≤ length s → fields_at ws (take n (drop place s)) 0 ≡ fields_at ws s place
fields_taken ws s place n e h =
    let rest : List ℕ = drop place s in
    sym (fields_before ws (take n rest) (drop n rest) 0 (omega (arith, length-take-le n rest (omega (arith, length-drop place s)), length-drop place s)))
    ∙ ap (λ (l : List ℕ). fields_at ws l 0) (take-append-drop n rest)
    ∙ sym (fields_drop ws s place)

-- fields are read one after the other, each from the front of what the one before leaves
pub fields_next : (w : ℕ) (ws s : List ℕ) → fields_at (w ∷ ws) s 0 ≡ value_at w s 0 ∷ fields_at ws (drop w s) 0
unfolding fields_at
fields_next w ws s = ap (λ (l : List ℕ). value_at w s 0 ∷ l) (rw zero-add (fields_drop ws s w))

-- fields that were put are read, whatever follows
pub fields_bytes : (ws vs after : List ℕ) → Fit ws vs → fields_at ws (field_bytes ws vs ++ after) 0 ≡ vs
unfolding fields_at field_bytes
fields_bytes [] [] after h = refl
fields_bytes [] (v ∷ vs) after h = elim h [ ]
fields_bytes (w ∷ ws) [] after h = elim h [ ]
fields_bytes (w ∷ ws) (v ∷ vs) after h =
    let rest : List ℕ = field_bytes ws vs ++ after in
    rw (append_assoc (bytes w v) (field_bytes ws vs) after, zero-add w)
    (ap₂ ◌∷◌ (value_bytes w v rest h.0)
    (fields_drop ws (bytes w v ++ rest) w ∙ rw (drop_at (bytes w v) rest w (bytes_length w v)) (fields_bytes ws vs after h.1)))

-- fields that were read have just those bytes
pub bytes_fields : (ws s : List ℕ) (place : ℕ) → ((i : ℕ) → get_or s i 0 < 256) → place + total ws ≤ length s
    → field_bytes ws (fields_at ws s place) ≡ take (total ws) (drop place s)
unfolding fields_at field_bytes
bytes_fields [] s place small h = refl
bytes_fields (w ∷ ws) s place small h =
    rw (bytes_value w s place small (omega arith), bytes_fields ws s (place + w) small (omega arith), take-add w (total ws) (drop place s), drop-drop)
