-- Reading and writing undo each other, by the laws of fields and of layouts.
use mathlib.Core.Path.{◌≡◌, refl, ap, ◌∙◌}
use mathlib.Core.Bool.{Bool, true, false, cond, not}
use mathlib.Core.List.{List, [], ◌∷◌, ◌++◌, append_assoc}
use Prim.Native.Nat.{ℕ, suc, ◌+◌, ◌-◌, ◌≤◌, ◌<◌}
use native.Mathlib.Numerals.{add-one}
use native.Mathlib.Omega.{arith}
use borrow.Author.Tests.{lt-leb, le-ltb, eqb-true, eqb-false, ltb-false, not-false}
use lib.Dec.{eqb, ltb, leb}
use lib.ListN.{get_or, length, take, drop, length-append}
use lib.Seq.{take_at, drop_at, get_or_at, drop-drop, drop-cons}
use Rattle.book.specs.Checks.{refusal}
use Rattle.book.specs.layouts.Fields.{field_bytes, Fit}
use Rattle.book.specs.layouts.Entries.{body_length, unknown, layout, kind_of, fields_of, bytes_of, size}
use Rattle.book.specs.layouts.Allowed.{allowed}
use Rattle.book.specs.layouts.Reading.{ReadOutcome, kind_at, next_place, entry_at, read_checks, reading}
use Rattle.book.specs.layouts.Writing.{WriteOutcome, write_checks, writing, written}
use Rattle.book.specs.layouts.RoundTrips.{WrittenThenRead, ReadThenWritten}
use Rattle.book.specs.declared.entries.Entry.{Entry}
use Rattle.book.proofs.rules.CheckLaws.{all_pass}
use Rattle.book.proofs.layouts.FieldLaws.{total, fields_drop, fields_bytes, bytes_fields}
use Rattle.book.proofs.layouts.EntryLaws.{kind_known, entry_again, kind_again, fields_again, layout_total, bytes_size}

-- an entry written between other bytes
module _ (e : Entry) (before after : List ℕ) where
  abbrev whole : List ℕ
  whole = before ++ bytes_of e ++ after

  abbrev place : ℕ
  place = length before

  abbrev body : List ℕ
  body = field_bytes (layout (kind_of e)) (fields_of e) ++ after

  whole_parts : whole ≡ before ++ (kind_of e ∷ body)
  unfolding bytes_of
  whole_parts = append_assoc before (bytes_of e) after

  kind_there : kind_at whole place ≡ kind_of e
  kind_there = rw whole_parts (get_or_at before (kind_of e) body 0 place refl)

  body_there : drop (place + 1) whole ≡ body
  body_there = rw (whole_parts, ← drop-drop, drop_at before (kind_of e ∷ body) place refl)

  next_there : next_place whole place ≡ place + size e
  next_there = rw kind_there (omega arith)

  length_there : length whole ≡ place + size e + length after
  length_there = omega (arith, length-append (before ++ bytes_of e) after, length-append before (bytes_of e), bytes_size e)

  entry_there : Fit (layout (kind_of e)) (fields_of e) → entry_at whole place ≡ e
  unfolding entry_at
  entry_there f =
      rw (kind_there, fields_drop (layout (kind_of e)) whole (place + 1), body_there, fields_bytes (layout (kind_of e)) (fields_of e) after f) (entry_again e)

-- the bytes of an allowed entry are read as the entry
bytes_read : (e : Entry) (before after : List ℕ) → allowed e ≡ true → Fit (layout (kind_of e)) (fields_of e)
    → reading (before ++ bytes_of e ++ after) (length before) ≡ record { answer = 0; place = length before + size e; entry = e ∷ [] }
unfolding reading
bytes_read e before after a f =
    let s : List ℕ = before ++ bytes_of e ++ after in
    let at : ℕ = length before in
    let same : entry_at s at ≡ e = entry_there e before after f in
    let next : next_place s at ≡ at + size e = next_there e before after in
    let some : leb (length s) at ≡ false = lt-leb (length s) at (omega (arith, length_there e before after)) in
    let known : unknown (kind_at s at) ≡ false = rw (kind_there e before after) (kind_known e) in
    let room : ltb (length s) (next_place s at) ≡ false = le-ltb (length s) (next_place s at) (omega (arith, length_there e before after)) in
    let fits : not (allowed (entry_at s at)) ≡ false = rw (same, a) in
    let passed : refusal (read_checks s at) ≡ 0 = rw (some, known, room, fits) in
    rw (passed, next, same)

-- an entry that the writer takes is allowed, and its bytes stand in front of those that were lent
module _ (e : Entry) (out : List ℕ) where
  taken : (n : ℕ) → writing e (length out) ≡ record { answer = 0; count = n }
      → (refusal (write_checks e (length out)) ≡ 0) × (size e ≡ n)
  unfolding writing
  taken n h = go (eqb (refusal (write_checks e (length out))) 0) refl h
    where
      go : (t : Bool) → eqb (refusal (write_checks e (length out))) 0 ≡ t
          → ◌≡◌ {A = WriteOutcome}
          (cond t (record { answer = 0; count = size e }) (record { answer = refusal (write_checks e (length out)); count = 0 }))
          (record { answer = 0; count = n })
          → (refusal (write_checks e (length out)) ≡ 0) × (size e ≡ n)
      go true q k = (eqb-true _ _ q, ap (λ (r : WriteOutcome). r.count) k)
      go false q k = absurd (eqb-false _ _ q (ap (λ (r : WriteOutcome). r.answer) k))

  in_front : refusal (write_checks e (length out)) ≡ 0 → written e out ≡ bytes_of e ++ drop (size e) out
  unfolding written
  in_front h = rw h

  room_for : allowed e ≡ true → size e ≤ length out → refusal (write_checks e (length out)) ≡ 0
  room_for a h = rw (a, le-ltb (length out) (size e) h)

pub written_then_read : WrittenThenRead
written_then_read e out before after n f h =
    let t = taken e out n h in
    let a : allowed e ≡ true = not-false (allowed e) (all_pass (write_checks e (length out)) refl t.0).0 in
    rw (in_front e out t.0, ← t.1, take_at (bytes_of e) (drop (size e) out) (size e) (bytes_size e)) (bytes_read e before after a f)

-- what holds where an entry was read
module _ (s : List ℕ) (place : ℕ) where
  accepted : (next : ℕ) (e : Entry) → reading s place ≡ record { answer = 0; place = next; entry = e ∷ [] }
      → (refusal (read_checks s place) ≡ 0) × (next_place s place ≡ next) × (entry_at s place ≡ e)
  unfolding reading
  accepted next e h = go (eqb (refusal (read_checks s place)) 0) _ refl refl h
    where
      go : (t : Bool) (refused : ReadOutcome) → refused.entry ≡ [] → eqb (refusal (read_checks s place)) 0 ≡ t
          → cond t (record { answer = 0; place = next_place s place; entry = entry_at s place ∷ [] }) refused
          ≡ record { answer = 0; place = next; entry = e ∷ [] }
          → (refusal (read_checks s place) ≡ 0) × (next_place s place ≡ next) × (entry_at s place ≡ e)
      go true refused bare q k = (eqb-true _ _ q, ap (λ (r : ReadOutcome). r.place) k, ap (λ (r : ReadOutcome). get_or r.entry 0 e) k)
      go false refused bare q k = absurd (omega (arith, ap length bare, ap (λ (r : ReadOutcome). length r.entry) k))

  bytes_again : ((i : ℕ) → get_or s i 0 < 256) → unknown (kind_at s place) ≡ false → next_place s place ≤ length s
      → bytes_of (entry_at s place) ≡ take (next_place s place - place) (drop place s)
  unfolding bytes_of entry_at
  bytes_again small known room =
      let kind : ℕ = kind_at s place in
      let n : total (layout kind) ≡ body_length kind = layout_total kind known in
      let m : next_place s place - place ≡ suc (body_length kind) = omega arith in
      rw (
        kind_again s (place + 1) kind known,
        fields_again s (place + 1) kind known,
        bytes_fields (layout kind) s (place + 1) small (omega arith),
        n,
        m,
        add-one place,
        drop-cons s place 0 (omega arith),
      )

  size_there : unknown (kind_at s place) ≡ false → size (entry_at s place) ≡ next_place s place - place
  unfolding entry_at
  size_there known = rw (kind_again s (place + 1) (kind_at s place) known) (omega arith)

pub read_then_written : ReadThenWritten
unfolding writing
read_then_written s out place next e small h room =
    let r = accepted s place next e h in
    let passed = all_pass (read_checks s place) refl r.0 in
    let known = passed.1.0 in
    let whole = passed.1.1.0 in
    let fits = passed.1.1.1.0 in
    let a : allowed e ≡ true = rw r.2 at (not-false (allowed (entry_at s place)) fits) in
    let n : size e ≡ next - place = rw (r.1, r.2) at (size_there s place known) in
    let same = rw (r.1, r.2) at (bytes_again s place small known (ltb-false _ _ whole)) in
    let room_left = room_for e out a (omega arith) in
    (rw (room_left, n), in_front e out room_left ∙ rw (same, n))
