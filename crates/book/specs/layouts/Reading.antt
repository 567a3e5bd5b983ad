-- Reading entries: 01's answers, and what becomes of the place (01, Entries, and Refused, numbers 1 to 3).
use Rattle.std.specs.Prelude.{ℕ, ◌+◌, cond, not, List, [], ◌∷◌, eqb, ltb, leb, get_or, length, Result, Ok, Err}
use Rattle.book.specs.Checks.{Check, on, refusal}
use Rattle.book.specs.layouts.Fields.{fields_at}
use Rattle.book.specs.layouts.Entries.{body_length, unknown, layout, entry_of}
use Rattle.book.specs.layouts.Allowed.{allowed}
use Rattle.book.specs.declared.entries.Entry.{Entry}
use Rattle.book.specs.declared.reader.Found.{Found}
use Rattle.book.specs.declared.reader.ReadError.{ReadError}
use Rattle.book.specs.declared.reader.ReadError.TheVariants.{Short, Unknown, Outside}

-- what reading answers: 0 or a refusal's number, the place of the next entry, and the entry, if there is one
pub record ReadOutcome : Type 0 where
  pub answer : ℕ
  pub place : ℕ
  pub entry : List Entry

-- reading at a place of the bytes s
module _ (s : List ℕ) (place : ℕ) where
  abbrev pub kind_at : ℕ
  kind_at = get_or s place 0

  abbrev pub next_place : ℕ
  next_place = place + 1 + body_length kind_at

  unfoldable pub entry_at : Entry
  entry_at = entry_of kind_at (fields_at (layout kind_at) s (place + 1))

  -- 1 for no byte, 2 for an unknown kind, 1 for fewer bytes than the body needs, 3 for a field outside its values
  abbrev pub read_checks : List Check
  read_checks =
      on (leb (length s) place) 1
      ∷ on (unknown kind_at) 2
      ∷ on (ltb (length s) next_place) 1
      ∷ on (not (allowed entry_at)) 3
      ∷ []

  unfoldable pub reading : ReadOutcome
  reading =
      cond (eqb (refusal read_checks) 0)
      (record { answer = 0; place = next_place; entry = entry_at ∷ [] })
      (record { answer = refusal read_checks; place = place; entry = [] })

-- 01's number for each refusal to read
abbrev pub read_number : ReadError → ℕ
read_number Short = 1
read_number Unknown = 2
read_number Outside = 3

-- 01's number and values for each answer of the reader at a place: a refusal leaves the place
abbrev pub read_outcome : ℕ → Result Found ReadError → ReadOutcome
read_outcome place (Ok found) = record { answer = 0; place = found.next; entry = found.entry ∷ [] }
read_outcome place (Err e) = record { answer = read_number e; place = place; entry = [] }

-- what is done with the entry that was read, or where none was
abbrev pub on_entry : {A : Type 0} → List Entry → (Entry → A) → A → A
on_entry [] next stop = stop
on_entry (e ∷ l) next stop = next e
