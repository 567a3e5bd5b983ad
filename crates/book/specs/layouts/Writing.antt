-- Writing entries: 01's answers, and what becomes of the lent bytes (01, Entries, and Refused, numbers 3 and 5).
use Rattle.std.specs.Prelude.{ℕ, cond, not, List, [], ◌∷◌, ◌++◌, eqb, ltb, length, drop, Result, Ok, Err}
use Rattle.book.specs.Checks.{Check, on, refusal}
use Rattle.book.specs.layouts.Entries.{bytes_of, size}
use Rattle.book.specs.layouts.Allowed.{allowed}
use Rattle.book.specs.declared.entries.Entry.{Entry}
use Rattle.book.specs.declared.writer.WriteError.{WriteError}
use Rattle.book.specs.declared.writer.WriteError.TheVariants.{Outside, NoRoom}

-- what writing answers: 0 or a refusal's number, and how many bytes were written
pub record WriteOutcome : Type 0 where
  pub answer : ℕ
  pub count : ℕ

-- 3 for a field outside its values, 5 for fewer bytes than the entry needs
abbrev pub write_checks : Entry → ℕ → List Check
write_checks e room = on (not (allowed e)) 3 ∷ on (ltb room (size e)) 5 ∷ []

unfoldable pub writing : Entry → ℕ → WriteOutcome
writing e room =
    cond (eqb (refusal (write_checks e room)) 0)
    (record { answer = 0; count = size e })
    (record { answer = refusal (write_checks e room); count = 0 })

-- the lent bytes afterwards: the entry's from the first on, and no other changed
unfoldable pub written : Entry → List ℕ → List ℕ
written e out = cond (eqb (refusal (write_checks e (length out))) 0) (bytes_of e ++ drop (size e) out) out

-- 01's number for each refusal to write
abbrev pub write_number : WriteError → ℕ
write_number Outside = 3
write_number NoRoom = 5

-- 01's number and values for each answer of the writer
abbrev pub write_outcome : Result ℕ WriteError → WriteOutcome
write_outcome (Ok count) = record { answer = 0; count = count }
write_outcome (Err e) = record { answer = write_number e; count = 0 }
