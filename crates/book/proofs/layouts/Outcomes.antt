-- 01's number and values tell the answers of reader, writer and book apart: each answer can be made again from them.
use Prim.Native.Nat.{ℕ}
use mathlib.Core.Path.{◌≡◌, refl, sym, ap, ◌∙◌}
use mathlib.Core.Bool.{cond}
use mathlib.Core.List.{List, [], ◌∷◌}
use Rattle.std.specs.Prelude.{Result, Ok, Err}
use lib.Dec.{eqb}
use lib.ListN.{get_or}
use Rattle.book.specs.rules.Answers.{Answer, number_of}
use Rattle.book.specs.layouts.Reading.{ReadOutcome, read_outcome}
use Rattle.book.specs.layouts.Writing.{WriteOutcome, write_outcome}
use Rattle.book.specs.declared.answers.Refusal.TheVariants as refusal
use Rattle.book.specs.declared.entries.Entry.TheVariants.{Open}
use Rattle.book.specs.declared.reader.Found.{Found}
use Rattle.book.specs.declared.reader.ReadError.{ReadError}
use Rattle.book.specs.declared.reader.ReadError.TheVariants as read
use Rattle.book.specs.declared.writer.WriteError.{WriteError}
use Rattle.book.specs.declared.writer.WriteError.TheVariants as write

abbrev reading_of : ReadOutcome → Result Found ReadError
reading_of o =
    cond (eqb o.answer 0) (Ok (record { entry = get_or o.entry 0 (Open 0); next = o.place }))
    (Err (cond (eqb o.answer 1) read.Short (cond (eqb o.answer 2) read.Unknown read.Outside)))

read_again : (place : ℕ) (r : Result Found ReadError) → reading_of (read_outcome place r) ≡ r
read_again place (Ok found) = refl
read_again place (Err read.Short) = refl
read_again place (Err read.Unknown) = refl
read_again place (Err read.Outside) = refl

pub read_one_to_one : (place : ℕ) (a b : Result Found ReadError) → read_outcome place a ≡ read_outcome place b → a ≡ b
read_one_to_one place a b e = sym (read_again place a) ∙ ap reading_of e ∙ read_again place b

-- no entry, where none was found
pub not_found : (place : ℕ) (a : Result Found ReadError) → ((found : Found) → a ≡ Ok found → ⊥) → (read_outcome place a).entry ≡ []
not_found place (Ok found) other = absurd (other found refl)
not_found place (Err e) other = refl

abbrev writing_of : WriteOutcome → Result ℕ WriteError
writing_of o = cond (eqb o.answer 0) (Ok o.count) (Err (cond (eqb o.answer 3) write.Outside write.NoRoom))

write_again : (r : Result ℕ WriteError) → writing_of (write_outcome r) ≡ r
write_again (Ok count) = refl
write_again (Err write.Outside) = refl
write_again (Err write.NoRoom) = refl

pub write_one_to_one : (a b : Result ℕ WriteError) → write_outcome a ≡ write_outcome b → a ≡ b
write_one_to_one a b e = sym (write_again a) ∙ ap writing_of e ∙ write_again b

-- the book's answers by their numbers; 1 and 2 are the reader's
abbrev answer_list : List Answer
answer_list =
    Ok tt ∷ Ok tt ∷ Ok tt
    ∷ Err refusal.Outside ∷ Err refusal.NoParticipants ∷ Err refusal.FewWords ∷ Err refusal.NotAbove ∷ Err refusal.Full ∷ Err refusal.NotInBook ∷ Err refusal.WrongStage ∷ Err refusal.Unequal ∷ Err refusal.PastBound ∷ Err refusal.NotAParticipant ∷ Err refusal.TooMuch ∷ Err refusal.EarlierArrears ∷ Err refusal.PursePastBound ∷ Err refusal.Misdated ∷ []

number_again : (a : Answer) → get_or answer_list (number_of a) (Ok tt) ≡ a
number_again (Ok _) = refl
number_again (Err refusal.Outside) = refl
number_again (Err refusal.NoParticipants) = refl
number_again (Err refusal.FewWords) = refl
number_again (Err refusal.NotAbove) = refl
number_again (Err refusal.Full) = refl
number_again (Err refusal.NotInBook) = refl
number_again (Err refusal.WrongStage) = refl
number_again (Err refusal.Unequal) = refl
number_again (Err refusal.PastBound) = refl
number_again (Err refusal.NotAParticipant) = refl
number_again (Err refusal.TooMuch) = refl
number_again (Err refusal.EarlierArrears) = refl
number_again (Err refusal.PursePastBound) = refl
number_again (Err refusal.Misdated) = refl

pub number_one_to_one : (a b : Answer) → number_of a ≡ number_of b → a ≡ b
number_one_to_one a b e = sym (number_again a) ∙ ap (λ (k : ℕ). get_or answer_list k (Ok tt)) e ∙ number_again b
