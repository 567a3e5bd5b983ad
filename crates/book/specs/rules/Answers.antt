-- How the book's answers read: 01's and 02's number for each, and the values of the answer to an entry.
use Rattle.std.specs.Prelude.{ℕ, List, Result, Ok, Err}
use Rattle.book.specs.rules.Records.{BookRecord}
use Rattle.book.specs.rules.Step.{Reply}
use Rattle.book.specs.declared.answers.Refusal.{Refusal}
use Rattle.book.specs.declared.answers.Refusal.TheVariants.{Outside, NoParticipants, FewWords, NotAbove, Full, NotInBook, WrongStage, Unequal, PastBound, NotAParticipant, TooMuch, EarlierArrears, PursePastBound, Misdated}

-- acceptance, or why an entry or a making is refused
abbrev pub Answer : Type 0
Answer = Result (Unit {0}) Refusal

abbrev pub number_of : Answer → ℕ
number_of (Ok _) = 0
number_of (Err Outside) = 3
number_of (Err NoParticipants) = 4
number_of (Err FewWords) = 5
number_of (Err NotAbove) = 6
number_of (Err Full) = 7
number_of (Err NotInBook) = 8
number_of (Err WrongStage) = 9
number_of (Err Unequal) = 10
number_of (Err PastBound) = 11
number_of (Err NotAParticipant) = 12
number_of (Err TooMuch) = 13
number_of (Err EarlierArrears) = 14
number_of (Err PursePastBound) = 15
number_of (Err Misdated) = 16

-- what the making of a book answers, and what an entry does, as contracts see them
pub record MadeRecord : Type 0 where
  pub answer : Answer
  pub book : BookRecord

pub record AppliedRecord : Type 0 where
  pub answer : Answer
  pub rounds : ℕ
  pub book : BookRecord

-- the answer to an entry, with the payout words as it leaves them
abbrev pub replied : AppliedRecord → List ℕ → Reply
replied r words = record { answer = number_of r.answer; rounds = r.rounds; book = r.book; words = words }
