-- An answer is accepted where its number is 0.
use mathlib.Core.Path.{◌≡◌, refl}
use mathlib.Core.Bool.{not}
use borrow.Author.Tests.{eqb-false}
use lib.Dec.{eqb}
use Rattle.std.proofs.Common.{Ok, Err, is_err, is_ok}
use Rattle.book.specs.declared.answers.Refusal.{Refusal}
use Rattle.book.specs.declared.answers.Refusal.TheVariants as refusal
use Rattle.book.specs.rules.Answers.{Answer, number_of}

pub number_test : (a : Answer) → eqb (number_of a) 0 ≡ not (is_err a)
number_test (Ok _) = refl
number_test (Err refusal.Outside) = refl
number_test (Err refusal.NoParticipants) = refl
number_test (Err refusal.FewWords) = refl
number_test (Err refusal.NotAbove) = refl
number_test (Err refusal.Full) = refl
number_test (Err refusal.NotInBook) = refl
number_test (Err refusal.WrongStage) = refl
number_test (Err refusal.Unequal) = refl
number_test (Err refusal.PastBound) = refl
number_test (Err refusal.NotAParticipant) = refl
number_test (Err refusal.TooMuch) = refl
number_test (Err refusal.EarlierArrears) = refl
number_test (Err refusal.PursePastBound) = refl
number_test (Err refusal.Misdated) = refl

pub refusal_number : (why : Refusal) → number_of (Err why) ≡ 0 → ⊥
refusal_number why = eqb-false _ _ (number_test (Err why))

pub ok_test : (a : Answer) → eqb (number_of a) 0 ≡ is_ok a
ok_test (Ok _) = refl
ok_test (Err why) = number_test (Err why)
