-- What entering an entry in the book comes to, as the rules have it.
use Rattle.std.specs.Prelude.{ℕ, ◌≡◌, List, Result, Ok, Err}
use Rattle.book.specs.rules.Refusals.{Input}
use Rattle.book.specs.rules.Step.{Reply, reply, paid_by}
use Rattle.book.specs.rules.Answers.{number_of}
use Rattle.book.specs.declared.answers.Refusal.{Refusal}
use Rattle.book.specs.declared.steps.Accepted.{Accepted}
use Rattle.book.specs.declared.Book.{Book}

-- the reply, with the book and the payout words as they are left
abbrev pub reply_of : Result Accepted Refusal → Book → List ℕ → Reply
reply_of (Ok r) b words = record { answer = 0; rounds = r.rounds; book = b; words = words }
reply_of (Err why) b words = record { answer = number_of (Err why); rounds = 0; book = b; words = words }

-- the cents that it paid
abbrev pub paid_of : Result Accepted Refusal → ℕ
paid_of (Ok r) = r.paid
paid_of (Err why) = 0

-- an entry was entered in the book b, and this is what it answered and left
abbrev pub Enters : Book → Input → Result Accepted Refusal → Book → List ℕ → Type 0
Enters b x r after words = (reply_of r after words ≡ reply b x) × (paid_of r ≡ paid_by b.n (reply b x))
