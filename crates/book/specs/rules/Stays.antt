-- What stays true of every book, and of every answer.
use Rattle.std.specs.Prelude.{◌≡◌, false}
use Rattle.book.specs.rules.Kinds.{is_settle}
use Rattle.book.specs.rules.State.{pack}
use Rattle.book.specs.rules.Makings.{made}
use Rattle.book.specs.rules.Refusals.{Input}
use Rattle.book.specs.rules.Step.{reply}
use Rattle.book.specs.rules.Valid.{Valid}
use Rattle.book.specs.declared.makings.Making.{Making}
use Rattle.book.specs.declared.Book.{Book}

-- a book just made is valid, and so is every book that an entry leaves
pub record StaysValid : Type 0 where
  pub first : (m : Making) → Valid (pack (made m).state)
  pub next : (b : Book) (x : Input) → Valid b → Valid (reply b x).book

-- a refused entry leaves the book and the payout words as they were
abbrev pub RefusalChangesNothing : Type 0
RefusalChangesNothing = (b : Book) (x : Input) → Valid b → ((reply b x).answer ≡ 0 → ⊥) → ((reply b x).book ≡ b) × ((reply b x).words ≡ x.words)

-- rounds are 0 in every answer but an accepted settlement's
pub record RoundsOfSettlements : Type 0 where
  pub refused : (b : Book) (x : Input) → ((reply b x).answer ≡ 0 → ⊥) → (reply b x).rounds ≡ 0
  pub others : (b : Book) (x : Input) → is_settle x.entry ≡ false → (reply b x).rounds ≡ 0
