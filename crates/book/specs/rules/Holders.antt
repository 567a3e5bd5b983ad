-- What holds a book: the answer of a making, that of an entry, and what a run leaves. The fields of each and its record: neither has
-- more than the other.
use Rattle.book.specs.rules.Answers.{MadeRecord, AppliedRecord}
use Rattle.book.specs.rules.Records.{RanRecord}
use Rattle.book.specs.declared.makings.Made.TheInside as made
use Rattle.book.specs.declared.steps.Applied.TheInside as applied
use Rattle.book.specs.declared.blocks.Ran.TheInside as ran

abbrev pub made_of : made.Inside → MadeRecord
made_of m = record { answer = m.answer; book = m.book }

abbrev pub made_inside : MadeRecord → made.Inside
made_inside m = record { answer = m.answer; book = m.book }

abbrev pub applied_of : applied.Inside → AppliedRecord
applied_of a = record { answer = a.answer; rounds = a.rounds; book = a.book }

abbrev pub applied_inside : AppliedRecord → applied.Inside
applied_inside a = record { answer = a.answer; rounds = a.rounds; book = a.book }

abbrev pub ran_of : ran.Inside → RanRecord
ran_of r = record { book = r.book; place = r.place; wrote = r.wrote }

abbrev pub ran_inside : RanRecord → ran.Inside
ran_inside r = record { book = r.book; place = r.place; wrote = r.wrote }
