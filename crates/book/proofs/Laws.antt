-- The theorems about the book, and all that a crate above may use of its definitions.

-- reading and writing undo each other, and each answer has a number of its own
pub use Rattle.book.proofs.layouts.RoundTrips.{written_then_read, read_then_written}
pub use Rattle.book.proofs.layouts.Outcomes.{read_one_to_one, write_one_to_one, number_one_to_one}
-- no kind passes by the checks; every book that is handed back is valid, and there is a place for each participant; refusals; rounds
pub use Rattle.book.proofs.rules.KindLaws.{every_kind}
pub use Rattle.book.proofs.rules.ValidLaws.{stays_valid, refusal_changes_nothing, rounds_of_settlements}
pub use Rattle.book.proofs.rules.LimitLaws.{many_places}
-- washups
pub use Rattle.book.proofs.rules.WashupLaws.{there_and_back, nothing_added}
-- what a book is made with
pub use Rattle.book.proofs.rules.MakingLaws.{refused_book, same_books, separate_books}
-- a book whose limits are not below those of another pays what that one pays, where that one accepts all
pub use Rattle.book.proofs.rules.SamePayouts.{same_payouts}
-- demand 3, of entries one after the other and of block runs among them
pub use Rattle.book.proofs.history.Demand3.{demand3}
pub use Rattle.book.proofs.runs.BlockRuns.{block_runs}
-- reading in a part of the bytes
pub use Rattle.book.proofs.layouts.ReadLaws.{onward, reading_front, reading_before, read_within, reading_empty, none_answer, short_few}
-- the answers where nothing can be read, and those to an entry that was read
pub use Rattle.book.proofs.layouts.ReadLaws.{unread_answer, read_allowed}
pub use Rattle.book.proofs.rules.ValidLaws.{reply_answer}
-- the payout words that an entry is lent
pub use Rattle.book.proofs.rules.WordLaws.{Alike, alike, alike_paid, paid_accepted, paid_refused}
-- a run, entry by entry
pub use Rattle.book.proofs.runs.RunLaws.{read_or_none, run_full, run_unread, run_read, Ends}
pub use Rattle.book.proofs.runs.RunReplies.{reply_n}
-- examples
pub use Rattle.book.proofs.examples.Months.{examples}
pub use Rattle.book.proofs.examples.Limits.{limit_examples}
pub use Rattle.book.proofs.examples.Purses.{purse_examples}
pub use Rattle.book.proofs.examples.Washups.{washup_examples}
pub use Rattle.book.proofs.examples.Demonstrations.{demonstrations}
