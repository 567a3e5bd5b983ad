use Rattle.book.specs.layouts.Entries.{entry_of}
use Rattle.book.proofs.layouts.FieldLaws.{fields_next}
use Rattle.book.proofs.reader.washup.Goals as goal

pub returns : goal.returns
unfolding entry_of
returns c = simp fields_next (cc)
