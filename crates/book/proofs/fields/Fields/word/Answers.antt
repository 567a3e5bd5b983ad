use mathlib.Core.Path.{◌∙◌}
use Rattle.book.proofs.layouts.FieldLaws.{word_taken}
use Rattle.book.proofs.fields.Fields.word.Goals as goal

pub returns : goal.returns
returns c = (c.from_le_bytes.ensures ∙ rw c.take.ensures.0 (word_taken c.args.self.now.rest.now c.requires), c.take.ensures.1)
