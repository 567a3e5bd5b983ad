use mathlib.Core.Path.{◌∙◌}
use Rattle.book.proofs.layouts.FieldLaws.{long_taken}
use Rattle.book.proofs.fields.Fields.long.Goals as goal

pub returns : goal.returns
returns c = (c.from_le_bytes.ensures ∙ rw c.take.ensures.0 (long_taken c.args.self.now.rest.now c.requires), c.take.ensures.1)
