use mathlib.Core.Path.{◌∙◌}
use Rattle.book.proofs.layouts.FieldLaws.{byte_taken}
use Rattle.book.proofs.fields.Fields.byte.Goals as goal

pub returns : goal.returns
returns c = (c.from_le_bytes.ensures ∙ rw c.take.ensures.0 (byte_taken c.args.self.now.rest.now c.requires), c.take.ensures.1)
