use Rattle.std.proofs.Common.{arith, refl}
use Rattle.book.proofs.layouts.PutLaws.{put_part}
use Rattle.book.proofs.fields.put.Goals as goal

pub returns : goal.returns
returns c = (put_part c.args.out.now c.args.bytes.now _ c.args.place _ c.requires (omega arith) c.copy_from_slice.ensures.after, refl)
