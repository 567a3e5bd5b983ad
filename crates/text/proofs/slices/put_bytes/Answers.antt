use Rattle.std.proofs.Common.{arith}
use Rattle.text.proofs.SliceLaws.{put_part}
use Rattle.text.proofs.slices.put_bytes.Goals as goal

pub returns : goal.returns
returns c = record { bytes = put_part c.args.out.now c.args.bytes.now _ _ c.args.place _ (omega arith) c.requires (omega arith) c.copy_from_slice.ensures.after; next = omega arith }
