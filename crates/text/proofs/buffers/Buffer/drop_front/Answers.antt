use Rattle.std.proofs.Common.{◌≤◌, ◌∙◌, ap, length, drop, arith}
use Rattle.text.proofs.SliceLaws.{kept_front}
use Rattle.text.proofs.buffers.Buffer.drop_front.Goals as goal

pub returns : goal.returns
returns g c =
    let b = c.self.inside in
    let within : b.len ≤ length b.room = omega (arith, c.self.told, c.self.invariant) in
    rw (c.keep-self-inside.ensures.moved, c.keep-self-inside.ensures.count) (kept_front b.room c.args.count b.len within ∙ ap (drop c.args.count) c.self.view_is)
