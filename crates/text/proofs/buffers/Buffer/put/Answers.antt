use Rattle.std.proofs.Common.{◌≡◌, ◌∙◌, ◌++◌, ◌≤◌, ℕ, List, ap, length, length-take-le, take, sym, arith}
use Rattle.text.proofs.SliceLaws.{put_behind}
use Rattle.text.proofs.buffers.Buffer.put.Goals as goal

pub returns : goal.returns
returns g c =
    let b = c.self.inside in
    let view : take b.len b.room ≡ c.args.self.now = c.self.view_is in
    let within : b.len ≤ length b.room = omega (arith, c.self.told, c.self.invariant) in
    let count : length c.args.self.now ≡ b.len = ap length (sym view) ∙ length-take-le b.len b.room within in
    rw c.put_bytes-end.ensures.bytes
    (put_behind b.room c.args.bytes.now _ b.len _ (omega arith) (omega (arith, c.put_bytes-end.ensures.next)) (omega (arith, c.requires, count, c.self.told)) ∙ ap (λ (l : List ℕ). l ++ c.args.bytes.now) view)
