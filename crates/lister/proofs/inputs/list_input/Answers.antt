use Rattle.std.proofs.Common.{◌≡◌, length, sym, ap, ◌∙◌, arith}
use Rattle.text.specs.declared.streams.Input.{Input}
use Rattle.text.specs.declared.streams.Output.{Output}
use Rattle.lister.specs.Lines.{header}
use Rattle.lister.proofs.BeginLaws.{header_not_written, nothing_read}
use Rattle.lister.proofs.inputs.list_input.Goals as goal

pub returns-then-not-is_written : goal.returns-then-not-is_written
returns-then-not-is_written g c =
    let sent : c.write_out.new.self.total ≡ length header = omega (arith, ap (λ (o : Output). o.total) c.unwritten-output.ensures, c.write_out.ensures, ap length c.header.ensures) in
    rw c.new.ensures (header_not_written _ _ (ap (λ (i : Input). i.total) c.unread-input.ensures) sent (sym c.is_written.ensures ∙ c.if-not-is_written.true))

pub returns-then-len-eq0 : goal.returns-then-len-eq0
returns-then-len-eq0 g c =
    let sent : c.write_out.new.self.total ≡ length header = omega (arith, ap (λ (o : Output). o.total) c.unwritten-output.ensures, c.write_out.ensures, ap length c.header.ensures) in
    let none : length c.read_more.new.block ≡ 0 = omega (arith, c.len.ensures.count, c.if-len-eq0.true) in
    let u : c.unread-input.result.total ≡ 0 = ap (λ (i : Input). i.total) c.unread-input.ensures in
    let f = c.read_more.ensures in
    rw c.new-then-len-eq0.ensures (rw c.why_ended.ensures (nothing_read _ _ (omega (arith, u, f.counted, none)) sent _ f.came (omega (arith, none)) (sym c.is_written.ensures ∙ c.if-not-is_written.false)))
