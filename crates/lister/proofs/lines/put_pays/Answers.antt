use Rattle.std.proofs.Common.{append-nil, append_assoc, add-one, sym, arith}
use Rattle.lister.specs.Lines.{pay_lines}
use Rattle.lister.proofs.lines.put_pays.Goals as goal

pub loop-i-init : goal.loop-i-init
unfolding pay_lines
loop-i-init c = (sym (append-nil c.args.out.now), omega arith)

pub loop-i-preserved : goal.loop-i-preserved
unfolding pay_lines
loop-i-preserved c =
    let l = c.loop-i in
    let p = c.put_pay in
    (rw (add-one l.i) (simp (p.ensures.puts, l.invariant.0, append_assoc)), omega (arith, p.ensures.upper_bound, l.invariant.1))
