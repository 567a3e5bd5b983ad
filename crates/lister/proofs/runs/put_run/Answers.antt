use Rattle.std.proofs.Common.{◌≢◌, ◌/◌, length, append_assoc, arith}
use Rattle.lister.specs.inner.Runs.{last_paid}
use Rattle.lister.proofs.LineLaws.{run_pays}
use Rattle.lister.proofs.runs.put_run.Goals as goal

pub returns-then-last_paid-ne0 : goal.returns-then-last_paid-ne0
returns-then-last_paid-ne0 c =
    let lines = c.args.lines.now in
    let pays : last_paid lines (length lines / 3) ≢ 0 = omega (arith, c.last_paid.ensures, c.if-last_paid-ne0.true) in
    simp (run_pays c.args.first lines (length lines / 3) c.args.words.now pays, c.put_pays.ensures, c.put_lines.ensures.puts, append_assoc)
