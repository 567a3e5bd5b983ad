use Rattle.lister.proofs.LineLaws.{last_none, last_some}
use Rattle.lister.proofs.runs.last_paid.Goals as goal

pub returns-in_default : goal.returns-in_default
returns-in_default c = last_none c.args.lines.now c.in_default.len_below

pub returns-in-len2-up : goal.returns-in-len2-up
returns-in-len2-up c = last_some c.args.lines.now c.requires c.in-len2-up.len_at_least
