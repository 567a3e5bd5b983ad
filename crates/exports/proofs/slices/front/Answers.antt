use borrow.Author.Rules.{rules}
use Rattle.exports.specs.Slices.{front}
use Rattle.exports.proofs.slices.front.Goals as goal

pub returns : goal.returns
unfolding front
returns c = search rules
