use Rattle.std.proofs.Common.{◌≡◌, ◌∙◌, take, append_assoc}
use Rattle.text.specs.Numbers.{decimal}
use Rattle.text.proofs.NumberLaws.{decimal_is}
use Rattle.text.proofs.buffers.Buffer.put_number.Goals as goal

pub returns-clause-puts : goal.returns-clause-puts
returns-clause-puts g c =
    let e : take c.decimal-k.result c.decimal-k.new.out ≡ decimal c.args.number =
    c.decimal-k.ensures.digits ∙ decimal_is c.args.number c.decimal-k.result c.ranges.number.fits c.decimal-k.ensures.len in
    simp (c.put_byte.ensures, c.put.ensures, e, append_assoc)
