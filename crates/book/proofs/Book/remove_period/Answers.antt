use Prim.Native.Nat.{◌-◌, ◌<◌}
use mathlib.Core.Path.{sym, subst}
use native.Mathlib.Omega.{arith}
use Rattle.std.proofs.lemmas.Slice.{put_mid-rotated}
use Rattle.book.specs.rules.State.{no_period}
use Rattle.book.specs.rules.Valid.{Valid}
use Rattle.book.specs.rules.Insides.{record_of}
use Rattle.book.proofs.records.Packing.{count_is, count_few, dropped}
use Rattle.book.proofs.rules.ValidLaws.{removed_fit, pack_valid}
use Rattle.book.proofs.Book.remove_period.Goals as goal

pub offset_bounds-self-inside-j : goal.offset_bounds-self-inside-j
offset_bounds-self-inside-j c =
    let r = rw (← c.self.view_is) at c.requires in
    omega (arith, count_is c.self.invariant, count_few c.self.invariant, r.0)

pub invariant_of-self : goal.invariant_of-self
invariant_of-self c =
    let b = record_of c.self.inside in
    let v = c.self.invariant in
    let r = rw (← c.self.view_is) at c.requires in
    let j = c.args.j in
    let used : j < b.count = omega (arith, count_is v, r.0) in
    rw (
      put_mid-rotated j (12 - j) b.periods c.rotate_left.new.self no_period (omega (arith, count_few v)) (omega (arith, count_few v)) c.rotate_left.ensures.after,
      c.fresh.ensures,
    )
    (subst Valid (sym (dropped v j c.args.held used r.1)) (pack_valid _ (removed_fit _ v.fit j r.0)))

pub returns : goal.returns
returns c =
    let b = record_of c.self.inside in
    let v = c.self.invariant in
    let r = rw (← c.self.view_is) at c.requires in
    let j = c.args.j in
    let used : j < b.count = omega (arith, count_is v, r.0) in
    rw (
      ← c.self.view_is,
      put_mid-rotated j (12 - j) b.periods c.rotate_left.new.self no_period (omega (arith, count_few v)) (omega (arith, count_few v)) c.rotate_left.ensures.after,
      c.fresh.ensures,
    )
    (dropped v j c.args.held used r.1)
