use Rattle.std.proofs.Common.{arith, sym, ◌∙◌}
use Rattle.std.proofs.lemmas.List.Edits.{sets}
use Rattle.std.proofs.lemmas.List.{at_drop_more, at_drop_all}
use Rattle.book.specs.inner.Puts.{room_of, bytes_of_fields}
use Rattle.book.specs.declared.fields.Field.TheVariants.{Byte}
use Rattle.book.proofs.layouts.PutLaws.{put_first, put_none}
use Rattle.book.proofs.fields.put_fields.Goals as goal

pub loop-f-preserved : goal.loop-f-preserved
loop-f-preserved c =
    let l = c.loop-f in
    let fs = c.args.fields.now in
    let r = at_drop_more room_of fs l.f-index (Byte 0) c.loop-f-test.true in
    let b = at_drop_more (λ fs. sets l.out l.place (bytes_of_fields fs)) fs l.f-index (Byte 0) c.loop-f-test.true in
    (omega (arith, r), rw (c.put-place.ensures.0, c.put-place.ensures.1) (sym (put_first _ _ l.out l.place) ∙ sym b ∙ l.invariant.1))

pub returns : goal.returns
returns c =
    let l = c.loop-f in
    let b = c.loop-f-test.false in
    sym (put_none l.out l.place) ∙ sym (at_drop_all (λ fs. sets l.out l.place (bytes_of_fields fs)) c.args.fields.now l.f-index (omega arith)) ∙ l.invariant.1
