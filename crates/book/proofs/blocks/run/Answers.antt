-- After each turn what is left of the run comes to what the whole comes to: an entry that is entered has its line, and entries that
-- are added to a period have theirs.
use Prim.Native.Nat.{◌+◌, ◌≤◌}
use mathlib.Core.Path.{◌≡◌, refl, sym, ap, ◌∙◌}
use native.Mathlib.Omega.{arith}
use lib.ListN.{length}
use Rattle.book.specs.layouts.Reading.{ReadOutcome}
use Rattle.book.specs.declared.Book.{Book}
use Rattle.book.proofs.rules.LimitLaws.{many_places}
use Rattle.book.proofs.records.Packing.{place_few, place_sound}
use Rattle.book.proofs.runs.RunLaws.{read_allowed, begins, full_ends, unread_ends, turn_on, turn_ends}
use Rattle.book.proofs.runs.RunTurns.{Told, entered_turn, amounts_on, amounts_some, amounts_valid}
use Rattle.book.proofs.blocks.run.Goals as goal
use Rattle.book.proofs.blocks.run.Goals.{else-loop-lines-test, then-loop-lines-test+in_default, then-loop-lines-test+in-Ok+in_default-place_added_to+then-paid-ne0, in-Ok-enter, in-Err}

pub loop-lines-init : goal.loop-lines-init
loop-lines-init c = (begins _ _ _ _ _, refl)

pub invariant_of-place_added_to : goal.invariant_of-place_added_to
invariant_of-place_added_to c = record { fields = read_allowed _ _ _ (ap (λ (o : ReadOutcome). o.entry) (sym c.in-Ok.ensures)) }

pub offset_bounds-b-inside-j : goal.offset_bounds-b-inside-j
offset_bounds-b-inside-j c = omega (arith, place_few c.b.view_is c.b.invariant c.in-Some.ensures.0.used)

pub bounds-b-inside-j : goal.bounds-b-inside-j
bounds-b-inside-j c = omega (arith, place_few c.b.view_is c.b.invariant c.in-Some.ensures.0.used)

pub post_amounts-posted-requires : goal.post_amounts-posted-requires
post_amounts-posted-requires c = (place_sound c.b.view_is c.b.invariant c.in-Some.ensures.0.used, c.loop-lines.invariant.0.room)

pub clear-requires : goal.clear-requires
clear-requires c = (many_places c.b.invariant.fit, omega (arith, c.in-Some.ensures.0.enough, ap (λ (b : Book). b.n) c.b.view_is))

pub invariant_of-b : goal.invariant_of-b
invariant_of-b c =
    amounts_valid _ _ _ _ _ c.b.view_is c.loop-lines.invariant.0 c.b.invariant (sym c.in-Ok.ensures) c.in-Some.ensures _ c.post_amounts-posted.ensures.0

pub loop-lines-smaller-in-Some : goal.loop-lines-smaller-in-Some
loop-lines-smaller-in-Some c =
    let l = c.loop-lines in
    let p = c.post_amounts-posted in
    let some = amounts_some _ _ _ _ _ c.b.view_is l.invariant.0 c.b.invariant (sym c.in-Ok.ensures) c.in-Some.ensures c.loop-lines-test.true in
    let more : l.wrote + 3 ≤ p.result.wrote = rw p.ensures.3 (omega (arith, some)) in
    let same : length p.new.lines ≡ length l.lines = p.auto.lines in
    omega (arith, more, same, c.loop-lines-test.true)

pub loop-lines-preserved-in-Some : goal.loop-lines-preserved-in-Some
loop-lines-preserved-in-Some c = (
  amounts_on _ _ _ _ _ c.b.view_is c.loop-lines.invariant.0 c.b.invariant (sym c.in-Ok.ensures) c.in-Some.ensures _ _ _ _ _ _ c.post_amounts-posted.ensures c.clear.ensures,
  c.clear.auto.words ∙ c.loop-lines.invariant.1,
)

pub loop-lines-preserved : goal.loop-lines-preserved
loop-lines-preserved c =
    let l = c.loop-lines in
    let r = c.enter in
    let told : Told r.result c.match-enter.answer.0 c.match-enter.answer.1 = elim c.match-enter.branch [
      | in-Ok-enter w ↦ rw (w.answer-is, w.in-Ok-enter.is) (refl, refl)
      | in-Err w ↦ rw (w.answer-is, w.in-Err.is) (w.number.ensures, refl)
    ] in
    let t = entered_turn l.b c.in-Ok.field-0.entry l.words l.lines l.wrote r.result r.new.self r.new.words _ _ _ _ r.ensures told (ap (λ (b : Book). b.held) c.b-in-loop-lines.view_is) c.put_line.ensures in
    (turn_on _ _ _ _ _ l.invariant.0 _ _ (sym c.in-Ok.ensures) c.loop-lines-test.true _ _ _ _ t (omega (arith, c.if-paid-ne0.false)), r.auto.words ∙ l.invariant.1)

pub returns : goal.returns
returns c =
    let l = c.loop-lines in
    elim c.loop-lines-test.branch [
      | else-loop-lines-test w ↦ rw (w.b-is, w.place-is, w.wrote-is, w.words-is, w.lines-is)
          (full_ends _ _ _ _ _ l.invariant.0 (omega (arith, w.loop-lines-test.false)))
      | then-loop-lines-test+in_default w ↦ rw (w.b-is, w.place-is, w.wrote-is, w.words-is, w.lines-is)
          (unread_ends _ _ _ _ _ l.invariant.0 (sym (ap (λ (o : ReadOutcome). o.entry) w.in_default.ensures)))
      | then-loop-lines-test+in-Ok+in_default-place_added_to+then-paid-ne0 w ↦
          let r = w.enter in
          let told : Told r.result w.match-enter.answer.0 w.match-enter.answer.1 = elim w.match-enter.branch [
            | in-Ok-enter v ↦ rw (v.answer-is, v.in-Ok-enter.is) (refl, refl)
            | in-Err v ↦ rw (v.answer-is, v.in-Err.is) (v.number.ensures, refl)
          ] in
          let t = entered_turn l.b w.in-Ok.field-0.entry l.words l.lines l.wrote r.result r.new.self r.new.words _ _ _ _ r.ensures told (ap (λ (b : Book). b.held) w.b-in-loop-lines.view_is) w.put_line.ensures in
          rw (w.b-is, w.place-is, w.wrote-is, w.words-is, w.lines-is)
          (turn_ends _ _ _ _ _ l.invariant.0 _ _ (sym w.in-Ok.ensures) w.loop-lines-test.true _ _ _ _ t (λ z. omega (arith, z, w.if-paid-ne0.true)))
    ]
