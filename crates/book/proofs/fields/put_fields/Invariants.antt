use Rattle.std.proofs.Common.{◌≡◌, ◌+◌, ◌≤◌, length, drop}
use Rattle.std.proofs.lemmas.List.Edits.{sets}
use Rattle.book.specs.inner.Puts.{room_of, bytes_of_fields}
use Rattle.book.proofs.fields.put_fields.Given as goal

abbrev pub invariant-loop-f : goal.invariant-loop-f
invariant-loop-f l =
    let rest = drop l.f-index l.fields in
    (l.place + room_of rest ≤ length l.out) × (sets l.out l.place (bytes_of_fields rest) ≡ sets l.initial.out 1 (bytes_of_fields l.fields))
