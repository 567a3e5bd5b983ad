-- An entry that is not allowed writes nothing, nor does one without room; else the kind and the body are the entry's bytes.
use Rattle.std.proofs.Common.{rules, arith, ◌≡◌, ◌+◌, ◌≤◌, ◌<◌, ℕ, true, false, List, length, ◌∙◌, Ok, Err}
use Rattle.std.proofs.lemmas.List.Edits.{sets}
use borrow.Author.Tests.{lt-ltb, le-ltb}
use Rattle.book.specs.layouts.Entries.{bytes_of, size}
use Rattle.book.specs.layouts.Allowed.{allowed}
use Rattle.book.specs.layouts.Writing.{writing, written, write_outcome}
use Rattle.book.specs.declared.entries.Entry.{Entry}
use Rattle.book.specs.declared.writer.WriteError.TheVariants.{Outside, NoRoom}
use Rattle.book.proofs.layouts.EntryLaws.{bytes_size, put_front}
use Rattle.book.proofs.writer.write_entry.Goals as goal

module _ (e : Entry) (out : List ℕ) where
  outside : allowed e ≡ false → (write_outcome (Err Outside) ≡ writing e (length out)) × (out ≡ written e out)
  unfolding writing written
  outside a = (rw a, rw a)

  module _ (a : allowed e ≡ true) where
    no_room : length out < size e → (write_outcome (Err NoRoom) ≡ writing e (length out)) × (out ≡ written e out)
    unfolding writing written
    no_room h = (rw (a, lt-ltb _ _ h), rw (a, lt-ltb _ _ h))

    wrote : (n : ℕ) → n ≡ size e → n ≤ length out → (new : List ℕ) → new ≡ sets out 0 (bytes_of e) → (write_outcome (Ok n) ≡ writing e (length out)) × (new ≡ written e out)
    unfolding writing written
    wrote n s h new b =
        let fits = le-ltb (length out) (size e) (omega (arith, s)) in
        (rw (a, fits, s), rw (a, fits) (b ∙ put_front (bytes_of e) out (size e) (bytes_size e) (omega (arith, s))))

pub returns-then-not-is_allowed : goal.returns-then-not-is_allowed
returns-then-not-is_allowed c = outside _ _ (search rules)

pub returns-then-out-n : goal.returns-then-out-n
returns-then-out-n c = no_room _ _ (search rules) (search rules)

pub returns : goal.returns
unfolding bytes_of
returns c =
    let s : 1 + c.body_length-n.result ≡ size c.args.e = rw (c.body_length-n.ensures, c.kind-kind.ensures) (omega arith) in
    wrote _ _ (search rules) _ s c.if-out-n.false _ (c.put_body.ensures ∙ rw (c.number.ensures, c.kind-kind.ensures))
