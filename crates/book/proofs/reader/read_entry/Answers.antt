use Rattle.std.proofs.Common.{rules, arith, ◌≡◌, ◌+◌, ◌≤◌, ◌<◌, sym, ◌∙◌, true, false, List, ℕ, length, Ok, Err, take, drop}
use borrow.Author.Tests.{lt-ltb, le-ltb, le-leb, lt-leb}
use Rattle.book.specs.layouts.Fields.{fields_at}
use Rattle.book.specs.layouts.Entries.{body_length, unknown, layout, entry_of, kind_number}
use Rattle.book.specs.layouts.Allowed.{allowed}
use Rattle.book.specs.declared.entries.Entry.{Entry}
use Rattle.book.specs.declared.entries.Kind.{Kind}
use Rattle.book.specs.declared.reader.ReadError.TheVariants.{Short, Unknown, Outside}
use Rattle.book.specs.layouts.Reading.{kind_at, entry_at, reading, read_outcome}
use Rattle.book.proofs.layouts.FieldLaws.{fields_taken}
use Rattle.book.proofs.layouts.EntryLaws.{number_known, layout_total}
use Rattle.book.proofs.reader.read_entry.Goals as goal
use Rattle.book.proofs.reader.read_entry.Goals.{After-is_allowed}

-- reading, by what stands at the place
module _ (s : List ℕ) (place : ℕ) where
  past_end : length s ≤ place → read_outcome place (Err Short) ≡ reading s place
  unfolding reading
  past_end h = simp (le-leb _ _ h)

  no_kind : place < length s → (number : ℕ) → number ≡ kind_at s place → unknown number ≡ true → read_outcome place (Err Unknown) ≡ reading s place
  unfolding reading
  no_kind h number k u = rw (lt-leb _ _ h, ← k, u)

  module _ (h : place < length s) (kind : Kind) (k : kind_number kind ≡ kind_at s place) where
    no_body : length s < place + 1 + body_length (kind_number kind) → read_outcome place (Err Short) ≡ reading s place
    unfolding reading
    no_body m = rw (lt-leb _ _ h, ← k, number_known kind, lt-ltb _ _ m)

    there : (n : ℕ) → n ≡ body_length (kind_number kind) → place + 1 + n ≤ length s → (body : List ℕ) → body ≡ take n (drop (place + 1) s)
        → entry_of (kind_number kind) (fields_at (layout (kind_number kind)) body 0) ≡ entry_at s place
    unfolding entry_at
    there n l m body b =
        let total = layout_total (kind_number kind) (number_known kind) in
        rw (b, fields_taken (layout (kind_number kind)) s (place + 1) n (l ∙ sym total) (omega arith), ← k)

    module _ (n : ℕ) (l : n ≡ body_length (kind_number kind)) (m : place + 1 + n ≤ length s) (e : Entry) (same : e ≡ entry_at s place) where
      no_value : allowed e ≡ false → read_outcome place (Err Outside) ≡ reading s place
      unfolding reading
      no_value a = rw (lt-leb _ _ h, ← k, number_known kind, ← l, le-ltb _ _ m, ← same, a)

      whole : allowed e ≡ true → read_outcome place (Ok (record { entry = e; next = place + 1 + n })) ≡ reading s place
      unfolding reading
      whole a = rw (lt-leb _ _ h, ← k, number_known kind, ← l, le-ltb _ _ m, ← same, a)

pub returns-in_err-number : goal.returns-in_err-number
returns-in_err-number c =
    let r : c.from_residual.result ≡ Err Short = search rules in
    let m : length c.args.s.now ≤ c.args.place = search rules in
    rw r (past_end _ _ m)

pub returns-in_err-kind : goal.returns-in_err-kind
returns-in_err-kind c =
    let r : c.from_residual-in_err-kind.result ≡ Err Unknown = search rules in
    let m : c.args.place < length c.args.s.now = search rules in
    let n : c.in_ok-number.field-0.now ≡ kind_at c.args.s.now c.args.place = search rules in
    rw r (no_kind _ _ m _ n (search rules))

pub returns-in_err-body : goal.returns-in_err-body
returns-in_err-body c =
    let s = c.args.s.now in
    let r : c.from_residual-in_err-body.result ≡ Err Short = search rules in
    let m : c.args.place < length s = search rules in
    let n : kind_number c.in_ok-kind.kind ≡ kind_at s c.args.place = search rules in
    let l : length s < c.args.place + 1 + c.body_length.result = search rules in
    rw r (no_body _ _ m c.in_ok-kind.kind n (omega arith))

-- the body that was read is that of the entry at the place
body : (c : After-is_allowed) → let s = c.args.s.now in
    (c.args.place < length s) × (kind_number c.in_ok-kind.kind ≡ kind_at s c.args.place) × (c.args.place + 1 + c.body_length.result ≤ length s)
    × (c.entry_of-entry.result ≡ entry_at s c.args.place)
body c =
    let s = c.args.s.now in
    let m : c.args.place < length s = search rules in
    let k : kind_number c.in_ok-kind.kind ≡ kind_at s c.args.place = search rules in
    let l : c.args.place + 1 + c.body_length.result ≤ length s = search rules in
    let b : c.in_ok-body.body.now ≡ take c.body_length.result (drop (c.args.place + 1) s) = search rules in
    (m, k, l, c.entry_of-entry.ensures ∙ rw c.new.ensures (there _ _ m c.in_ok-kind.kind k _ c.body_length.ensures l _ b))

pub returns-then-not-is_allowed : goal.returns-then-not-is_allowed
returns-then-not-is_allowed c =
    let r = body (goal.at.returns-then-not-is_allowed c).After-is_allowed in
    no_value _ _ r.0 c.in_ok-kind.kind r.1 _ c.body_length.ensures r.2 _ r.3 (search rules)

pub returns : goal.returns
returns c =
    let r = body (goal.at.returns c).After-is_allowed in
    whole _ _ r.0 c.in_ok-kind.kind r.1 _ c.body_length.ensures r.2 _ r.3 (search rules)
