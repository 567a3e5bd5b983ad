-- Reading in a part of the bytes: from a place on, and before other bytes.
use Prim.Native.Nat.{ℕ, ◌+◌, ◌≤◌, ◌<◌}
use mathlib.Core.Path.{◌≡◌, refl, sym, ap, ◌∙◌}
use mathlib.Core.Bool.{Bool, true, false, cond, not}
use mathlib.Core.List.{List, [], ◌∷◌, ◌++◌}
use mathlib.Core.Logic.{◌⊎◌, inl, inr, ⊎_elim}
use native.Mathlib.Omega.{arith}
use borrow.Author.Tests.{lt-leb, le-leb, le-ltb, lt-ltb, ltb-true, ltb-false, not-false}
use lib.Dec.{eqb, ltb, leb}
use lib.ListN.{get_or, length, drop, length-append, length-drop, get_or-append}
use lib.Seq.{get_or-drop, drop-drop}
use Rattle.exact.proofs.Cases.{cases_eq, le_or_lt}
use Rattle.book.specs.Checks.{refusal}
use Rattle.book.specs.layouts.Fields.{fields_at}
use Rattle.book.specs.layouts.Entries.{body_length, unknown, layout, entry_of}
use Rattle.book.specs.layouts.Allowed.{allowed}
use Rattle.book.specs.layouts.Reading.{ReadOutcome, kind_at, next_place, entry_at, read_checks, reading}
use Rattle.book.specs.declared.entries.Entry.{Entry}
use Rattle.book.proofs.rules.CheckLaws.{all_pass}
use Rattle.book.proofs.layouts.FieldLaws.{fields_drop, fields_before}
use Rattle.book.proofs.layouts.EntryLaws.{layout_total, body_le}

-- the tests of the checks decide the answer
decided : (s t : List ℕ) (p q : ℕ) → leb (length s) p ≡ leb (length t) q → kind_at s p ≡ kind_at t q
    → ltb (length s) (next_place s p) ≡ ltb (length t) (next_place t q) → entry_at s p ≡ entry_at t q
    → refusal (read_checks s p) ≡ refusal (read_checks t q)
decided s t p q a b c d = λ i. cond (a i) 1 (cond (unknown (b i)) 2 (cond (c i) 1 (cond (not (allowed (d i))) 3 0)))

-- an outcome whose places count from a later place on
abbrev pub onward : ℕ → ReadOutcome → ReadOutcome
onward place r = record { answer = r.answer; place = place + r.place; entry = r.entry }

-- reading at a place is reading at the front of the bytes from there on
module _ (s : List ℕ) (place : ℕ) where
  kind_front : kind_at s place ≡ kind_at (drop place s) 0
  kind_front = let e : place ≡ place + 0 = omega arith in ap (λ (j : ℕ). get_or s j 0) e ∙ sym (get_or-drop place s 0 0)

  entry_front : entry_at s place ≡ entry_at (drop place s) 0
  unfolding entry_at
  entry_front = let k = kind_at s place in let ws = layout k in
      ap (entry_of k) (fields_drop ws s (place + 1) ∙ ap (λ (t : List ℕ). fields_at ws t 0) (sym (drop-drop 1 place s)) ∙ sym (fields_drop ws (drop place s) 1))
      ∙ ap (λ (j : ℕ). entry_of j (fields_at (layout j) (drop place s) 1)) kind_front

  some_front : leb (length s) place ≡ leb (length (drop place s)) 0
  some_front = ⊎_elim
      (λ h. le-leb (length s) place h ∙ sym (le-leb (length (drop place s)) 0 (omega (arith, length-drop place s))))
      (λ h. lt-leb (length s) place h ∙ sym (lt-leb (length (drop place s)) 0 (omega (arith, length-drop place s))))
      (le_or_lt (length s) place)

  next_front : next_place s place ≡ place + next_place (drop place s) 0
  next_front = let n = body_length (kind_at s place) in let e : place + 1 + n ≡ place + (0 + 1 + n) = omega arith in
      e ∙ ap (λ (k : ℕ). place + (0 + 1 + body_length k)) kind_front

  room_front : ltb (length s) (next_place s place) ≡ ltb (length (drop place s)) (next_place (drop place s) 0)
  room_front = ⊎_elim
      (λ h. le-ltb (length s) (next_place s place) h
      ∙ sym (le-ltb (length (drop place s)) (next_place (drop place s) 0) (omega (arith, length-drop place s, next_front, h))))
      (λ h. lt-ltb (length s) (next_place s place) h
      ∙ sym (lt-ltb (length (drop place s)) (next_place (drop place s) 0) (omega (arith, length-drop place s, next_front, h))))
      (le_or_lt (next_place s place) (length s))

  refusal_front : refusal (read_checks s place) ≡ refusal (read_checks (drop place s) 0)
  refusal_front = decided s (drop place s) place 0 some_front kind_front room_front entry_front

  pub reading_front : reading s place ≡ onward place (reading (drop place s) 0)
  unfolding reading
  reading_front =
      (λ i. let r = refusal_front i in
      cond {A = ReadOutcome} (eqb r 0) (record { answer = 0; place = next_front i; entry = entry_front i ∷ [] }) (record { answer = r; place = here i; entry = [] }))
      ∙ outside (eqb (refusal (read_checks (drop place s) 0)) 0)
    where
      here : place ≡ place + 0
      here = omega arith

      outside : (t : Bool) → let r = refusal (read_checks (drop place s) 0) in let n = next_place (drop place s) 0 in let l = entry_at (drop place s) 0 ∷ [] in
          cond {A = ReadOutcome} t (record { answer = 0; place = place + n; entry = l }) (record { answer = r; place = place + 0; entry = [] })
          ≡ onward place (cond {A = ReadOutcome} t (record { answer = 0; place = n; entry = l }) (record { answer = r; place = 0; entry = [] }))
      outside true = refl
      outside false = refl

-- the answer is the first check that fails
reading_answer : (s : List ℕ) (place : ℕ) → (reading s place).answer ≡ refusal (read_checks s place)
unfolding reading
reading_answer s place = cases_eq (λ (r : ReadOutcome). r.answer ≡ refusal (read_checks s place)) (refusal (read_checks s place)) 0 (λ e. sym e) (λ _. refl)

-- where there is no byte the answer is 1
pub reading_empty : (reading [] 0).answer ≡ 1
reading_empty = reading_answer [] 0

-- no entry is read where the answer is not 0
pub none_answer : (s : List ℕ) (place : ℕ) → ((reading s place).answer ≡ 0 → ⊥) → (reading s place).entry ≡ []
unfolding reading
none_answer s place = cases_eq (λ (r : ReadOutcome). (r.answer ≡ 0 → ⊥) → r.entry ≡ []) (refusal (read_checks s place)) 0 (λ _ h. absurd (h refl)) (λ _ _. refl)

-- where no entry is read the answer is 1, 2 or 3
some_answer : (s : List ℕ) (place : ℕ) → (reading s place).entry ≡ [] → (reading s place).answer ≡ 0 → ⊥
unfolding reading
some_answer s place = cases_eq (λ (r : ReadOutcome). r.entry ≡ [] → r.answer ≡ 0 → ⊥) (refusal (read_checks s place)) 0
    (λ _ q _. absurd (omega (arith, ap length q))) (λ ne _. ne)

pub unread_answer : (s : List ℕ) (place : ℕ) → (reading s place).entry ≡ [] → let k = (reading s place).answer in (k ≡ 1) ⊎ (k ≡ 2) ⊎ (k ≡ 3)
unread_answer s place none =
    go (leb (length s) place) (unknown (kind_at s place)) (ltb (length s) (next_place s place)) (allowed (entry_at s place)) (reading_answer s place)
  where
    go : (a b c d : Bool) → (reading s place).answer ≡ cond a 1 (cond b 2 (cond c 1 (cond (not d) 3 0)))
        → let k = (reading s place).answer in (k ≡ 1) ⊎ (k ≡ 2) ⊎ (k ≡ 3)
    go true b c d q = inl q
    go false true c d q = inr (inl q)
    go false false true d q = inl q
    go false false false true q = absurd (some_answer s place none q)
    go false false false false q = inr (inr q)

-- an entry that is read has fields within their values
pub read_allowed : (s : List ℕ) (place : ℕ) (e : Entry) → (reading s place).entry ≡ e ∷ [] → allowed e ≡ true
unfolding reading
read_allowed s place e = cases_eq
    (λ (r : ReadOutcome). r.entry ≡ e ∷ [] → allowed e ≡ true) (refusal (read_checks s place)) 0
    (λ z q. ap allowed (sym (ap (λ (l : List Entry). get_or l 0 e) q)) ∙ not-false (allowed (entry_at s place)) (all_pass (read_checks s place) refl z).1.1.1.0)
    (λ _ q. absurd (omega (arith, ap length q)))

-- an entry takes a byte at least, and stands in the bytes whole
pub read_within : (s : List ℕ) (place : ℕ) (e : Entry) → (reading s place).entry ≡ e ∷ [] → (place < (reading s place).place) × ((reading s place).place ≤ length s)
unfolding reading
read_within s place e = cases_eq
    (λ (r : ReadOutcome). r.entry ≡ e ∷ [] → (place < r.place) × (r.place ≤ length s)) (refusal (read_checks s place)) 0
    (λ z _. (omega arith, ltb-false (length s) (next_place s place) (all_pass (read_checks s place) refl z).1.1.0))
    (λ _ q. absurd (omega (arith, ap length q)))

-- bytes that are not short are read alike whatever follows them
module _ (s more : List ℕ) where
  module _ (long : (reading s 0).answer ≡ 1 → ⊥) where
    some : 0 < length s
    some = ⊎_elim
        (λ (h : length s ≤ 0). absurd (long (reading_answer s 0 ∙ rw (le-leb (length s) 0 h))))
        (λ (h : 0 < length s). h)
        (le_or_lt (length s) 0)

    kind_before : kind_at (s ++ more) 0 ≡ kind_at s 0
    kind_before = get_or-append s more 0 0 some

    longer : length s ≤ length (s ++ more)
    longer = omega (arith, length-append s more)

    some_before : leb (length (s ++ more)) 0 ≡ leb (length s) 0
    some_before = lt-leb (length (s ++ more)) 0 (omega (arith, some, longer)) ∙ sym (lt-leb (length s) 0 some)

    next_before : next_place (s ++ more) 0 ≡ next_place s 0
    next_before = ap (λ (k : ℕ). 0 + 1 + body_length k) kind_before

    -- a known kind has its body
    body_there : unknown (kind_at s 0) ≡ false → next_place s 0 ≤ length s
    body_there known = ⊎_elim
        (λ h. h)
        (λ h. absurd (long (reading_answer s 0 ∙ rw (lt-leb (length s) 0 some, known, lt-ltb (length s) (next_place s 0) h))))
        (le_or_lt (next_place s 0) (length s))

    -- an unknown kind is refused before anything else is looked at
    refused_before : unknown (kind_at s 0) ≡ true → reading (s ++ more) 0 ≡ reading s 0
    unfolding reading
    refused_before none =
        let e : refusal (read_checks s 0) ≡ 2 = rw (lt-leb (length s) 0 some, none) in
        let f : refusal (read_checks (s ++ more) 0) ≡ 2 = rw (some_before, lt-leb (length s) 0 some, kind_before, none) in
        rw (e, f)

    entry_before : unknown (kind_at s 0) ≡ false → entry_at (s ++ more) 0 ≡ entry_at s 0
    unfolding entry_at
    entry_before known =
        let k = kind_at s 0 in
        ap (λ (j : ℕ). entry_of j (fields_at (layout j) (s ++ more) 1)) kind_before
        ∙ ap (entry_of k) (fields_before (layout k) s more 1 (omega (arith, layout_total k known, body_there known)))

    known_before : unknown (kind_at s 0) ≡ false → reading (s ++ more) 0 ≡ reading s 0
    unfolding reading
    known_before known = λ i. let r = same i in
        cond {A = ReadOutcome} (eqb r 0) (record { answer = 0; place = next_before i; entry = entry_before known i ∷ [] }) (record { answer = r; place = 0; entry = [] })
      where
        room : ltb (length (s ++ more)) (next_place (s ++ more) 0) ≡ ltb (length s) (next_place s 0)
        room =
            le-ltb (length (s ++ more)) (next_place (s ++ more) 0) (omega (arith, next_before, body_there known, longer))
            ∙ sym (le-ltb (length s) (next_place s 0) (body_there known))

        same : refusal (read_checks (s ++ more) 0) ≡ refusal (read_checks s 0)
        same = decided (s ++ more) s 0 0 some_before kind_before room (entry_before known)

  pub reading_before : ((reading s 0).answer ≡ 1 → ⊥) → reading (s ++ more) 0 ≡ reading s 0
  reading_before long = go (unknown (kind_at s 0)) refl
    where
      go : (t : Bool) → unknown (kind_at s 0) ≡ t → reading (s ++ more) 0 ≡ reading s 0
      go true e = refused_before long e
      go false e = known_before long e

-- short bytes are fewer than the longest entry has
three_or_none : (t : Bool) → cond {A = ℕ} (not t) 3 0 ≡ 1 → ⊥
three_or_none true h = omega (arith, h)
three_or_none false h = omega (arith, h)

pub short_few : (s : List ℕ) → (reading s 0).answer ≡ 1 → length s ≤ 255
short_few s h = ⊎_elim
    (λ (l : length s ≤ 0). omega (arith, l))
    (λ (l : 0 < length s). go1 l (unknown (kind_at s 0)) refl)
    (le_or_lt (length s) 0)
  where
    one : refusal (read_checks s 0) ≡ 1
    one = sym (reading_answer s 0) ∙ h

    go2 : 0 < length s → (t : Bool) → unknown (kind_at s 0) ≡ false → ltb (length s) (next_place s 0) ≡ t → length s ≤ 255
    go2 l true v q = omega (arith, ltb-true (length s) (next_place s 0) q, body_le (kind_at s 0) v)
    go2 l false v q = absurd (three_or_none (allowed (entry_at s 0)) (rw (lt-leb (length s) 0 l, v, q) at one))

    go1 : 0 < length s → (t : Bool) → unknown (kind_at s 0) ≡ t → length s ≤ 255
    go1 l true v = absurd (omega (arith, rw (lt-leb (length s) 0 l, v) at one))
    go1 l false v = go2 l (ltb (length s) (next_place s 0)) v refl
