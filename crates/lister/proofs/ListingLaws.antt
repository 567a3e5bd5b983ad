-- The listing from an entry on: its entries one by one, whatever the bound of their number, and its end.
use Rattle.std.proofs.Common.{◌≡◌, ℕ, zero, suc, ◌+◌, ◌-◌, ◌%◌, ◌^◌, ◌<◌, ◌≤◌, List, [], ◌∷◌, ◌++◌, length, drop, sym, refl, ap, ◌∙◌, ⊎_elim, arith, length-drop, get_or-drop}
use Rattle.exact.specs.Rows.{places, at, sum}
use Rattle.exact.proofs.RowLaws.{sum_term, zero_at}
use Rattle.exact.proofs.Cases.{eq_or_ne}
use Rattle.book.specs.layouts.Reading.{reading}
use Rattle.book.specs.rules.State.{cents_held}
use Rattle.book.specs.rules.Step.{Reply, reply, paid_by}
use Rattle.book.specs.rules.Words.{AgreeFrom}
use Rattle.book.specs.declared.entries.Entry.{Entry}
use Rattle.book.specs.declared.Book.{Book}
use Rattle.book.proofs.Laws.{read_within, read_or_none, Alike, alike_paid, paid_accepted, paid_refused}
use Rattle.lister.specs.Lines.{entry_line, pay_lines}
use Rattle.lister.specs.Listing.{lent, entry_lines, end_line, entries_from, listing_from}
use Rattle.lister.proofs.LineLaws.{line_mod, pays_none, pays_tail}

-- only an entry's number modulo 2 ^ 64 counts
end_mod : (m k held : ℕ) (s : List ℕ) → m % 2 ^ 64 ≡ k % 2 ^ 64 → end_line m held s ≡ end_line k held s
unfolding end_line
end_mod m k held [] h = refl
end_mod m k held (x ∷ s) h = line_mod m k (reading (x ∷ s) 0).answer 0 held h

lines_mod : (m k n : ℕ) (r : Reply) → m % 2 ^ 64 ≡ k % 2 ^ 64 → entry_lines m n r ≡ entry_lines k n r
unfolding entry_lines
lines_mod m k n r h = ap (λ (l : List ℕ). l ++ pay_lines r.words n) (line_mod m k r.answer (paid_by n r) (cents_held r.book) h)

entries_mod : (most m k : ℕ) (b : Book) (s : List ℕ) → m % 2 ^ 64 ≡ k % 2 ^ 64 → entries_from most m b s ≡ entries_from most k b s
unfolding entries_from
entries_mod zero m k b s h = end_mod m k (cents_held b) s h
entries_mod (suc most) m k b s h = ⊎_elim
    (λ none. rw none (end_mod m k (cents_held b) s h))
    (λ y. rw y.1 (
    let r = reply b (record { entry = y.0; words = lent }) in
    let h' : (m + 1) % 2 ^ 64 ≡ (k + 1) % 2 ^ 64 = omega (arith, h) in
    rw (lines_mod m k b.n r h, entries_mod most (m + 1) (k + 1) r.book (drop (reading s 0).place s) h')))
    (read_or_none s 0)

pub listing_mod : (m k : ℕ) (b : Book) (s : List ℕ) → m % 2 ^ 64 ≡ k % 2 ^ 64 → listing_from m b s ≡ listing_from k b s
unfolding listing_from
listing_mod m k b s h = entries_mod (length s) m k b s h

-- an entry that is read, or none
entries_unread : (most number : ℕ) (b : Book) (s : List ℕ) → (reading s 0).entry ≡ [] → entries_from most number b s ≡ end_line number (cents_held b) s
unfolding entries_from
entries_unread zero number b s none = refl
entries_unread (suc most) number b s none = rw none

entries_read : (most number : ℕ) (b : Book) (s : List ℕ) (e : Entry) → (reading s 0).entry ≡ e ∷ []
    → let r = reply b (record { entry = e; words = lent }) in
    entries_from (suc most) number b s ≡ entry_lines number b.n r ++ entries_from most (number + 1) r.book (drop (reading s 0).place s)
unfolding entries_from
entries_read most number b s e q = rw q

-- nothing can be read of no bytes
pub none_of : (s : List ℕ) → length s ≡ 0 → (reading s 0).entry ≡ []
none_of s h = ⊎_elim (λ none. none) (λ y. absurd (let w = read_within s 0 y.0 y.1 in omega (arith, h, w.0, w.1))) (read_or_none s 0)

-- a bound that is at least the number of bytes
enough : (f g number : ℕ) (b : Book) (s : List ℕ) → length s ≤ f → length s ≤ g → entries_from f number b s ≡ entries_from g number b s
enough zero g number b s h k = let none = none_of s (omega (arith, h)) in entries_unread zero number b s none ∙ sym (entries_unread g number b s none)
enough (suc f) zero number b s h k = let none = none_of s (omega (arith, k)) in entries_unread (suc f) number b s none ∙ sym (entries_unread zero number b s none)
enough (suc f) (suc g) number b s h k = ⊎_elim
    (λ none. entries_unread (suc f) number b s none ∙ sym (entries_unread (suc g) number b s none))
    (λ y.
    let next : ℕ = (reading s 0).place in
    let w = read_within s 0 y.0 y.1 in
    let r : Reply = reply b (record { entry = y.0; words = lent }) in
    let less : length (drop next s) ≤ length s - 1 = omega (arith, length-drop next s, w.0) in
    entries_read f number b s y.0 y.1
    ∙ ap (λ (l : List ℕ). entry_lines number b.n r ++ l) (enough f g (number + 1) r.book (drop next s) (omega (arith, less, h)) (omega (arith, less, k)))
    ∙ sym (entries_read g number b s y.0 y.1))
    (read_or_none s 0)

-- the end, where no entry can be read
pub listing_unread : (number : ℕ) (b : Book) (s : List ℕ) → (reading s 0).entry ≡ [] → listing_from number b s ≡ end_line number (cents_held b) s
unfolding listing_from
listing_unread number b s none = entries_unread (length s) number b s none

-- an entry, and the listing after it
pub listing_read : (number : ℕ) (b : Book) (s : List ℕ) (e : Entry) → (reading s 0).entry ≡ e ∷ []
    → let r = reply b (record { entry = e; words = lent }) in
    listing_from number b s ≡ entry_lines number b.n r ++ listing_from (number + 1) r.book (drop (reading s 0).place s)
unfolding listing_from
listing_read number b s e q =
    let next = (reading s 0).place in
    let w = read_within s 0 e q in
    let r = reply b (record { entry = e; words = lent }) in
    let k : length s ≡ suc (length s - 1) = omega (arith, w.0, w.1) in
    ap (λ (m : ℕ). entries_from m number b s) k
    ∙ entries_read (length s - 1) number b s e q
    ∙ ap (λ (l : List ℕ). entry_lines number b.n r ++ l)
    (enough (length s - 1) (length (drop next s)) (number + 1) r.book (drop next s) (omega (arith, length-drop next s, w.0)) (omega arith))

-- words that are as first lent from n on
agree_at : {n : ℕ} {words : List ℕ} → AgreeFrom n words lent → (i : ℕ) → n ≤ i → at words i ≡ 0
agree_at {n} {words} a i h =
    let e : n + (i - n) ≡ i = omega arith in
    ap (at words) (sym e) ∙ sym (get_or-drop n words (i - n) 0) ∙ ap (λ (l : List ℕ). at l (i - n)) a.rest
    ∙ get_or-drop n lent (i - n) 0 ∙ zero_at places (n + (i - n))

-- what is put of an entry, from the words that the program lends it
module _ {b : Book} {e : Entry} {words : List ℕ} (many : b.n ≤ places) (a : Alike b e words lent) where
  abbrev x : Reply
  x = reply b (record { entry = e; words = words })

  abbrev y : Reply
  y = reply b (record { entry = e; words = lent })

  abbrev line : ℕ → List ℕ
  line number = entry_line number x.answer (paid_by b.n x) (cents_held x.book)

  line_same : (number : ℕ) → entry_line number y.answer (paid_by b.n y) (cents_held y.book) ≡ line number
  line_same number = sym (λ i. entry_line number (a.answer i) (alike_paid a i) (cents_held (a.book i)))

  nothing_paid_lem : paid_by b.n x ≡ 0 → (i : ℕ) → i < b.n → at y.words i ≡ 0
  nothing_paid_lem z i h = ⊎_elim
      (λ (q : y.answer ≡ 0). let t : sum (at y.words) b.n ≡ 0 = sym (paid_accepted b.n y q) ∙ sym (alike_paid a) ∙ z in omega (arith, t, sum_term (at y.words) b.n i h))
      (λ (q : y.answer ≡ 0 → ⊥). ap (λ (w : List ℕ). at w i) (a.refused q) ∙ zero_at places i)
      (eq_or_ne y.answer 0)

  -- it pays nothing: its line alone
  pub entry_unpaid : (number : ℕ) → paid_by b.n x ≡ 0 → entry_lines number b.n y ≡ entry_line number x.answer (paid_by b.n x) (cents_held x.book) ++ []
  unfolding entry_lines
  entry_unpaid number z = λ i. line_same number i ++ pays_none y.words b.n (nothing_paid_lem z) i

  -- it pays: the lines of all words lent are those of its payouts
  pub entry_paid : (number : ℕ) → (paid_by b.n x ≡ 0 → ⊥)
      → entry_lines number b.n y ≡ entry_line number x.answer (paid_by b.n x) (cents_held x.book) ++ pay_lines x.words places
  unfolding entry_lines
  entry_paid number pays =
      let q : y.answer ≡ 0 = ⊎_elim (λ z. z) (λ h. absurd (pays (alike_paid a ∙ paid_refused b.n y h))) (eq_or_ne y.answer 0) in
      let w : pay_lines y.words b.n ≡ pay_lines x.words places =
      ap (λ (l : List ℕ). pay_lines l b.n) (sym (a.accepted q)) ∙ sym (pays_tail x.words b.n places many (agree_at a.agree)) in
      λ i. line_same number i ++ w i
