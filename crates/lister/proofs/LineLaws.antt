-- The lines of a run: the first of them and those after it, the last of its entries, and its words three by three.
use Rattle.std.proofs.Common.{◌≡◌, ℕ, zero, suc, ◌+◌, ◌-◌, ◌*◌, ◌/◌, ◌%◌, ◌^◌, ◌<◌, ◌≤◌, List, [], ◌∷◌, ◌++◌, length, get_or, drop, sym, refl, ap, ◌∙◌, ⊎_elim, append_assoc, append-nil, add-zero, arith, eq-eqb, ne_eqb}
use lib.ListN.{get_or-append}
use lib.Seq.{drop_at, get_or-drop}
use Rattle.std.proofs.lemmas.List.{drop-drop}
use Rattle.exact.specs.Rows.{places}
use Rattle.text.specs.Numbers.{spaced}
use Rattle.text.proofs.NumberLaws.{spaced_one, spaced_first}
use Rattle.exact.proofs.Cases.{le_or_lt}
use Rattle.lister.specs.Lines.{entry_line, pay_line, pay_lines}
use Rattle.lister.specs.inner.Runs.{lines_to, last_paid, run_lines}

module _ (a p h : ℕ) (lines : List ℕ) where
  -- a word behind the first line
  behind : (j k : ℕ) → k ≡ suc (suc (suc j)) → get_or (a ∷ p ∷ h ∷ lines) k 0 ≡ get_or lines j 0
  behind j k e = rw e

  lines_more : (first count : ℕ) → lines_to first (a ∷ p ∷ h ∷ lines) (suc count) ≡ entry_line first a p h ++ lines_to (first + 1) lines count
  unfolding lines_to
  lines_more first zero = rw (add-zero first) (sym (append-nil (entry_line first a p h)))
  lines_more first (suc c) =
      let n : first + suc c ≡ first + 1 + c = omega arith in
      rw (
        lines_more first c,
        n,
        behind (c * 3) (suc c * 3) (omega arith),
        behind (c * 3 + 1) (suc c * 3 + 1) (omega arith),
        behind (c * 3 + 2) (suc c * 3 + 2) (omega arith),
      )
      (append_assoc (entry_line first a p h) (lines_to (first + 1) lines c) _)

  last_more : (count : ℕ) → p ≡ 0 → last_paid (a ∷ p ∷ h ∷ lines) (suc count) ≡ last_paid lines count
  unfolding last_paid
  last_more zero z = z
  last_more (suc c) z = rw (ne_eqb (suc (suc c)) 0 (λ e. absurd (omega arith)), ne_eqb (suc c) 0 (λ e. absurd (omega arith))) (behind ((suc c - 1) * 3 + 1) ((suc (suc c) - 1) * 3 + 1) (omega arith))

  -- a line that paid nothing, and the run after it
  pub run_unpaid : (first count : ℕ) (words : List ℕ) → p ≡ 0
      → run_lines first (a ∷ p ∷ h ∷ lines) (suc count) words ≡ entry_line first a p h ++ run_lines (first + 1) lines count words
  unfolding run_lines
  run_unpaid first count words z =
      rw (lines_more first count, last_more count z) (append_assoc (entry_line first a p h) (lines_to (first + 1) lines count) _)

-- a line that paid, the last of its run
pub run_paid : (first a p h : ℕ) (words : List ℕ) → (p ≡ 0 → ⊥)
    → run_lines first (a ∷ p ∷ h ∷ []) 1 words ≡ entry_line first a p h ++ pay_lines words places
unfolding run_lines lines_to last_paid
run_paid first a p h words pays = rw (add-zero first, ne_eqb p 0 pays)

pub run_none : (first : ℕ) (lines words : List ℕ) → run_lines first lines 0 words ≡ []
unfolding run_lines lines_to last_paid
run_none first lines words = refl

-- the last of a run's entries, by all of its words
pub last_none : (l : List ℕ) → length l < 2 → 0 ≡ last_paid l (length l / 3)
unfolding last_paid
last_none l h = let z : length l / 3 ≡ 0 = omega arith in rw (eq-eqb (length l / 3) 0 z)

pub last_some : (l : List ℕ) → length l % 3 ≡ 0 → 2 ≤ length l → get_or l (length l - 2) 0 ≡ last_paid l (length l / 3)
unfolding last_paid
last_some l t h =
    let some : length l / 3 ≡ 0 → ⊥ = λ z. absurd (omega (arith, z)) in
    let e : length l - 2 ≡ (length l / 3 - 1) * 3 + 1 = omega arith in
    rw (ne_eqb (length l / 3) 0 some) (ap (λ (k : ℕ). get_or l k 0) e)

-- only an entry's number modulo 2 ^ 64 counts
pub line_mod : (m k answer paid held : ℕ) → m % 2 ^ 64 ≡ k % 2 ^ 64 → entry_line m answer paid held ≡ entry_line k answer paid held
unfolding entry_line
line_mod m k answer paid held h = rw h

-- the line of an entry, as it is put
pub entry_spaced : (number answer paid held : ℕ) → number < 2 ^ 64 → spaced (number ∷ answer ∷ paid ∷ held ∷ []) 10 ≡ entry_line number answer paid held
unfolding entry_line
entry_spaced number answer paid held h = let m : number % 2 ^ 64 ≡ number = omega arith in simp (m, spaced_first, spaced_one, append_assoc)

-- the line of a payout of nothing, and of one of some cents
pub pay_none : (participant cents : ℕ) (out : List ℕ) → cents ≡ 0 → out ≡ out ++ pay_line participant cents
unfolding pay_line
pay_none participant cents out z = rw (eq-eqb cents 0 z) (sym (append-nil out))

pub pay_some : (participant cents : ℕ) (out : List ℕ) → (cents ≡ 0 → ⊥)
    → (out ++ 112 ∷ 97 ∷ 121 ∷ 32 ∷ []) ++ spaced (participant ∷ cents ∷ []) 10 ≡ out ++ pay_line participant cents
unfolding pay_line
pay_some participant cents out h = simp (ne_eqb cents 0 h, spaced_first, spaced_one, append_assoc)

-- the lines of a run whose last entry has paid nothing, and of one whose last entry has paid
pub run_alone : (first : ℕ) (lines : List ℕ) (count : ℕ) (words : List ℕ) → last_paid lines count ≡ 0 → run_lines first lines count words ≡ lines_to first lines count
unfolding run_lines
run_alone first lines count words z = rw (eq-eqb (last_paid lines count) 0 z) (append-nil (lines_to first lines count))

pub run_pays : (first : ℕ) (lines : List ℕ) (count : ℕ) (words : List ℕ) → (last_paid lines count ≡ 0 → ⊥)
    → run_lines first lines count words ≡ lines_to first lines count ++ pay_lines words places
unfolding run_lines
run_pays first lines count words h = rw (ne_eqb (last_paid lines count) 0 h)

-- payouts of nothing, and participants from n on that are paid nothing
pub pays_none : (words : List ℕ) (n : ℕ) → ((i : ℕ) → i < n → get_or words i 0 ≡ 0) → pay_lines words n ≡ []
unfolding pay_lines pay_line
pays_none words zero e = refl
pays_none words (suc n) e = rw (pays_none words n (λ i h. e i (omega arith)), eq-eqb (get_or words n 0) 0 (e n (omega arith)))

pub pays_tail : (words : List ℕ) (n m : ℕ) → n ≤ m → ((i : ℕ) → n ≤ i → get_or words i 0 ≡ 0) → pay_lines words m ≡ pay_lines words n
unfolding pay_lines pay_line
pays_tail words n zero h e = let z : zero ≡ n = omega arith in ap (pay_lines words) z
pays_tail words n (suc m) h e = ⊎_elim
    (λ (l : n ≤ m). rw (eq-eqb (get_or words m 0) 0 (e m l)) (append-nil (pay_lines words m) ∙ pays_tail words n m l e))
    (λ (l : m < n). let z : suc m ≡ n = omega arith in ap (pay_lines words) z)
    (le_or_lt n m)

-- a chunk of three words that comes off the words left behind n chunks
module _ (lines rest x rest' : List ℕ) (n : ℕ) (d : rest ≡ drop (n * 3) lines) (e : rest ≡ x ++ rest') (three : length x ≡ 3) where
  pub chunk_word : (j : ℕ) → j < 3 → get_or x j 0 ≡ get_or lines (n * 3 + j) 0
  chunk_word j h = sym (get_or-append x rest' 0 j (omega arith)) ∙ ap (λ (s : List ℕ). get_or s j 0) (sym e ∙ d) ∙ get_or-drop (n * 3) lines j 0

  pub chunk_rest : rest' ≡ drop (suc n * 3) lines
  chunk_rest =
      let k : n * 3 + 3 ≡ suc n * 3 = omega arith in
      sym (drop_at x rest' 3 three) ∙ ap (drop 3) (sym e ∙ d) ∙ drop-drop 3 (n * 3) lines ∙ ap (λ (i : ℕ). drop i lines) k
