-- Entries applied one after the other: what a turn of the block run leaves of the work.
use Prim.Native.Nat.{ℕ, zero, suc, ◌+◌, ◌-◌, ◌≤◌, ◌<◌}
use mathlib.Core.Path.{◌≡◌, refl, sym, ap, subst, ◌∙◌}
use mathlib.Core.Bool.{true, cond}
use mathlib.Core.Logic.{◌⊎◌, inl, inr, ⊎_elim}
use mathlib.Core.List.{List, [], ◌∷◌, ◌++◌}
use native.Mathlib.Omega.{arith}
use borrow.Author.Tests.{eq-eqb, ne_eqb, not-false}
use lib.Dec.{eqb}
use lib.ListN.{length, set, length-append}
use lib.Seq.{sets, length-sets}
use Rattle.exact.proofs.Cases.{cases_eq}
use Rattle.book.specs.Checks.{refusal}
use Rattle.book.specs.layouts.Allowed.{allowed}
use Rattle.book.specs.layouts.Reading.{ReadOutcome, entry_at, read_checks, reading, on_entry}
use Rattle.book.specs.rules.Step.{Reply, reply, paid_by}
use Rattle.book.specs.runs.Running.{Run, line_of, stopped, lined, run}
use Rattle.book.specs.declared.entries.Entry.{Entry}
use Rattle.book.specs.declared.Book.{Book}
use Rattle.book.proofs.rules.CheckLaws.{all_pass}

-- two runs of stores, one behind the other
sets_then : (l m s : List ℕ) (k : ℕ) → sets s k (l ++ m) ≡ sets (sets s k l) (k + length l) m
sets_then [] m s k = let e : k ≡ k + 0 = omega arith in ap (λ (j : ℕ). sets s j m) e
sets_then (x ∷ l) m s k =
    let e : suc k + length l ≡ k + suc (length l) = omega arith in
    sets_then l m (set s k x) (suc k) ∙ ap (λ (j : ℕ). sets (sets (set s k x) (suc k) l) j m) e

-- at a place no entry is read, or one whose fields are within their values
pub read_or_none : (s : List ℕ) (place : ℕ)
    → ((reading s place).entry ≡ []) ⊎ ((e : Entry) × ((reading s place).entry ≡ e ∷ []) × (allowed e ≡ true))
unfolding reading
read_or_none s place = cases_eq
    (λ (r : ReadOutcome). (r.entry ≡ []) ⊎ ((e : Entry) × (r.entry ≡ e ∷ []) × (allowed e ≡ true)))
    (refusal (read_checks s place)) 0
    (λ h. inr (entry_at s place, refl, not-false (allowed (entry_at s place)) (all_pass (read_checks s place) refl h).1.1.1.0))
    (λ _. inl refl)

pub read_allowed : (bytes : List ℕ) (place : ℕ) (e : Entry) → (reading bytes place).entry ≡ e ∷ [] → allowed e ≡ true
read_allowed bytes place e q = ⊎_elim
    (λ none. absurd (omega (arith, ap length (sym none ∙ q))))
    (λ x. ap (λ (l : List Entry). on_entry l allowed true) (sym q ∙ x.1) ∙ x.2)
    (read_or_none bytes place)

module _ (bytes : List ℕ) where
  -- no room for a line, or nothing that can be read
  pub run_full : (room : ℕ) (b : Book) (place : ℕ) (words : List ℕ) → room < 3 → run bytes room b place words ≡ stopped b place words
  unfolding run
  run_full zero b place words h = refl
  run_full (suc zero) b place words h = refl
  run_full (suc (suc zero)) b place words h = refl
  run_full (suc (suc (suc room))) b place words h = absurd (omega arith)

  pub run_unread : (room : ℕ) (b : Book) (place : ℕ) (words : List ℕ) → (reading bytes place).entry ≡ [] → run bytes room b place words ≡ stopped b place words
  unfolding run
  run_unread zero b place words e = refl
  run_unread (suc zero) b place words e = refl
  run_unread (suc (suc zero)) b place words e = refl
  run_unread (suc (suc (suc room))) b place words e = rw e

  -- an entry is read, and applied
  pub run_read : (room : ℕ) (b : Book) (place : ℕ) (words : List ℕ) (e : Entry) → (reading bytes place).entry ≡ e ∷ []
      → let r = reply b (record { entry = e; words = words }) in
      run bytes (suc (suc (suc room))) b place words
      ≡ lined (line_of b.n r)
      (cond (eqb (paid_by b.n r) 0) (run bytes room r.book (reading bytes place).place r.words) (stopped r.book (reading bytes place).place r.words))
  unfolding run
  run_read room b place words e q = rw q

-- what is left of the work, `rest`, comes with the lines written so far to the whole
pub record Continues (whole rest : Run) (before lines : List ℕ) (wrote : ℕ) : Type 0 where
  pub book : whole.book ≡ rest.book
  pub place : whole.place ≡ rest.place
  pub words : whole.words ≡ rest.words
  pub written : sets before 0 whole.lines ≡ sets lines wrote rest.lines
  pub count : length whole.lines ≡ wrote + length rest.lines

lined_on : {whole rest : Run} {before lines : List ℕ} {wrote : ℕ} (l : List ℕ) → Continues whole (lined l rest) before lines wrote
    → Continues whole rest before (sets lines wrote l) (wrote + length l)
lined_on {whole} {rest} {before} {lines} {wrote} l c = record {
  book = c.book;
  place = c.place;
  words = c.words;
  written = c.written ∙ sets_then l rest.lines lines wrote;
  count = c.count ∙ omega (arith, length-append l rest.lines);
}

-- the answer of the block run: the book, the place, how many words the lines are, the payout words and the lines
abbrev pub Ends : Run → List ℕ → Book → ℕ → List ℕ → List ℕ → ℕ → Type 0
Ends whole before b place words lines wrote =
    (b ≡ whole.book) × (place ≡ whole.place) × (wrote ≡ length whole.lines) × (words ≡ whole.words) × (lines ≡ sets before 0 whole.lines)

stopped_ends : {whole : Run} {before lines : List ℕ} {b : Book} {place : ℕ} {words : List ℕ} {wrote : ℕ}
    → Continues whole (stopped b place words) before lines wrote → Ends whole before b place words lines wrote
stopped_ends c = (sym c.book, sym c.place, omega (arith, c.count), sym c.words, sym c.written)

-- what an entry leaves by its reply: the book, the cents paid, the payout words, and the lines with its own
abbrev pub Turn : Book → Entry → List ℕ → List ℕ → ℕ → Book → ℕ → List ℕ → List ℕ → Type 0
Turn b e words lines wrote b' paid words' lines' =
    let r = reply b (record { entry = e; words = words }) in
    (b' ≡ r.book) × (paid ≡ paid_by b.n r) × (words' ≡ r.words) × (lines' ≡ sets lines wrote (line_of b.n r))

-- where the block run stands
module _ (bytes : List ℕ) (b₀ : Book) (from : ℕ) (words₀ before : List ℕ) where
  abbrev whole : Run
  whole = run bytes (length before) b₀ from words₀

  pub record Standing (b : Book) (place : ℕ) (words lines : List ℕ) (wrote : ℕ) : Type 0 where
    pub size : length lines ≡ length before
    pub room : wrote ≤ length lines
    pub continues : Continues (run bytes (length before) b₀ from words₀) (run bytes (length lines - wrote) b place words) before lines wrote

  pub begins : Standing b₀ from words₀ before 0
  begins = record {
    size = refl;
    room = omega arith;
    continues = subst (λ (k : ℕ). Continues whole (run bytes k b₀ from words₀) before before 0) (let e : length before ≡ length before - 0 = omega arith in e)
        (record { book = refl; place = refl; words = refl; written = refl; count = omega arith });
  }

  module _ {b : Book} {place : ℕ} {words lines : List ℕ} {wrote : ℕ} (s : Standing b place words lines wrote) where
    -- the work left, once it is known to begin with these lines
    pub goes_on : (l : List ℕ) (b' : Book) (place' : ℕ) (words' : List ℕ) → wrote + length l ≤ length lines
        → run bytes (length lines - wrote) b place words ≡ lined l (run bytes (length lines - wrote - length l) b' place' words')
        → Standing b' place' words' (sets lines wrote l) (wrote + length l)
    goes_on l b' place' words' h q =
        let e : length lines - wrote - length l ≡ length (sets lines wrote l) - (wrote + length l) = omega (arith, length-sets lines wrote l) in
        record {
          size = length-sets lines wrote l ∙ s.size;
          room = omega (arith, length-sets lines wrote l);
          continues = lined_on l (subst (λ (r : Run). Continues whole r before lines wrote) (q ∙ ap (λ (k : ℕ). lined l (run bytes k b' place' words')) e) s.continues);
        }

    pub full_ends : length lines - wrote < 3 → Ends (run bytes (length before) b₀ from words₀) before b place words lines wrote
    full_ends h = stopped_ends (subst (λ (r : Run). Continues whole r before lines wrote) (run_full bytes (length lines - wrote) b place words h) s.continues)

    pub unread_ends : (reading bytes place).entry ≡ [] → Ends (run bytes (length before) b₀ from words₀) before b place words lines wrote
    unread_ends h = stopped_ends (subst (λ (r : Run). Continues whole r before lines wrote) (run_unread bytes (length lines - wrote) b place words h) s.continues)

    -- an entry was read
    module _ (e : Entry) (next : ℕ) (q : reading bytes place ≡ record { answer = 0; place = next; entry = e ∷ [] }) (h : 3 ≤ length lines - wrote) where
      read : let r = reply b (record { entry = e; words = words }) in
          run bytes (length lines - wrote) b place words
          ≡ lined (line_of b.n r) (cond (eqb (paid_by b.n r) 0) (run bytes (length lines - wrote - 3) r.book next r.words) (stopped r.book next r.words))
      read =
          let m : length lines - wrote ≡ suc (suc (suc (length lines - wrote - 3))) = omega arith in
          ap (λ (k : ℕ). run bytes k b place words) m ∙ run_read bytes (length lines - wrote - 3) b place words e (ap (λ (o : ReadOutcome). o.entry) q) ∙ rw q

      -- the book, the cents paid, the payout words and the lines are those of its reply
      module _ (b' : Book) (paid : ℕ) (words' lines' : List ℕ) (t : Turn b e words lines wrote b' paid words' lines') where
        abbrev r : Reply
        r = reply b (record { entry = e; words = words })

        moved : (P : Book → List ℕ → List ℕ → Type 0) → P r.book r.words (sets lines wrote (line_of b.n r)) → P b' words' lines'
        moved P z = subst (λ (x : Book). P x words' lines') (sym t.0)
            (subst (λ (w : List ℕ). P r.book w lines') (sym t.2) (subst (λ (l : List ℕ). P r.book r.words l) (sym t.3) z))

        pub turn_on : paid ≡ 0 → Standing b' next words' lines' (wrote + 3)
        turn_on z = moved (λ b w l. Standing b next w l (wrote + 3))
            (goes_on (line_of b.n r) r.book next r.words (omega arith)
            (read ∙ rw (eq-eqb (paid_by b.n r) 0 (sym t.1 ∙ z))))

        pub turn_ends : (paid ≡ 0 → ⊥) → Ends (run bytes (length before) b₀ from words₀) before b' next words' lines' (wrote + 3)
        turn_ends z = moved (λ b w l. Ends whole before b next w l (wrote + 3))
            (stopped_ends (lined_on (line_of b.n r) (subst (λ (r : Run). Continues whole r before lines wrote) (read ∙ rw (ne_eqb (paid_by b.n r) 0 (λ y. z (t.1 ∙ y)))) s.continues)))
