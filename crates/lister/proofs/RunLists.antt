-- A run of the book puts the lines of its entries as the listing has them, and the listing goes on where the run ended.
use Rattle.std.proofs.Common.{◌≡◌, ℕ, zero, suc, ◌+◌, ◌*◌, ◌<◌, ◌≤◌, List, [], ◌∷◌, ◌++◌, length, drop, sym, refl, ap, ◌∙◌, subst, ap₂, ⊎_elim, append_assoc, append-nil, arith, drop-drop}
use Rattle.exact.proofs.Cases.{cases_eq}
use Rattle.book.specs.layouts.Reading.{ReadOutcome, reading}
use Rattle.book.specs.rules.State.{cents_held}
use Rattle.book.specs.rules.Step.{Reply, reply, paid_by}
use Rattle.book.specs.rules.Valid.{Valid}
use Rattle.book.specs.rules.Words.{AgreeFrom}
use Rattle.book.specs.runs.Running.{Run, line_of, stopped, lined, run}
use Rattle.book.specs.declared.entries.Entry.{Entry}
use Rattle.book.specs.declared.Book.{Book}
use Rattle.book.proofs.Laws.{many_places, reading_front, read_within, read_or_none, run_full, run_unread, run_read, stays_valid, Alike, alike, reply_n}
use Rattle.lister.specs.Lines.{entry_line}
use Rattle.lister.specs.Listing.{lent, entry_lines, listing_from}
use Rattle.lister.specs.Pieces.{Lists}
use Rattle.lister.specs.inner.Runs.{run_lines}
use Rattle.lister.proofs.LineLaws.{run_unpaid, run_paid, run_none}
use Rattle.lister.proofs.ListingLaws.{entry_unpaid, entry_paid}
use Rattle.lister.proofs.PieceLaws.{lists_entry}

-- what a run r of the bytes from a place on has put of the listing from there on
pub record RunLists (bytes : List ℕ) (room number : ℕ) (b : Book) (place : ℕ) (r : Run) : Type 0 where
  pub count : ℕ
  pub three : length r.lines ≡ count * 3
  pub few : length r.lines ≤ room
  pub valid : Valid r.book
  pub agree : AgreeFrom r.book.n r.words lent
  pub within : place ≤ length bytes → r.place ≤ length bytes
  pub onward : place ≤ r.place
  pub some : 0 < count → place < r.place
  pub none : count ≡ 0 → 3 ≤ room → (reading bytes r.place).entry ≡ []
  pub lists : Lists
      (record { number = number; book = b; left = drop place bytes })
      (run_lines number r.lines count r.words)
      (record { number = number + count; book = r.book; left = drop r.place bytes })

module _ (bytes : List ℕ) where
  stopped_lists : (room number : ℕ) (b : Book) (place : ℕ) (words : List ℕ) → Valid b → AgreeFrom b.n words lent
      → (3 ≤ room → (reading bytes place).entry ≡ []) → RunLists bytes room number b place (stopped b place words)
  stopped_lists room number b place words v a none = record {
    count = 0;
    three = refl;
    few = omega arith;
    valid = v;
    agree = a;
    within = λ h. h;
    onward = omega arith;
    some = λ h. absurd (omega (arith, h));
    none = λ _. none;
    lists = record {
      whole = λ more.
          let z : number ≡ number + 0 = omega arith in
          let t : List ℕ = drop place bytes ++ more in
          ap (λ (k : ℕ). listing_from k b t) z ∙ ap (λ (l : List ℕ). l ++ listing_from (number + 0) b t) (sym (run_none number [] words));
    };
  }

  -- an entry is read: what it puts, and what is left of the bytes
  module _ (number : ℕ) (b : Book) (place : ℕ) (words : List ℕ) (e : Entry) (v : Valid b) (a : AgreeFrom b.n words lent)
      (q : (reading bytes place).entry ≡ e ∷ []) where
    abbrev next : ℕ
    next = (reading bytes place).place

    abbrev x : Reply
    x = reply b (record { entry = e; words = words })

    abbrev y : Reply
    y = reply b (record { entry = e; words = lent })

    same : Alike b e words lent
    same = alike b e words lent a

    x_valid : Valid x.book
    x_valid = stays_valid.next b (record { entry = e; words = words }) v

    x_agree : AgreeFrom x.book.n x.words lent
    x_agree = subst (λ (n : ℕ). AgreeFrom n x.words lent) (sym (reply_n b (record { entry = e; words = words }))) same.agree

    further : (place < (reading bytes place).place) × ((reading bytes place).place ≤ length bytes)
    further = read_within bytes place e q

    -- it stands at the front of the bytes from the place on
    front_read : (reading (drop place bytes) 0).entry ≡ e ∷ []
    front_read = sym (ap (λ (r : ReadOutcome). r.entry) (reading_front bytes place)) ∙ q

    front_next : place + (reading (drop place bytes) 0).place ≡ next
    front_next = sym (ap (λ (r : ReadOutcome). r.place) (reading_front bytes place))

    left : drop (reading (drop place bytes) 0).place (drop place bytes) ≡ drop next bytes
    left = drop-drop (reading (drop place bytes) 0).place place bytes ∙ ap (λ (j : ℕ). drop j bytes) front_next

    -- the listing from the entry on
    entry_first : (more : List ℕ) → listing_from number b (drop place bytes ++ more) ≡ entry_lines number b.n y ++ listing_from (number + 1) x.book (drop next bytes ++ more)
    entry_first more =
        (lists_entry number b (drop place bytes) e front_read).whole more
        ∙ ap₂ (λ (k : Book) (l : List ℕ). entry_lines number b.n y ++ listing_from (number + 1) k (l ++ more)) (sym same.book) left

    abbrev printed : List ℕ
    printed = entry_line number x.answer (paid_by b.n x) (cents_held x.book)

    -- it pays nothing, and the run goes on
    unpaid_lists : (room : ℕ) (r : Run) → paid_by b.n x ≡ 0 → RunLists bytes room (number + 1) x.book next r
        → RunLists bytes (suc (suc (suc room))) number b place (lined (line_of b.n x) r)
    unpaid_lists room r z w = record {
      count = suc w.count;
      three = omega (arith, w.three);
      few = omega (arith, w.few);
      valid = w.valid;
      agree = w.agree;
      within = λ _. w.within further.1;
      onward = omega (arith, w.onward, further.0);
      some = λ _. omega (arith, w.onward, further.0);
      none = λ h. absurd (omega (arith, h));
      lists = record {
        whole = λ more.
            let k : number + 1 + w.count ≡ number + suc w.count = omega arith in
            let u : List ℕ = drop r.place bytes ++ more in
            entry_first more
            ∙ ap (λ (l : List ℕ). l ++ listing_from (number + 1) x.book (drop next bytes ++ more)) (entry_unpaid (many_places v.fit) same number z ∙ append-nil printed)
            ∙ ap (λ (l : List ℕ). printed ++ l) (w.lists.whole more)
            ∙ sym (append_assoc printed (run_lines (number + 1) r.lines w.count r.words) (listing_from (number + 1 + w.count) r.book u))
            ∙ ap₂ (λ (l : List ℕ) (j : ℕ). l ++ listing_from j r.book u)
            (sym (run_unpaid x.answer (paid_by b.n x) (cents_held x.book) r.lines number w.count r.words z)) k;
      };
    }

    -- it pays, and the run ends
    paid_lists : (room : ℕ) → (paid_by b.n x ≡ 0 → ⊥) → RunLists bytes (suc (suc (suc room))) number b place (lined (line_of b.n x) (stopped x.book next x.words))
    paid_lists room pays = record {
      count = 1;
      three = refl;
      few = omega arith;
      valid = x_valid;
      agree = x_agree;
      within = λ _. further.1;
      onward = omega (arith, further.0);
      some = λ _. further.0;
      none = λ h. absurd (omega (arith, h));
      lists = record {
        whole = λ more.
            entry_first more
            ∙ ap (λ (l : List ℕ). l ++ listing_from (number + 1) x.book (drop next bytes ++ more))
            (entry_paid (many_places v.fit) same number pays ∙ sym (run_paid number x.answer (paid_by b.n x) (cents_held x.book) x.words pays));
      };
    }

  -- no room for a line
  full_lists : (room number : ℕ) (b : Book) (place : ℕ) (words : List ℕ) → room < 3 → Valid b → AgreeFrom b.n words lent
      → RunLists bytes room number b place (run bytes room b place words)
  full_lists room number b place words h v a =
      subst (RunLists bytes room number b place) (sym (run_full bytes room b place words h)) (stopped_lists room number b place words v a (λ k. absurd (omega (arith, h, k))))

  pub run_lists : (room number : ℕ) (b : Book) (place : ℕ) (words : List ℕ) → Valid b → AgreeFrom b.n words lent
      → RunLists bytes room number b place (run bytes room b place words)
  run_lists zero number b place words v a = full_lists zero number b place words (omega arith) v a
  run_lists (suc zero) number b place words v a = full_lists (suc zero) number b place words (omega arith) v a
  run_lists (suc (suc zero)) number b place words v a = full_lists (suc (suc zero)) number b place words (omega arith) v a
  run_lists (suc (suc (suc room))) number b place words v a = ⊎_elim
      (λ none. subst (RunLists bytes (suc (suc (suc room))) number b place) (sym (run_unread bytes (suc (suc (suc room))) b place words none))
      (stopped_lists (suc (suc (suc room))) number b place words v a (λ _. none)))
      (λ found.
      let e : Entry = found.0 in
      let k : ℕ = (reading bytes place).place in
      let r : Reply = reply b (record { entry = e; words = words }) in
      let q = found.1 in
      subst (RunLists bytes (suc (suc (suc room))) number b place) (sym (run_read bytes room b place words e q))
      (cases_eq (λ (z : Run). RunLists bytes (suc (suc (suc room))) number b place (lined (line_of b.n r) z)) (paid_by b.n r) 0
      (λ z. unpaid_lists number b place words e v a q room (run bytes room r.book k r.words) z
      (run_lists room (number + 1) r.book k r.words (x_valid number b place words e v a q) (x_agree number b place words e v a q)))
      (λ h. paid_lists number b place words e v a q room h)))
      (read_or_none bytes place)
