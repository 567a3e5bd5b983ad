-- The listing of a longer input has what that of the shorter has, up to the bytes that cannot be read.
use Rattle.std.proofs.Common.{◌≡◌, ℕ, zero, suc, ◌+◌, ◌%◌, ◌^◌, ◌≤◌, false, ◌⊎◌, List, [], ◌∷◌, ◌++◌, length, drop, sym, refl, ap, ◌∙◌, subst, ⊎_elim, append_assoc, append-nil, arith, length-append, length-drop}
use Rattle.book.specs.layouts.Reading.{reading}
use Rattle.book.specs.rules.State.{cents_held}
use Rattle.book.specs.rules.Step.{Reply, reply}
use Rattle.book.specs.declared.limits.Limits.{Limits}
use Rattle.book.specs.declared.Book.{Book}
use Rattle.book.proofs.Laws.{read_within, read_or_none, reading_empty, unread_answer, read_allowed, reply_answer}
use Rattle.lister.specs.Lines.{header, with_space, with_newline, entry_line}
use Rattle.lister.specs.Listing.{lent, entry_lines, end_line, listing_from, listing, book_for}
use Rattle.lister.specs.Pieces.{Stand, fed, rest, Lists, Stands}
use Rattle.lister.specs.Turns.{Ends}
use Rattle.lister.specs.LongerInputs.{unread_from, unread, Begins, EndsUnread, Longer, LongerInputs}
use Rattle.lister.proofs.ListingLaws.{none_of, listing_unread, listing_read}
use Rattle.lister.proofs.PieceLaws.{lists_none, lists_then, lists_entry, stands_first, stands_listed, stands_ended, stands_closed}
use Rattle.lister.proofs.BlockTurns.{length_zero, end_some, ends_always}

-- all entries at the front of the bytes of a stand are listed, and what is left is unread
pub record AllListed (most number : ℕ) (b : Book) (s : List ℕ) : Type 0 where
  pub put : List ℕ
  pub stand : Stand
  pub lists : Lists (record { number = number; book = b; left = s }) put stand
  pub none : (reading stand.left 0).entry ≡ []
  pub left : stand.left ≡ unread_from most s

none_listed : (most number : ℕ) (b : Book) (s : List ℕ) → (reading s 0).entry ≡ [] → unread_from most s ≡ s → AllListed most number b s
none_listed most number b s none same = record { put = []; stand = record { number = number; book = b; left = s }; lists = lists_none _; none = none; left = sym same }

all_listed : (most number : ℕ) (b : Book) (s : List ℕ) → length s ≤ most → AllListed most number b s
unfolding unread_from
all_listed zero number b s h = none_listed zero number b s (none_of s (omega (arith, h))) refl
all_listed (suc most) number b s h = ⊎_elim
    (λ none. none_listed (suc most) number b s none (rw none))
    (λ y.
    let r : Reply = reply b (record { entry = y.0; words = lent }) in
    let t : List ℕ = drop (reading s 0).place s in
    let w = read_within s 0 y.0 y.1 in
    let rest = all_listed most (number + 1) r.book t (omega (arith, h, length-drop (reading s 0).place s, w.0)) in
    record {
      put = _;
      stand = rest.stand;
      lists = lists_then (lists_entry number b s y.0 y.1) rest.lists;
      none = rest.none;
      left = rw y.1 rest.left;
    })
    (read_or_none s 0)

begins_more : {whole front : List ℕ} → Begins whole front → (more : List ℕ) → Begins (whole ++ more) front
begins_more {front = front} w more = record { rest = w.rest ++ more; same = ap (λ (l : List ℕ). l ++ more) w.same ∙ append_assoc front w.rest more }

begins_as : {whole other front : List ℕ} → whole ≡ other → Begins other front → Begins whole front
begins_as e w = record { rest = w.rest; same = e ∙ w.same }

line_numbered : (number answer paid held : ℕ) → Begins (entry_line number answer paid held) (with_space (number % 2 ^ 64))
unfolding entry_line
line_numbered number answer paid held = begins_more (begins_more (record { rest = with_space answer; same = refl }) (with_space paid)) (with_newline held)

entry_numbered : (number n : ℕ) (r : Reply) → Begins (entry_lines number n r) (with_space (number % 2 ^ 64))
unfolding entry_lines
entry_numbered number n r = begins_more (line_numbered number _ _ _) _

-- where there are bytes, the listing from an entry on begins with the number of that entry
numbered : (number : ℕ) (b : Book) (s : List ℕ) → (length s ≡ 0 → ⊥) → Begins (listing_from number b s) (with_space (number % 2 ^ 64))
numbered number b s some = ⊎_elim
    (λ none. begins_as (listing_unread number b s none ∙ end_some number (cents_held b) s some) (line_numbered number _ _ _))
    (λ y. begins_as (listing_read number b s y.0 y.1) (begins_more (entry_numbered number b.n _) _))
    (read_or_none s 0)

module _ (limits : Limits) (n : ℕ) (s : List ℕ) where
  all : AllListed (length s) 1 (book_for limits n) s
  all = all_listed (length s) 1 (book_for limits n) s (omega arith)

  abbrev stand : Stand
  stand = all.stand

  -- the header and what the entries put, and the end
  abbrev front : List ℕ
  front = header ++ all.put

  abbrev end : List ℕ
  end = end_line stand.number (cents_held stand.book) stand.left

  stands : Stands limits (n ∷ s) front stand
  stands = stands_listed (stands_first limits n s) all.lists

  left : stand.left ≡ unread (n ∷ s)
  unfolding unread
  left = all.left

  listed : listing limits (n ∷ s) ≡ front ++ end
  listed = stands_ended stands (listing_unread stand.number stand.book stand.left all.none)

  begins : (more : List ℕ) → Begins (listing limits ((n ∷ s) ++ more)) front
  begins more = record { rest = rest (fed stand more); same = stands.whole more }

  listed_whole : unread (n ∷ s) ≡ [] → front ≡ listing limits (n ∷ s)
  unfolding end_line
  listed_whole none = sym (listed ∙ ap (λ (l : List ℕ). front ++ end_line stand.number (cents_held stand.book) l) (left ∙ none) ∙ append-nil front)

  abbrev answer : ℕ
  answer = (reading (unread (n ∷ s)) 0).answer

  answer_left_lem : (reading stand.left 0).answer ≡ answer
  answer_left_lem = ap (λ (l : List ℕ). (reading l 0).answer) left

  -- the line of the bytes left
  last_line : (unread (n ∷ s) ≡ [] → ⊥) → (k : ℕ) → answer ≡ k → EndsUnread (listing limits (n ∷ s)) front k
  last_line some k same = record {
    number = stand.number;
    held = cents_held stand.book;
    same =
        listed
        ∙ ap (λ (l : List ℕ). front ++ l) (end_some stand.number (cents_held stand.book) stand.left (λ z. some (sym left ∙ length_zero stand.left z))
        ∙ ap (λ (a : ℕ). entry_line stand.number a 0 (cents_held stand.book)) (answer_left_lem ∙ same));
  }

  begins_part : (unread (n ∷ s) ≡ [] → ⊥) → (more : List ℕ) → Begins (listing limits ((n ∷ s) ++ more)) (front ++ with_space (stand.number % 2 ^ 64))
  begins_part some more =
      let k = numbered stand.number stand.book (stand.left ++ more) (λ z. some (sym left ∙ length_zero stand.left (omega (arith, z, length-append stand.left more)))) in
      record { rest = k.rest; same = stands.whole more ∙ ap (λ (l : List ℕ). front ++ l) k.same ∙ sym (append_assoc front (with_space (stand.number % 2 ^ 64)) k.rest) }

  module _ (long : answer ≡ 1 → ⊥) where
    some_left : unread (n ∷ s) ≡ [] → ⊥
    some_left z = long (ap (λ (l : List ℕ). (reading l 0).answer) z ∙ reading_empty)

    two_or_three : (answer ≡ 2) ⊎ (answer ≡ 3)
    two_or_three = ⊎_elim (λ one. absurd (long one)) (λ others. others)
        (subst (λ (k : ℕ). (k ≡ 1) ⊎ (k ≡ 2) ⊎ (k ≡ 3)) answer_left_lem (unread_answer stand.left 0 all.none))

    ends : Ends false stand end stand
    ends = record { before = []; lists = lists_none stand; none = all.none; whole = refl; for_good = λ _ short. long (sym answer_left_lem ∙ short) }

    closed : (more : List ℕ) → listing limits ((n ∷ s) ++ more) ≡ listing limits (n ∷ s)
    closed more = stands_closed stands (ends_always ends refl) more ∙ sym listed

  longer_input : (more : List ℕ) → Longer limits (n ∷ s) more
  unfolding last_line all
  longer_input more = record {
    after_entry = λ none. rw (listed_whole none) at (begins more);
    within_entry = λ some short. (front, last_line some 1 short, begins_part some more);
    unreadable = λ long. (two_or_three long, (front, last_line (some_left long) answer refl), closed long more);
  }

-- an input of no byte has the header, and so has every other
header_first : (limits : Limits) (more : List ℕ) → Begins (listing limits more) (listing limits [])
unfolding listing
header_first limits [] = record { rest = []; same = sym (append-nil header) }
header_first limits (n ∷ s) = record { rest = _; same = refl }

longer_than : (limits : Limits) (input more : List ℕ) → Longer limits input more
unfolding unread
longer_than limits [] more = record {
  after_entry = λ _. header_first limits more;
  within_entry = λ some _. absurd (some refl);
  unreadable = λ long. absurd (long reading_empty);
}
longer_than limits (n ∷ s) more = longer_input limits n s more

pub longer_inputs : LongerInputs
longer_inputs = record {
  longer = longer_than;
  told = λ s e q b. reply_answer b (record { entry = e; words = lent }) (read_allowed s 0 e q);
}
