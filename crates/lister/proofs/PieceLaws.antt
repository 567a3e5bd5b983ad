-- Listings put one after the other, and further bytes handed over.
use Rattle.std.proofs.Common.{◌≡◌, ℕ, ◌+◌, ◌%◌, ◌^◌, List, [], ◌∷◌, ◌++◌, length, drop, sym, refl, ap, ◌∙◌, append_assoc, append-nil, arith}
use lib.Seq.{drop-append-le}
use Rattle.book.specs.layouts.Reading.{ReadOutcome, reading}
use Rattle.book.specs.rules.Step.{Reply, reply}
use Rattle.book.specs.declared.entries.Entry.{Entry}
use Rattle.book.specs.declared.limits.Limits.{Limits}
use Rattle.book.specs.declared.Book.{Book}
use Rattle.book.proofs.Laws.{reading_before, none_answer, read_within}
use Rattle.lister.specs.Lines.{header}
use Rattle.lister.specs.Listing.{lent, entry_lines, listing_from, listing, book_for}
use Rattle.lister.specs.Pieces.{Stand, fed, rest, Lists, Stands}
use Rattle.lister.proofs.ListingLaws.{listing_mod, listing_read}

pub lists_none : (a : Stand) → Lists a [] a
lists_none a = record { whole = λ more. refl }

pub lists_then : {a b c : Stand} {l r : List ℕ} → Lists a l b → Lists b r c → Lists a (l ++ r) c
lists_then {a} {b} {c} {l} {r} f g = record {
  whole = λ more. f.whole more ∙ ap (λ (x : List ℕ). l ++ x) (g.whole more) ∙ sym (append_assoc l r (rest (fed c more)));
}

-- the entry at the front of the bytes left is read whatever follows it, and listed
module _ (number : ℕ) (b : Book) (s : List ℕ) (e : Entry) (q : (reading s 0).entry ≡ e ∷ []) where
  abbrev r : Reply
  r = reply b (record { entry = e; words = lent })

  not_short : (reading s 0).answer ≡ 1 → ⊥
  not_short h = absurd (omega (arith, ap length (sym q ∙ none_answer s 0 (λ z. absurd (omega (arith, h, z))))))

  pub lists_entry : Lists
      (record { number = number; book = b; left = s })
      (entry_lines number b.n r)
      (record { number = number + 1; book = r.book; left = drop (reading s 0).place s })
  lists_entry = record {
    whole = λ more.
        let same = reading_before s more not_short in
        listing_read number b (s ++ more) e (ap (λ (x : ReadOutcome). x.entry) same ∙ q)
        ∙ ap (λ (l : List ℕ). entry_lines number b.n r ++ listing_from (number + 1) r.book l)
        (ap (λ (x : ReadOutcome). drop x.place (s ++ more)) same ∙ drop-append-le (reading s 0).place s more (read_within s 0 e q).1);
  }

-- the number of the next entry is kept modulo 2 ^ 64
pub lists_mod : {a : Stand} {l s : List ℕ} {m k : ℕ} {b : Book} → Lists a l (record { number = m; book = b; left = s }) → m % 2 ^ 64 ≡ k % 2 ^ 64
    → Lists a l (record { number = k; book = b; left = s })
lists_mod {a} {l} {s} {m} {k} {b} f h = record { whole = λ more. f.whole more ∙ ap (λ (x : List ℕ). l ++ x) (listing_mod m k b (s ++ more) h) }

-- n was handed over, and what stands behind it
pub stands_first : (limits : Limits) (n : ℕ) (s : List ℕ) → Stands limits (n ∷ s) header (record { number = 1; book = book_for limits n; left = s })
unfolding listing
stands_first limits n s = record { whole = λ more. refl }

module _ {limits : Limits} {seen put : List ℕ} {a : Stand} (s : Stands limits seen put a) where
  -- a piece more of the input
  pub stands_fed : (piece : List ℕ) → Stands limits (seen ++ piece) put (fed a piece)
  stands_fed piece = record {
    whole = λ more.
        ap (listing limits) (append_assoc seen piece more) ∙ s.whole (piece ++ more)
        ∙ ap (λ (l : List ℕ). put ++ listing_from a.number a.book l) (sym (append_assoc a.left piece more));
  }

  -- some of it is listed
  pub stands_listed : {l : List ℕ} {z : Stand} → Lists a l z → Stands limits seen (put ++ l) z
  stands_listed {l} {z} f = record {
    whole = λ more. s.whole more ∙ ap (λ (x : List ℕ). put ++ x) (f.whole more) ∙ sym (append_assoc put l (rest (fed z more)));
  }

  -- nothing follows
  pub stands_now : listing limits seen ≡ put ++ rest a
  stands_now =
      ap (listing limits) (sym (append-nil seen)) ∙ s.whole [] ∙ ap (λ (l : List ℕ). put ++ listing_from a.number a.book l) (append-nil a.left)

  -- the listing is whole, at the end of the input or whatever follows
  pub stands_ended : {l : List ℕ} → rest a ≡ l → listing limits seen ≡ put ++ l
  stands_ended e = stands_now ∙ ap (λ (x : List ℕ). put ++ x) e

  pub stands_closed : {l : List ℕ} → ((more : List ℕ) → rest (fed a more) ≡ l) → (more : List ℕ) → listing limits (seen ++ more) ≡ put ++ l
  stands_closed e more = s.whole more ∙ ap (λ (x : List ℕ). put ++ x) (e more)

-- an input of no byte
pub listing_empty : (limits : Limits) → listing limits [] ≡ header
unfolding listing
listing_empty limits = refl
