-- What is to be done after a block's runs.
use Rattle.std.proofs.Common.{◌≡◌, ℕ, Bool, false, List, [], ◌∷◌, ◌++◌, length, sym, refl, ap, ◌∙◌, append-nil, arith}
use Rattle.book.specs.layouts.Reading.{ReadOutcome, reading}
use Rattle.book.specs.rules.State.{cents_held}
use Rattle.book.proofs.Laws.{reading_before, reading_empty}
use Rattle.lister.specs.Lines.{entry_line}
use Rattle.lister.specs.Listing.{end_line, listing_from}
use Rattle.lister.specs.Pieces.{Stand, fed, rest}
use Rattle.lister.specs.Turns.{Ends}
use Rattle.lister.proofs.ListingLaws.{listing_unread}

-- bytes of which there are none, and some
pub length_zero : (s : List ℕ) → length s ≡ 0 → s ≡ []
length_zero [] h = refl
length_zero (x ∷ s) h = absurd (omega arith)

-- nothing is put where no bytes are left
pub end_none : (number held : ℕ) (s out : List ℕ) → length s ≡ 0 → out ≡ out ++ end_line number held s
unfolding end_line
end_none number held [] out h = sym (append-nil out)
end_none number held (x ∷ s) out h = absurd (omega arith)

pub end_some : (number held : ℕ) (s : List ℕ) → (length s ≡ 0 → ⊥) → end_line number held s ≡ entry_line number (reading s 0).answer 0 held
unfolding end_line
end_some number held [] h = absurd (h refl)
end_some number held (x ∷ s) h = refl

-- the line of bytes that cannot be read, and are not just short, is the same whatever follows them
end_before : (number held : ℕ) (s more : List ℕ) → ((reading s 0).answer ≡ 1 → ⊥) → end_line number held (s ++ more) ≡ end_line number held s
unfolding end_line
end_before number held [] more not_IsShort = absurd (not_IsShort reading_empty)
end_before number held (x ∷ s) more not_IsShort = ap (λ (r : ReadOutcome). entry_line number r.answer 0 held) (reading_before (x ∷ s) more not_IsShort)

-- a listing that ends before the bytes left is whole, at the end of the input or whatever follows
module _ {ended : Bool} {a z : Stand} {put : List ℕ} (e : Ends ended a put z) where
  pub ends_here : rest a ≡ put
  ends_here =
      ap (listing_from a.number a.book) (sym (append-nil a.left)) ∙ e.lists.whole []
      ∙ ap (λ (s : List ℕ). e.before ++ listing_from z.number z.book s) (append-nil z.left)
      ∙ ap (λ (x : List ℕ). e.before ++ x) (listing_unread z.number z.book z.left e.none) ∙ sym e.whole

  pub ends_always : ended ≡ false → (more : List ℕ) → rest (fed a more) ≡ put
  ends_always q more =
      let not_IsShort = e.for_good q in
      e.lists.whole more
      ∙ ap (λ (x : List ℕ). e.before ++ x)
      (listing_unread z.number z.book (z.left ++ more) (ap (λ (r : ReadOutcome). r.entry) (reading_before z.left more not_IsShort) ∙ e.none)
      ∙ end_before z.number (cents_held z.book) z.left more not_IsShort)
      ∙ sym e.whole
