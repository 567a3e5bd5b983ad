use Prim.Native.Nat.{ℕ, ◌-◌, ◌<◌, min}
use mathlib.Core.Path.{◌≡◌, sym, ap, subst, ◌∙◌}
use mathlib.Core.Bool.{Bool, true, false, cond}
use mathlib.Core.List.{List}
use native.Mathlib.Omega.{arith}
use lib.ListN.{replicate, length-replicate, get_or}
use Rattle.exact.specs.Rows.{at}
use Rattle.book.specs.rules.Kinds.{is_settle}
use Rattle.book.specs.rules.Periods.{is_noticed}
use Rattle.book.specs.rules.Purses.{with_drawn, purses_left, purses_after, after_drawing}
use Rattle.book.specs.rules.State.{view, pack, no_period, earlier_arrears}
use Rattle.book.specs.rules.Valid.{Valid}
use Rattle.book.specs.inner.Ways.{NamedAt}
use Rattle.book.specs.declared.entries.Entry.{Entry}
use Rattle.book.specs.declared.Period.{Period}
use Rattle.book.specs.declared.Book.{Book}
use Rattle.book.proofs.records.Packing.{place_few, place_sound, put}
use Rattle.book.proofs.records.Named.{Found, found_period, named_entry, drawn_book, drawn_valid, drawn_other, drawn_settle}
use Rattle.book.proofs.Book.draw_for.Goals as goal

-- the record s behind the book s₀, whose period at place j the entry names
module _ {s₀ s : Book} {e : Entry} {j : ℕ} (same : s ≡ s₀) (v : Valid s) (named : NamedAt s₀ e s₀.n j) where
  -- the entry is found, whatever words are lent to it
  found : Found s e (replicate s.n 0) j
  found =
      let r = rw (← same) at named in
      named_entry (replicate s.n 0) v (rw (length-replicate {A = ℕ} s.n 0) r)

  drew : put s j (found_period s e) s.held (purses_after (view s) e) ≡ pack (after_drawing (view s₀) e)
  drew = drawn_book found ∙ ap (λ (b : Book). pack (after_drawing (view b) e)) same

  left_alone : {t : Bool} → t ≡ is_settle e → t ≡ false → s₀ ≡ pack (after_drawing (view s₀) e)
  left_alone told other = sym same ∙ drawn_other found (sym told ∙ other) ∙ drew

  -- what a settle entry draws is moved
  module _ {t : Bool} (told : t ≡ is_settle e) (yes : t ≡ true) (o : List ℕ)
      (drawable : (i : ℕ) → i < s₀.n → at o i ≡ cond (earlier_arrears i (get_or s.periods j no_period).number (view s₀).periods) 0 (at s₀.purses i))
      (q : Period) (left : List ℕ)
      (period : let p = get_or s.periods j no_period in let drawn : ℕ → ℕ = λ i. min (at o i) (at p.payable i - at p.received i) in q ≡ cond (is_noticed p.stage) (with_drawn s.n drawn p) p)
      (purses : let p = get_or s.periods j no_period in let drawn : ℕ → ℕ = λ i. min (at o i) (at p.payable i - at p.received i) in left ≡ cond (is_noticed p.stage) (purses_left s.n drawn s.purses) s.purses) where
    moved : put s j q s.held left ≡ put s j (found_period s e) s.held (purses_after (view s) e)
    moved = drawn_settle found (sym told ∙ yes) o (rw (← same) at drawable) q left period purses

    moved_valid : Valid (put s j q s.held left)
    moved_valid = subst Valid (sym moved) (drawn_valid found)

pub offset_bounds-self-inside-j : goal.offset_bounds-self-inside-j
offset_bounds-self-inside-j c = omega (arith, place_few c.self.view_is c.self.invariant c.requires.used)

pub bounds-self-inside-j : goal.bounds-self-inside-j
bounds-self-inside-j c = omega (arith, place_few c.self.view_is c.self.invariant c.requires.used)

pub offset_bounds-self-inside-j-then-is_settle : goal.offset_bounds-self-inside-j-then-is_settle
offset_bounds-self-inside-j-then-is_settle c = omega (arith, place_few c.self.view_is c.self.invariant c.requires.used)

pub bounds-self-inside-j-then-is_settle : goal.bounds-self-inside-j-then-is_settle
bounds-self-inside-j-then-is_settle c = omega (arith, place_few c.self.view_is c.self.invariant c.requires.used)

pub draw-requires : goal.draw-requires
draw-requires c = place_sound c.self.view_is c.self.invariant c.requires.used

pub invariant_of-self : goal.invariant_of-self
invariant_of-self c =
    moved_valid c.self.view_is c.self.invariant c.requires c.is_settle.ensures c.if-is_settle.true _ c.drawable_purses-drawable.ensures _ _ c.draw.ensures.0 c.draw.ensures.1

pub returns-then-is_settle : goal.returns-then-is_settle
returns-then-is_settle c =
    moved c.self.view_is c.self.invariant c.requires c.is_settle.ensures c.if-is_settle.true _ c.drawable_purses-drawable.ensures _ _ c.draw.ensures.0 c.draw.ensures.1
    ∙ drew c.self.view_is c.self.invariant c.requires

pub returns-else-is_settle : goal.returns-else-is_settle
returns-else-is_settle c = left_alone c.self.view_is c.self.invariant c.requires c.is_settle.ensures c.if-is_settle.false
