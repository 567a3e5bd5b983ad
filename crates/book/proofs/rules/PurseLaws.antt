-- What is drawn from the purses: within purse and unpaid; the period stays sound, and receives what leaves the purses.
use Prim.Native.Nat.{ℕ, ◌+◌, ◌-◌, ◌≤◌, ◌<◌, min}
use mathlib.Core.Path.{◌≡◌, refl, sym, ap, subst, ◌∙◌}
use mathlib.Core.Bool.{Bool, true, false, cond}
use mathlib.Core.List.{List}
use native.Mathlib.Omega.{arith}
use lib.ListN.{length}
use Rattle.exact.specs.Rows.{places, at, sum, cells}
use Rattle.exact.proofs.Cases.{cases}
use Rattle.exact.proofs.RowLaws.{sum_add, sum_cong, cells_at, cells_cong, cells_both, cells_length, Holds, holds_own}
use Rattle.settlement.specs.Settling.{held}
use Rattle.settlement.specs.declared.groups.Grouping.{Grouping}
use Rattle.book.specs.rules.Periods.{side_total, holds, leaves, with_rows}
use Rattle.book.specs.rules.State.{State, earlier_arrears}
use Rattle.book.specs.rules.Purses.{drawn_from, with_drawn, purses_left}
use Rattle.book.specs.rules.Valid.{Sound, InBook, AtStage, BeforeSettlement}
use Rattle.book.specs.declared.Stage.TheVariants.{Noticed}
use Rattle.book.specs.declared.Period.{Period}
use Rattle.book.proofs.rules.ChangeLaws.{paid_within}

module _ (s : State) (p : Period) (i : ℕ) where
  pub drawn_purse : drawn_from s p i ≤ at s.purses i
  unfolding drawn_from
  drawn_purse = cases (λ c. c ≤ at s.purses i) (earlier_arrears i p.number s.periods) (λ _. omega arith) (λ _. omega arith)

  pub drawn_unpaid : drawn_from s p i ≤ at p.payable i - at p.received i
  unfolding drawn_from
  drawn_unpaid = cases (λ c. c ≤ at p.payable i - at p.received i) (earlier_arrears i p.number s.periods) (λ _. omega arith) (λ _. omega arith)

-- any cents, moved into a period ..
module _ (n : ℕ) (drawn : ℕ → ℕ) (p : Period) where
  moved_at : (i : ℕ) → i < n → at (with_drawn n drawn p).received i ≡ at p.received i + drawn i
  unfolding with_drawn
  moved_at i h = cells_at (λ i. at p.received i + drawn i) n i h

  pub drawn_number : (with_drawn n drawn p).number ≡ p.number
  unfolding with_drawn
  drawn_number = refl

  pub drawn_stage : (with_drawn n drawn p).stage ≡ p.stage
  unfolding with_drawn
  drawn_stage = refl

  moved_total : sum (at (with_drawn n drawn p).received) n ≡ sum (at p.received) n + sum drawn n
  moved_total = sum_cong (at (with_drawn n drawn p).received) (λ i. at p.received i + drawn i) n moved_at ∙ sum_add (at p.received) drawn n

  pub moved_holds : Sound n p → holds n (with_drawn n drawn p) ≡ holds n p + sum drawn n
  unfolding holds held with_drawn
  moved_holds s = omega (arith, moved_total, paid_within n p s)

  -- within what is unpaid
  module _ (noticed : p.stage ≡ Noticed) (unpaid : (i : ℕ) → i < n → drawn i ≤ at p.payable i - at p.received i) where
    pub moved_within : Sound n p → (i : ℕ) → i < n → at p.received i + drawn i ≤ at p.payable i
    moved_within s i h =
        let before : BeforeSettlement n p = subst (AtStage n p) noticed s.at_stage in
        omega (arith, unpaid i h, before.within i h)

    moved_sound : Sound n p → Sound n (with_drawn n drawn p)
    unfolding with_drawn side_total
    moved_sound s =
        let before : BeforeSettlement n p = subst (AtStage n p) noticed s.at_stage in
        record {
          totals_size = s.totals_size;
          by_size = s.by_size;
          to_size = s.to_size;
          received_size = cells_length (λ i. at p.received i + drawn i) n s.bounded.few;
          arrears_size = s.arrears_size;
          kept = s.kept;
          bounded = s.bounded;
          at_stage = subst (AtStage n (with_drawn n drawn p)) (sym noticed) (record {
            equal = before.equal;
            due = before.due;
            within = λ i h. omega (arith, moved_at i h, moved_within s i h);
            nothing_paid_lem = before.nothing_paid_lem;
          });
        }

    pub moved_in_book : {grouping : Grouping} → InBook n grouping p → InBook n grouping (with_drawn n drawn p)
    unfolding with_drawn leaves
    moved_in_book b = record { sound = moved_sound b.sound; stays = b.stays; row = b.row }

-- .. and out of the purses
module _ (n : ℕ) (drawn : ℕ → ℕ) (purses : List ℕ) where
  pub left_length : n ≤ places → length (purses_left n drawn purses) ≡ places
  unfolding purses_left
  left_length = cells_length (λ i. at purses i - drawn i) n

  pub left_at : (i : ℕ) → i < n → at (purses_left n drawn purses) i ≡ at purses i - drawn i
  unfolding purses_left
  left_at i h = cells_at (λ i. at purses i - drawn i) n i h

  pub left_total : ((i : ℕ) → i < n → drawn i ≤ at purses i) → sum (at (purses_left n drawn purses)) n + sum drawn n ≡ sum (at purses) n
  left_total w = omega (
    arith,
    sum_add (at (purses_left n drawn purses)) drawn n,
    sum_cong (λ i. at (purses_left n drawn purses) i + drawn i) (at purses) n (λ i h. omega (arith, left_at i h, w i h)),
  )

-- the smaller of a purse that may be drawn on and of what is unpaid is what is drawn
pub drawn_same : (s : State) (p : Period) (o : List ℕ) → ((i : ℕ) → i < s.n → at o i ≡ cond (earlier_arrears i p.number s.periods) 0 (at s.purses i))
    → (i : ℕ) → i < s.n → min (at o i) (at p.payable i - at p.received i) ≡ drawn_from s p i
unfolding drawn_from
drawn_same s p o e i h = rw (e i h) (go (earlier_arrears i p.number s.periods) (at s.purses i) (at p.payable i - at p.received i))
  where
    go : (t : Bool) (x y : ℕ) → min (cond t 0 x) y ≡ cond t 0 (min x y)
    go true x y = omega arith
    go false x y = refl

-- what is moved goes by the cents below n
module _ (n : ℕ) (f g : ℕ → ℕ) (e : (i : ℕ) → i < n → f i ≡ g i) where
  pub moved_cong : (p : Period) → with_drawn n f p ≡ with_drawn n g p
  unfolding with_drawn
  moved_cong p = ap (λ (l : List ℕ). with_rows p p.stage p.payable l p.paid p.claim p.arrears) (cells_cong _ _ n (λ i h. ap (λ c. at p.received i + c) (e i h)))

  pub left_cong : (purses : List ℕ) → purses_left n f purses ≡ purses_left n g purses
  unfolding purses_left
  left_cong purses = cells_cong _ _ n (λ i h. ap (λ c. at purses i - c) (e i h))

-- from rows that arrays hold
module _ (n : ℕ) (drawn : ℕ → ℕ) (row : List ℕ) (q : Holds row drawn n) where
  pub moved_row : (p : Period) (received : List ℕ) → received ≡ cells (λ i. at p.received i + at row i) n
      → with_rows p p.stage p.payable received p.paid p.claim p.arrears ≡ with_drawn n drawn p
  unfolding with_drawn
  moved_row p received e = ap (λ (l : List ℕ). with_rows p p.stage p.payable l p.paid p.claim p.arrears) (e ∙ cells_both ◌+◌ (holds_own p.received n) q)

  pub left_row : (purses left : List ℕ) → left ≡ cells (λ i. at purses i - at row i) n → left ≡ purses_left n drawn purses
  unfolding purses_left
  left_row purses left e = e ∙ cells_both ◌-◌ (holds_own purses n) q
