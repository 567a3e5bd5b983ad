-- The program's record and its state: what a store, a new period and a period that leaves do to both.
use Prim.Native.Nat.{ℕ, suc, ◌+◌, ◌-◌, ◌≤◌, ◌<◌}
use mathlib.Core.Path.{◌≡◌, refl, sym, ap, ap₂, subst, ◌∙◌}
use mathlib.Core.List.{List, [], ◌∷◌, ◌++◌, append_assoc}
use mathlib.Core.Bool.{true, false, cond, ◌||◌}
use native.Mathlib.Numerals.{add-one}
use native.Mathlib.Omega.{arith}
use lib.ListN.{length, length-replicate, get_or, take, drop, set, replicate, length-append, length-set}
use lib.Seq.{take-append_seam, drop-append-add, split_at, set_split, set-append_left, set-append_seam, set_at, get_or-take, length-take-le}
use Rattle.std.specs.List.{remove, list_any}
use Rattle.std.proofs.lemmas.List.{replicate-append-replicate}
use Rattle.std.proofs.lemmas.List.Recursion.{same_from_clauses}
use Rattle.settlement.specs.declared.groups.Grouping.{Grouping}
use Rattle.book.specs.rules.Periods.{fresh, raised}
use Rattle.book.specs.rules.Limits.{period_places}
use Rattle.book.specs.rules.State.{State, view, pack, cents_held, held_by, no_period, arrears_before, earlier_arrears, replaced, removed, added, with_periods, with_purses}
use Rattle.book.specs.rules.Valid.{Sound, InBook, Valid}
use Rattle.book.specs.declared.limits.Limits.{Limits}
use Rattle.book.specs.declared.Period.{Period}
use Rattle.book.specs.declared.Book.{Book}
use Rattle.book.proofs.rules.LimitLaws.{few_places}
use Rattle.book.proofs.rules.ListLaws.{all_at}

-- an earlier period that has arrears is one of those that the search tests
pub earlier_any : (i m : ℕ) (ps : List Period) → list_any (arrears_before i m) ps ≡ earlier_arrears i m ps
unfolding earlier_arrears
earlier_any i m = same_from_clauses (list_any (arrears_before i m)) (earlier_arrears i m) (λ p t. arrears_before i m p || t) refl (λ _ _. refl)
    (λ p ps. elim (arrears_before i m p) as (λ t. cond t true (earlier_arrears i m ps) ≡ (t || earlier_arrears i m ps)) [ true ↦ refl | false ↦ refl ])

module _ {b : Book} (v : Valid b) where
  pub count_is : b.count ≡ length (view b).periods
  unfolding pack
  count_is = ap (λ (x : Book). x.count) v.packed

  pub count_few : b.count ≤ period_places
  count_few = omega (arith, count_is, few_places v.fit)

  pub kept_held : cents_held b ≡ held_by (view b)
  unfolding pack
  kept_held = ap (λ (x : Book). x.held) v.packed

  -- what the program reads at a place in use
  module _ (k : ℕ) (h : k < b.count) where
    pub read_at : get_or b.periods k no_period ≡ get_or (view b).periods k no_period
    read_at = sym (get_or-take b.count b.periods k no_period h)

    pub read_in_book : InBook b.n b.grouping (get_or b.periods k no_period)
    read_in_book = subst (InBook b.n b.grouping) (sym read_at) (all_at (InBook b.n b.grouping) (view b).periods k no_period (omega (arith, count_is)) v.fit.each)

-- the record s that stands behind a book seen as s₀: a place in use is one of the places, and its period is sound
module _ {s₀ s : Book} (same : s ≡ s₀) (v : Valid s) {j : ℕ} (used : j < s₀.count) where
  seen_used : j < s.count
  seen_used = omega (arith, used, ap (λ (b : Book). b.count) same)

  pub place_few : j < period_places
  place_few = omega (arith, count_few v, seen_used)

  pub place_sound : Sound s.n (get_or s.periods j no_period)
  place_sound = (read_in_book v j seen_used).sound

-- the record with other cents held, in as many periods, and other purses
abbrev pub renewed : Book → ℕ → List Period → List ℕ → Book
renewed b held periods purses = record {
  n = b.n;
  grouping = b.grouping;
  limits = b.limits;
  highest = b.highest;
  count = b.count;
  held = held;
  periods = periods;
  purses = purses;
}

-- a store, a new period, and a period that leaves, in the record; `held` is what the book then holds
abbrev pub put : Book → ℕ → Period → ℕ → List ℕ → Book
put b j p held purses = renewed b held (set b.periods j p) purses

abbrev pub push : Book → Period → Book
push b p = record {
  n = b.n;
  grouping = b.grouping;
  limits = b.limits;
  highest = p.number;
  count = b.count + 1;
  held = b.held;
  periods = set b.periods b.count p;
  purses = b.purses;
}

abbrev pub drops : Book → ℕ → ℕ → Book
drops b j held = record {
  n = b.n;
  grouping = b.grouping;
  limits = b.limits;
  highest = b.highest;
  count = b.count - 1;
  held = held;
  periods = set (remove b.periods j ++ get_or b.periods j no_period ∷ []) (period_places - 1) (fresh 0);
  purses = b.purses;
}

-- cents added to a purse, in the record
abbrev pub raise : Book → ℕ → ℕ → Book
raise b i cents = renewed b (b.held + cents) b.periods (raised b.purses i cents)

module _ (s : State) where
  put_pack : (j : ℕ) (p : Period) (purses : List ℕ) → j < length s.periods
      → put (pack s) j p (held_by (replaced (with_purses s purses) j p)) purses ≡ pack (replaced (with_purses s purses) j p)
  unfolding pack replaced
  put_pack j p purses h = rw (
    set-append_left s.periods (replicate (period_places - length s.periods) (fresh 0)) j p h,
    ← set_split s.periods j p h,
    length-set s.periods j p,
  )

  push_pack : (p : Period) → length s.periods < period_places → held_by s ≡ held_by (added s p) → push (pack s) p ≡ pack (added s p)
  unfolding pack added
  push_pack p h e =
      let ps = s.periods in
      let q : period_places - length ps ≡ suc (period_places - (length ps + 1)) = omega arith in
      rw (
        e,
        q,
        length-append ps (p ∷ []),
        set-append_seam ps (fresh 0) (replicate (period_places - (length ps + 1)) (fresh 0)) p,
        append_assoc ps (p ∷ []) (replicate (period_places - (length ps + 1)) (fresh 0)),
      )

module _ (n : ℕ) (grouping : Grouping) (limits : Limits) (highest : ℕ) (purses : List ℕ) (pre ys : List Period) (x : Period) (few : length (pre ++ x ∷ ys) ≤ period_places) where
  count_one : length (pre ++ x ∷ ys) ≡ suc (length pre + length ys)
  count_one = length-append pre (x ∷ ys) ∙ omega arith

  left_rows : (w : Period) → set (remove ((pre ++ x ∷ ys) ++ replicate (period_places - length (pre ++ x ∷ ys)) (fresh 0)) (length pre) ++ w ∷ []) (period_places - 1) (fresh 0)
      ≡ (pre ++ ys) ++ replicate (period_places - length (pre ++ ys)) (fresh 0)
  left_rows w =
      let blanks = period_places - length (pre ++ x ∷ ys) in
      let r = replicate blanks (fresh 0) in
      let one_less = length-append pre ys in
      let m : period_places - length (pre ++ ys) ≡ blanks + 1 = omega (arith, count_one, one_less) in
      let size : length ((pre ++ ys) ++ r) ≡ period_places - 1 = omega (arith, count_one, one_less, length-append (pre ++ ys) r, length-replicate blanks (fresh 0)) in
      let out : remove ((pre ++ x ∷ ys) ++ r) (length pre) ≡ (pre ++ ys) ++ r
      = rw (append_assoc pre (x ∷ ys) r, take-append_seam pre (x ∷ (ys ++ r)), ← add-one (length pre), drop-append-add pre (x ∷ (ys ++ r)) 1, append_assoc pre ys r) in
      rw (out, set_at ((pre ++ ys) ++ r) w [] (fresh 0) (period_places - 1) size, append_assoc (pre ++ ys) r (fresh 0 ∷ []), replicate-append-replicate blanks 1 (fresh 0), m)

  abbrev with : List Period → State
  with ps = record { n = n; grouping = grouping; limits = limits; highest = highest; periods = ps; purses = purses }

  drops_pack : drops (pack (with (pre ++ x ∷ ys))) (length pre) (held_by (with (pre ++ ys))) ≡ pack (with (pre ++ ys))
  unfolding pack
  drops_pack =
      let d : length (pre ++ x ∷ ys) - 1 ≡ length (pre ++ ys) = omega (arith, count_one, length-append pre ys) in
      λ z. record { n = n; grouping = grouping; limits = limits; highest = highest; count = d z; held = held_by (with (pre ++ ys)); periods = left_rows (get_or (pack (with (pre ++ x ∷ ys))).periods (length pre) no_period) z; purses = purses }

module _ {b : Book} (v : Valid b) where
  pub stored : (j : ℕ) (p : Period) (held : ℕ) (purses : List ℕ) → j < b.count → held ≡ held_by (replaced (with_purses (view b) purses) j p)
      → put b j p held purses ≡ pack (replaced (with_purses (view b) purses) j p)
  stored j p held purses h e = ap₂ (λ (x : Book) k. put x j p k purses) v.packed e ∙ put_pack (view b) j p purses (omega (arith, count_is v))

  pub pushed : (p : Period) → b.count < period_places → held_by (view b) ≡ held_by (added (view b) p) → push b p ≡ pack (added (view b) p)
  pushed p h e = ap (λ (x : Book). push x p) v.packed ∙ push_pack (view b) p (omega (arith, count_is v)) e

  pub dropped : (j held : ℕ) → j < b.count → held ≡ held_by (removed (view b) j) → drops b j held ≡ pack (removed (view b) j)
  unfolding removed
  dropped j held h q =
      let ps = (view b).periods in
      let l : j < length ps = omega (arith, count_is v) in
      let e = split_at ps j no_period l in
      ap₂ (λ (x : Book) k. drops x j k) v.packed q
      ∙ ap₂ (λ (q : List Period) i. drops (pack (with_periods (view b) q)) i (held_by (with_periods (view b) (take j ps ++ drop (suc j) ps)))) e (sym (length-take-le j ps (omega arith)))
      ∙ drops_pack b.n b.grouping b.limits b.highest b.purses (take j ps) (drop (suc j) ps) (get_or ps j no_period) (subst (λ (q : List Period). length q ≤ period_places) e (few_places v.fit))

  pub raised_purse : (i cents : ℕ) → held_by (with_purses (view b) (raised b.purses i cents)) ≡ b.held + cents
      → raise b i cents ≡ pack (with_purses (view b) (raised b.purses i cents))
  unfolding pack
  raised_purse i cents e = λ z. record {
    n = b.n;
    grouping = b.grouping;
    limits = b.limits;
    highest = b.highest;
    count = count_is v z;
    held = sym e z;
    periods = ap (λ (x : Book). x.periods) v.packed z;
    purses = raised b.purses i cents;
  }
