-- What the book draws from the purses is what the log comes to; so drawing keeps the invariant.
use Prim.Native.Nat.{ℕ, suc, ◌+◌, ◌-◌, ◌≤◌, ◌<◌, min}
use mathlib.Core.Path.{◌≡◌, refl, sym, ap, ap₂, subst, ◌∙◌}
use mathlib.Core.Bool.{Bool, true, false, cond, true≢false, false≢true}
use mathlib.Core.List.{List, [], ◌∷◌, ◌++◌}
use mathlib.Core.Logic.{◌⊎◌, inl, inr}
use native.Mathlib.Omega.{arith}
use borrow.Author.Tests.{eq-eqb, ne_eqb, ltb-true, ltb-false, lt-ltb}
use lib.Dec.{eqb, ltb}
use lib.ListN.{take, drop}
use Rattle.exact.specs.Rows.{at, sum}
use Rattle.exact.proofs.RowLaws.{sum_zero, sum_term, cells_at}
use Rattle.settlement.specs.Month.{Month}
use Rattle.settlement.specs.Notice as notice
use Rattle.settlement.specs.Groups.{group_retention}
use Rattle.settlement.specs.declared.groups.Grouping.{Grouping}
use Rattle.settlement.proofs.Laws.{retention_sound, unpaid_exact}
use Rattle.book.specs.rules.Kinds.{period_of}
use Rattle.book.specs.rules.Periods.{is_settled, month_of}
use Rattle.book.specs.rules.State.{State, numbers, find, period_at, arrears_before, earlier_arrears, replaced}
use Rattle.book.specs.rules.Purses.{drawn_from, with_drawn, purses_left, settles}
use Rattle.book.specs.rules.Refusals.{Input}
use Rattle.book.specs.rules.Valid.{All, InBook, SoundState}
use Rattle.book.specs.history.Log.{Account, Ledger, nothing, moved_in, month_in, retention, payable, unpaid, arrears, arrears_in, draws, with_draws}
use Rattle.book.specs.history.Demand3.{Has}
use Rattle.book.specs.inner.Ways.{Entered}
use Rattle.book.specs.declared.Stage.{Stage}
use Rattle.book.specs.declared.Stage.TheVariants.{Opened, Noticed, Settled}
use Rattle.book.specs.declared.Period.{Period}
use Rattle.book.proofs.rules.DrawingLaws.{settling}
use Rattle.book.proofs.rules.ListLaws.{all_right, find_number, find_split}
use Rattle.book.proofs.rules.PurseLaws.{drawn_purse, drawn_unpaid, drawn_number, moved_within, left_at}
use Rattle.book.proofs.rules.SettlementLaws.{due_in_book, within_payable}
use Rattle.book.proofs.rules.StepLaws.{Names}
use Rattle.book.proofs.rules.ValidLaws.{named_in_book}
use Rattle.book.proofs.history.LogLaws.{moved_openings, moved_own, moved_other}
use Rattle.book.proofs.history.Tracking.{Unsettled, Staged, Tracks, track_drawn}
use Rattle.book.proofs.history.Reckoned.{arrears_is}
use Rattle.book.proofs.history.Invariant.{Closed, Kept, Inv, stays}

-- whether a period bars i, as a fact
module _ (i k : ℕ) (p : Period) where
  bars : arrears_before i k p ≡ true → (p.number < k) × (is_settled p.stage ≡ true) × (0 < at p.arrears i)
  unfolding arrears_before
  bars = go (ltb p.number k) (is_settled p.stage) refl refl
    where
      go : (t u : Bool) → ltb p.number k ≡ t → is_settled p.stage ≡ u → cond t (cond u (ltb 0 (at p.arrears i)) false) false ≡ true
          → (p.number < k) × (is_settled p.stage ≡ true) × (0 < at p.arrears i)
      go true true a b e = (ltb-true p.number k a, b, ltb-true 0 (at p.arrears i) e)
      go true false a b e = absurd (false≢true e)
      go false u a b e = absurd (false≢true e)

  bars_not : arrears_before i k p ≡ false → p.number < k → cond (is_settled p.stage) (at p.arrears i) 0 ≡ 0
  unfolding arrears_before
  bars_not e l = go (is_settled p.stage) (rw (lt-ltb p.number k l) at e)
    where
      go : (u : Bool) → cond u (ltb 0 (at p.arrears i)) false ≡ false → cond u (at p.arrears i) 0 ≡ 0
      go true q = omega (arith, ltb-false 0 (at p.arrears i) q)
      go false q = refl

module _ (n : ℕ) (grouping : Grouping) (g : Ledger) (i : ℕ) (member : i < n) where
  abbrev arrears_of : ℕ → ℕ
  arrears_of = arrears_in n (retention n grouping) g i

  -- the arrears that the log comes to are those of the period
  arrears_here : (p : Period) → Kept n grouping g p → arrears_of p.number ≡ cond (is_settled p.stage) (at p.arrears i) 0
  unfolding arrears_in
  arrears_here p k = go p.stage k.tracks.staged
    where
      a : Account
      a = g.account p.number

      go : (t : Stage) → Staged n grouping p a t → cond (eqb a.settlements 0) 0 (arrears n (retention n grouping) a i) ≡ cond (is_settled t) (at p.arrears i) 0
      go Opened u = rw (eq-eqb a.settlements 0 u.unsettled)
      go Noticed u = rw (eq-eqb a.settlements 0 u.unsettled)
      go Settled u = rw (ne_eqb a.settlements 0 (λ e. omega (arith, u.settled))) (omega (arith, arrears_is n p a k.tracks u i member))

  -- a period that bars i is among those whose arrears are summed
  some_arrears : (k : ℕ) (l : List Period) → All (Kept n grouping g) l → earlier_arrears i k l ≡ true → 0 < sum arrears_of k
  unfolding earlier_arrears
  some_arrears k [] u e = absurd (false≢true e)
  some_arrears k (p ∷ l) u e = go (arrears_before i k p) refl e (some_arrears k l u.1)
    where
      go : (t : Bool) → arrears_before i k p ≡ t → cond t true (earlier_arrears i k l) ≡ true → (earlier_arrears i k l ≡ true → 0 < sum arrears_of k) → 0 < sum arrears_of k
      go true q f later =
          let b = bars i k p q in
          omega (arith, b.2, rw b.1 at (arrears_here p u.0), sum_term arrears_of k p.number b.0)
      go false q f later = later f

  no_arrears : (k : ℕ) (l : List Period) → All (Kept n grouping g) l → earlier_arrears i k l ≡ false → (j : ℕ) → j < k → Has j (numbers l) → arrears_of j ≡ 0
  unfolding earlier_arrears
  no_arrears k [] u e j h q = elim q [ ]
  no_arrears k (p ∷ l) u e j h q = go (arrears_before i k p) refl e q (no_arrears k l u.1)
    where
      go : (t : Bool) → arrears_before i k p ≡ t → cond t true (earlier_arrears i k l) ≡ false → Has j (numbers (p ∷ l))
          → (earlier_arrears i k l ≡ false → (j : ℕ) → j < k → Has j (numbers l) → arrears_of j ≡ 0) → arrears_of j ≡ 0
      go true r f q later = absurd (true≢false f)
      go false r f (inl q) later = subst (λ (j : ℕ). j < k → arrears_of j ≡ 0) q (λ h. arrears_here p u.0 ∙ bars_not i k p r h) h
      go false r f (inr q) later = later f j h q

  -- a payer is barred just where the log has arrears of it in earlier periods
  module _ (highest : ℕ) (ps : List Period) (purses : List ℕ) (inv : Inv n grouping highest ps purses g) (k : ℕ) where
    clear_before : earlier_arrears i k ps ≡ false → (j : ℕ) → j < k → arrears_in n (retention n grouping) g i j ≡ 0
    unfolding arrears_in nothing
    clear_before e j h = go (inv.known j)
      where
        go : (g.account j ≡ nothing) ⊎ (Has j (numbers ps) ⊎ Closed n grouping (g.account j)) → arrears_of j ≡ 0
        go (inl q) = rw (eq-eqb (g.account j).settlements 0 (ap (λ (a : Account). a.settlements) q))
        go (inr (inl q)) = no_arrears k ps inv.each e j h q
        go (inr (inr q)) = rw (ne_eqb (g.account j).settlements 0 (λ e. omega (arith, q.settled))) (q.clear i member)

    barred_is : (c : ℕ) → cond (earlier_arrears i k ps) 0 c ≡ cond (eqb (sum (arrears_in n (retention n grouping) g i) k) 0) c 0
    barred_is c = go (earlier_arrears i k ps) refl
      where
        go : (t : Bool) → earlier_arrears i k ps ≡ t → cond t 0 c ≡ cond (eqb (sum arrears_of k) 0) c 0
        go true q = rw (ne_eqb (sum arrears_of k) 0 (λ e. omega (arith, some_arrears k ps inv.each q)))
        go false q = rw (eq-eqb (sum arrears_of k) 0 (sum_zero arrears_of k (clear_before q)))

-- a period from notice to settlement has what is payable, received and so unpaid
module _ (n : ℕ) {grouping : Grouping} (p : Period) (b : InBook n grouping p) (a : Account) (t : Tracks n grouping p a) (noticed : p.stage ≡ Noticed) (i : ℕ) (h : i < n) where
  payable_is : at p.payable i ≡ payable n (retention n grouping) a i
  payable_is =
      ap (λ (l : List ℕ). at l i) (due_in_book n p b noticed).row
      ∙ cells_at (notice.payable (month_of n p) (group_retention (month_of n p) grouping)) n i h
      ∙ ap (λ (m : Month). notice.payable m (group_retention m grouping) i) t.month

  before_is : at p.received i ≡ a.before i
  before_is = let u : Unsettled a = subst (Staged n grouping p a) noticed t.staged in omega (arith, t.received i h, u.none_late i)

  within_is : a.before i ≤ payable n (retention n grouping) a i
  within_is = omega (arith, payable_is, before_is, within_payable n p b.sound noticed (due_in_book n p b noticed) i h, ap (λ (m : Month). notice.payable m (group_retention m grouping) i) t.month)

  unpaid_is : at p.payable i - at p.received i ≡ unpaid n (retention n grouping) a i
  unpaid_is = omega (arith, payable_is, before_is, unpaid_exact (month_in n a) (retention n grouping a) a.before (retention_sound (month_in n a) grouping) i within_is)

-- a settle entry that names a period
module _ (s : State) (x : Input) (f : SoundState s) (e : Entered s x) (o : Names s x) (g : Ledger) (inv : Inv s.n s.grouping s.highest s.periods s.purses g)
    (q : settles x.entry (period_at (period_of x.entry) s.periods) ≡ true) where
  abbrev k : ℕ
  k = period_of x.entry

  abbrev R : Account → ℕ → ℕ
  R = retention s.n s.grouping

  abbrev p : Period
  p = period_at (period_of x.entry) s.periods

  abbrev l : List Period
  l = take (find (period_of x.entry) s.periods) s.periods

  abbrev r : List Period
  r = drop (suc (find (period_of x.entry) s.periods)) s.periods

  noticed : p.stage ≡ Noticed
  noticed = (settling x.entry p q).1

  here : p.number ≡ k
  here = find_number k s.periods o.found

  in_book : InBook s.n s.grouping p
  in_book = named_in_book s x f e o

  split : Inv s.n s.grouping s.highest (l ++ p ∷ r) s.purses g
  split = subst (λ ps. Inv s.n s.grouping s.highest ps s.purses g) (find_split k s.periods o.found) inv

  kept : Kept s.n s.grouping g p
  kept = (all_right (Kept s.n s.grouping g) l (p ∷ r) split.each).0

  tracks : Tracks s.n s.grouping p (g.account k)
  tracks = subst (λ (k : ℕ). Tracks s.n s.grouping p (g.account k)) here kept.tracks

  draws_same : (i : ℕ) → i < s.n → drawn_from s p i ≡ draws s.n R g k i
  unfolding drawn_from draws
  draws_same i h = rw here (
      ap (λ c. cond (earlier_arrears i k s.periods) 0 c) (ap₂ min (inv.purse i h) (unpaid_is s.n p in_book (g.account k) tracks noticed i h))
      ∙ barred_is s.n s.grouping g i h s.highest s.periods s.purses inv k _
      )

  -- what is drawn is within the purse, and within what is unpaid
  pub draws_within : let k = period_of x.entry in let R = retention s.n s.grouping in
      (i : ℕ) → i < s.n → (draws s.n R g k i ≤ g.purse i) × ((g.account k).before i + draws s.n R g k i ≤ payable s.n R (g.account k) i)
  draws_within i h = (
    omega (arith, draws_same i h, inv.purse i h, drawn_purse s p i),
    omega (
      arith,
      draws_same i h,
      payable_is s.n p in_book (g.account k) tracks noticed i h,
      before_is s.n p in_book (g.account k) tracks noticed i h,
      moved_within s.n (drawn_from s p) p noticed (λ i _. drawn_unpaid s p i) in_book.sound i h,
    ),
  )

  pub drawn_inv : let p = period_at (period_of x.entry) s.periods in
      Inv s.n s.grouping s.highest (replaced s (find (period_of x.entry) s.periods) (with_drawn s.n (drawn_from s p) p)).periods (purses_left s.n (drawn_from s p) s.purses)
      (with_draws s.n (retention s.n s.grouping) (period_of x.entry) g)
  unfolding replaced with_draws
  drawn_inv = stays s.n s.highest g l p r s.purses split (with_draws s.n R k g) (λ j ne. moved_other s.n R k g j (λ u. ne (here ∙ u)))
      (purses_left s.n (drawn_from s p) s.purses) left
      (with_drawn s.n (drawn_from s p) p) (drawn_number s.n (drawn_from s p) p) tracks_own opened_own
    where
      own : (with_draws s.n R k g).account p.number ≡ moved_in (draws s.n R g k) (g.account k)
      own = ap (λ (j : ℕ). (with_draws s.n R k g).account j) here ∙ moved_own s.n R k g

      left : (i : ℕ) → i < s.n → at (purses_left s.n (drawn_from s p) s.purses) i ≡ (with_draws s.n R k g).purse i
      left i h = omega (arith, left_at s.n (drawn_from s p) s.purses i h, inv.purse i h, draws_same i h)

      tracks_own : Tracks s.n s.grouping (with_drawn s.n (drawn_from s p) p) ((with_draws s.n R k g).account p.number)
      tracks_own = subst (Tracks s.n s.grouping (with_drawn s.n (drawn_from s p) p)) (sym own)
          (track_drawn s.n p (g.account k) tracks noticed (drawn_from s p) (draws s.n R g k) draws_same)

      opened_own : ((with_draws s.n R k g).account p.number).openings ≡ 1
      opened_own = ap (λ (a : Account). a.openings) own ∙ moved_openings (draws s.n R g k) (g.account k) ∙ ap (λ (j : ℕ). (g.account j).openings) (sym here) ∙ kept.opened
