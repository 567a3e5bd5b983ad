-- What an entry makes of the period that it names is what the definitions make of the book.
use Prim.Native.Nat.{ℕ, ◌+◌, ◌-◌}
use mathlib.Core.Path.{◌≡◌, refl, sym, ap, subst, ◌∙◌}
use mathlib.Core.Bool.{Bool, true, false, cond, true≢false}
use mathlib.Core.Logic.{⊎_elim}
use mathlib.Core.List.{List}
use native.Mathlib.Omega.{arith}
use borrow.Author.Tests.{eq-eqb, ne_eqb}
use lib.Dec.{eqb}
use Rattle.std.proofs.Common.{Result, Ok, Err}
use lib.ListN.{get_or, set}
use lib.Seq.{set-get_or}
use Rattle.exact.specs.Rows.{at, sum}
use Rattle.exact.proofs.Cases.{eq_or_ne}
use Rattle.settlement.specs.declared.groups.Grouping.{Grouping}
use Rattle.book.specs.Checks.{refusal}
use Rattle.book.specs.rules.Kinds.{receipt_cents}
use Rattle.book.specs.rules.Periods.{leaves, changed}
use Rattle.book.specs.rules.State.{State, view, pack, cents_held, held_by, no_period, removed}
use Rattle.book.specs.rules.Purses.{purses_after, after_drawing}
use Rattle.book.specs.rules.Refusals.{period_checks, barring}
use Rattle.book.specs.rules.Step.{payout_words, Reply, reply, paid_by}
use Rattle.book.specs.rules.Valid.{Sound}
use Rattle.book.specs.rules.Answers.{number_of}
use Rattle.book.specs.inner.OnePeriod.{Effect, effect, effect_of, Affects}
use Rattle.book.specs.inner.Entering.{Enters}
use Rattle.book.specs.declared.answers.Refusal.{Refusal}
use Rattle.book.specs.declared.effects.Effect as effects
use Rattle.book.specs.declared.entries.Entry.{Entry}
use Rattle.book.specs.declared.Period.{Period}
use Rattle.book.specs.declared.Book.{Book}
use Rattle.book.proofs.rules.LimitLaws.{many_places}
use Rattle.book.proofs.rules.StepLaws.{stored_leaves, stored_stays}
use Rattle.book.proofs.rules.WordLaws.{payout_sum}
use Rattle.book.proofs.records.Packing.{renewed, put, stored}
use Rattle.book.proofs.records.Replies.{reply_refused, accepts}
use Rattle.book.proofs.records.Named.{Found, found_period, drawn_read, drawn_view, stored_over, found_in_book, found_checks, found_settles, found_still, held_fits, held_within, Passed, passed_checks, passed_accepted, passed_changes, held_stays, held_leaves, stores}

module _ (n : ℕ) (grouping : Grouping) (e : Entry) (barred : Bool) (p : Period) (held : ℕ) (w : List ℕ) where
  pub effect_accepted : refusal (period_checks n barred e p) ≡ 0 → effect n grouping e barred p held w ≡ record {
    answer = 0;
    rounds = (changed n grouping e p).rounds;
    period = (changed n grouping e p).period;
    held = held + receipt_cents e - sum (at (changed n grouping e p).pays) n;
    paid = sum (at (changed n grouping e p).pays) n;
    words = payout_words n (changed n grouping e p).pays w;
  }
  unfolding effect
  effect_accepted h = rw (eq-eqb (refusal (period_checks n barred e p)) 0 h)

  pub effect_refused : (refusal (period_checks n barred e p) ≡ 0 → ⊥)
      → effect n grouping e barred p held w ≡ record { answer = refusal (period_checks n barred e p); rounds = 0; period = p; held = held; paid = 0; words = w }
  unfolding effect
  effect_refused h = rw (ne_eqb (refusal (period_checks n barred e p)) 0 h)

module _ {b : Book} {e : Entry} {w : List ℕ} {j : ℕ} (f : Found b e w j) where
  abbrev n : ℕ
  n = b.n

  abbrev grouping : Grouping
  grouping = b.grouping

  abbrev here : Period
  here = found_period b e

  abbrev purses : List ℕ
  purses = purses_after (view b) e

  abbrev bar : Bool
  bar = barring e (view b).periods

  -- a fact about the effect x, from those of an accepted and of a refused entry
  module _ (x : Effect) (q : x ≡ effect b.n b.grouping e (barring e (view b).periods) (found_period b e) b.held w) where
    of_effect : (P : Effect → Type 0)
        → (Passed b e w j → P (record {
          answer = 0;
          rounds = (changed n grouping e here).rounds;
          period = (changed n grouping e here).period;
          held = b.held + receipt_cents e - sum (at (changed n grouping e here).pays) n;
          paid = sum (at (changed n grouping e here).pays) n;
          words = payout_words n (changed n grouping e here).pays w;
        }))
        → ((refusal (period_checks n bar e here) ≡ 0 → ⊥) → P (record { answer = refusal (period_checks n bar e here); rounds = 0; period = here; held = b.held; paid = 0; words = w }))
        → P x
    of_effect P taken left = subst P (sym q) (⊎_elim
        (λ h. subst P (sym (effect_accepted n grouping e bar here b.held w h)) (taken (record { found = f; passed = h })))
        (λ h. subst P (sym (effect_refused n grouping e bar here b.held w h)) (left h))
        (eq_or_ne (refusal (period_checks n bar e here)) 0))

    stays_here : leaves n here ≡ true → ⊥
    stays_here l = true≢false (sym l ∙ (found_in_book f).stays)

    pub effect_sound : Sound b.n x.period
    effect_sound = of_effect (λ x. Sound n x.period) (λ g. (passed_changes g).sound) (λ _. (found_in_book f).sound)

    -- a refused entry draws nothing
    refused_still : (refusal (period_checks n bar e here) ≡ 0 → ⊥) → (here ≡ get_or b.periods j no_period) × (purses ≡ b.purses)
    refused_still h = found_still f (λ t. h (sym (found_checks f) ∙ found_settles f t))

    -- the period stays, and is stored with what the book then holds
    pub reply_stays : leaves b.n x.period ≡ false
        → record { answer = x.answer; rounds = x.rounds; book = put b j x.period x.held (purses_after (view b) e); words = x.words } ≡ reply b (record { entry = e; words = w })
    reply_stays = of_effect
        (λ x. leaves n x.period ≡ false → record { answer = x.answer; rounds = x.rounds; book = put b j x.period x.held purses; words = x.words } ≡ reply b (record { entry = e; words = w }))
        (λ g l. accepts f.valid e w _ _ (passed_checks g) (passed_accepted g) (λ z. record {
          answer = 0;
          rounds = (changed n grouping e here).rounds;
          book = (
              stored f.valid j (changed n grouping e here).period (b.held + receipt_cents e - sum (at (changed n grouping e here).pays) n) purses f.used
              (omega (arith, held_stays g, ap held_by (stores f (changed n grouping e here).period)))
              ∙ ap pack (sym (stores f (changed n grouping e here).period) ∙ sym (stored_stays (after_drawing (view b) e) j (changed n grouping e here).period l))
              ) z;
          words = payout_words n (changed n grouping e here).pays w;
        }))
        (λ h l. (λ z. record {
          answer = sym (found_checks f) z;
          rounds = 0;
          book = renewed b b.held ((ap (set b.periods j) (refused_still h).0 ∙ set-get_or b.periods j no_period) z) ((refused_still h).1 z);
          words = w;
        })
        ∙ reply_refused f.valid e w (λ z. h (sym (found_checks f) ∙ z)))

    -- the period leaves
    pub leaves_held : leaves b.n x.period ≡ true → x.held ≡ held_by (removed (after_drawing (view b) e) j)
    leaves_held = of_effect (λ x. leaves n x.period ≡ true → x.held ≡ held_by (removed (after_drawing (view b) e) j))
        (λ g l. omega (arith, held_leaves g l))
        (λ h l. absurd (stays_here l))

    pub reply_leaves : leaves b.n x.period ≡ true
        → record { answer = x.answer; rounds = x.rounds; book = pack (removed (after_drawing (view b) e) j); words = x.words } ≡ reply b (record { entry = e; words = w })
    reply_leaves = of_effect
        (λ x. leaves n x.period ≡ true → record { answer = x.answer; rounds = x.rounds; book = pack (removed (after_drawing (view b) e) j); words = x.words } ≡ reply b (record { entry = e; words = w }))
        (λ g l. accepts f.valid e w _ _ (passed_checks g) (passed_accepted g) (λ z. record {
          answer = 0;
          rounds = (changed n grouping e here).rounds;
          book = ap pack (sym (stored_leaves (after_drawing (view b) e) j (changed n grouping e here).period l)) z;
          words = payout_words n (changed n grouping e here).pays w;
        }))
        (λ h l. absurd (stays_here l))

    -- the answer, the payout words and the cents held of the reply, whether the period stays or leaves
    pub reply_parts : let r = reply b (record { entry = e; words = w }) in (x.answer ≡ r.answer) × (x.words ≡ r.words) × (x.held ≡ cents_held r.book)
    unfolding pack
    reply_parts = go (leaves b.n x.period) refl
      where
        go : (t : Bool) → leaves b.n x.period ≡ t
            → let r = reply b (record { entry = e; words = w }) in (x.answer ≡ r.answer) × (x.words ≡ r.words) × (x.held ≡ cents_held r.book)
        go true l = let q = reply_leaves l in (ap (λ (r : Reply). r.answer) q, ap (λ (r : Reply). r.words) q, leaves_held l ∙ ap (λ (r : Reply). cents_held r.book) q)
        go false l = let q = reply_stays l in (ap (λ (r : Reply). r.answer) q, ap (λ (r : Reply). r.words) q, ap (λ (r : Reply). cents_held r.book) q)

    -- the cents that the reply pays
    pub reply_paid : x.paid ≡ paid_by b.n (reply b (record { entry = e; words = w }))
    unfolding paid_by
    reply_paid =
        let p = reply_parts in
        of_effect (λ x. x.paid ≡ cond (eqb x.answer 0) (sum (at x.words) n) 0)
        (λ _. sym (payout_sum n (changed n grouping e here).pays w))
        (λ h. sym (rw (ne_eqb (refusal (period_checks n bar e here)) 0 h) refl))
        ∙ (λ z. cond (eqb (p.0 z) 0) (sum (at (p.1 z)) n) 0)

  pub found_affects : Affects b.n b.grouping e (found_period b e) b.held w
  found_affects = record {
    many = many_places f.valid.fit;
    enough = f.entered.enough;
    not_open = f.not_open;
    not_purse = f.not_purse;
    fields = f.entered.fields;
    grouped = f.valid.fit.grouped;
    in_book = found_in_book f;
    within = held_within f;
    fits = held_fits f;
  }

-- the book once what an entry draws has been moved, and what then becomes of the period that it names
abbrev pub Drawn : (s : Book) (e : Entry) (j : ℕ) (b : Book) → Type 0
Drawn s e j b = b ≡ put s j (found_period s e) s.held (purses_after (view s) e)

abbrev pub Affected : (s : Book) (e : Entry) (w : List ℕ) (r : Result effects.Effect Refusal) (after : List ℕ) → Type 0
Affected s e w r after = effect_of (found_period s e) s.held r after ≡ effect s.n s.grouping e (barring e (view s).periods) (found_period s e) s.held w

pub affected : {s : Book} {e : Entry} {w : List ℕ} {j : ℕ} (f : Found s e w j) (b : Book) (barred : Bool) (r : Result effects.Effect Refusal) (after : List ℕ)
    → barred ≡ barring e (view s).periods → Drawn s e j b
    → effect_of (get_or b.periods j no_period) b.held r after ≡ effect b.n b.grouping e barred (get_or b.periods j no_period) b.held w → Affected s e w r after
affected f b barred r after same d q = rw (same, d, drawn_read f) at q

-- what is left of the book: all of it where the entry is refused, else the period was taken out, or put back over what was drawn
module _ {s : Book} {e : Entry} {w : List ℕ} {j : ℕ} (f : Found s e w j) {b : Book} (d : Drawn s e j b) where
  pub left_alone : (why : Refusal) (after : List ℕ) → Affected s e w (Err why) after → Enters s (record { entry = e; words = w }) (Err why) b after
  left_alone why after k =
      ((λ z. record { answer = number_of (Err why); rounds = 0; book = d z; words = after }) ∙ reply_stays f _ k (found_in_book f).stays, reply_paid f _ k)

  module _ (r : effects.Effect) (after : List ℕ) (k : Affected s e w (Ok r) after) where
    pub taken_out : leaves s.n r.period ≡ true → (left : Book) → left ≡ pack (removed (view b) j)
        → Enters s (record { entry = e; words = w }) (Ok (record { rounds = r.rounds; paid = r.paid })) left after
    taken_out l left q =
        let same = (rw d at q) ∙ ap (λ (x : State). pack (removed x j)) (drawn_view f) in
        ((λ z. record { answer = 0; rounds = r.rounds; book = same z; words = after }) ∙ reply_leaves f _ k l, reply_paid f _ k)

    pub put_back : leaves s.n r.period ≡ false
        → Enters s (record { entry = e; words = w }) (Ok (record { rounds = r.rounds; paid = r.paid })) (put b j r.period r.held b.purses) after
    put_back l =
        ((λ z. record { answer = 0; rounds = r.rounds; book = stored_over f d r.period r.held z; words = after }) ∙ reply_stays f _ k l, reply_paid f _ k)
