-- The payout words that an entry is lent: answer and book go by their number alone, and acceptance sets the first n.
use Prim.Native.Nat.{ℕ, ◌≤◌, ◌<◌}
use mathlib.Core.Path.{◌≡◌, sym, ap, ◌∙◌}
use mathlib.Core.Bool.{Bool, true, false, cond, not}
use mathlib.Core.List.{List, ◌∷◌, ◌++◌}
use mathlib.Core.Logic.{⊎_elim}
use native.Mathlib.Omega.{arith}
use borrow.Author.Tests.{eq-eqb, ne_eqb}
use lib.Dec.{eqb, ltb}
use lib.ListN.{length, take, drop, replicate, length-replicate}
use Rattle.std.proofs.lemmas.List.{length-take, take-replicate}
use Rattle.exact.specs.Rows.{places, at, sum}
use Rattle.exact.proofs.Cases.{cases, eq_or_ne}
use Rattle.exact.proofs.RowLaws.{sum_cong, filled_at, filled_length, filled_drop, filled_over, filled_from}
use Rattle.book.specs.Checks.{on, refusal}
use Rattle.book.specs.layouts.Allowed.{allowed}
use Rattle.book.specs.rules.Kinds.{period_of, is_open, is_purse, purse_of, purse_cents}
use Rattle.book.specs.rules.Periods.{Change, zeros, changed}
use Rattle.book.specs.rules.State.{State, view, pack, find, period_at}
use Rattle.book.specs.rules.Purses.{after_drawing}
use Rattle.book.specs.rules.Refusals.{Input, kind_checks, checks}
use Rattle.book.specs.rules.Step.{Outcome, Reply, stored, payout_words, opened, purse_raised, acted, accepted, refused, step, reply, paid_by}
use Rattle.book.specs.rules.Words.{AgreeFrom}
use Rattle.book.specs.declared.entries.Entry.{Entry}
use Rattle.book.specs.declared.Book.{Book}
use Rattle.book.proofs.rules.StepLaws.{enters, step_answer, step_accepted, step_refused}

-- the first n payout words are what is paid, and come to that
module _ (n : ℕ) (pays words : List ℕ) where
  pub payout_at : (i : ℕ) → i < n → at (payout_words n pays words) i ≡ at pays i
  unfolding payout_words
  payout_at i h = filled_at (at pays) n i words 0 h

  pub payout_sum : sum (at (payout_words n pays words)) n ≡ sum (at pays) n
  payout_sum = sum_cong (at (payout_words n pays words)) (at pays) n payout_at

-- where the first n words are filled with 0, nothing is paid
pub nothing_paid : (n : ℕ) (words front : List ℕ) → n ≤ places → n ≤ length words → front ≡ replicate (length (take n words)) 0
    → front ++ drop n words ≡ payout_words n (zeros places) words
unfolding payout_words zeros
nothing_paid n words front few enough is =
    let long : n ≤ length {A = ℕ} (replicate places 0) = omega (arith, length-replicate {A = ℕ} places 0, few) in
    let size : length (take n words) ≡ n = omega (arith, length-take n words, enough) in
    ap (λ (l : List ℕ). l ++ drop n words) (is ∙ ap (λ k. replicate k 0) size ∙ sym (take-replicate n places 0 few))
    ∙ sym (filled_from (replicate places 0) words n long)

-- an entry that is lent words v, and one that is lent words w
module _ (s : State) (e : Entry) (v w : List ℕ) (a : AgreeFrom s.n v w) where
  abbrev x : Input
  x = record { entry = e; words = v }

  abbrev y : Input
  y = record { entry = e; words = w }

  checks_same : refusal (checks s x) ≡ refusal (checks s y)
  checks_same = ap (λ (k : ℕ). refusal (on (eqb s.n 0) 4 ∷ on (ltb k s.n) 5 ∷ on (not (allowed e)) 3 ∷ kind_checks s e)) a.size

  -- what an accepted entry pays is set in both alike, and the words from n on are left
  paid_same : (pays : List ℕ) → payout_words s.n pays v ≡ payout_words s.n pays w
  unfolding payout_words
  paid_same pays = filled_over (at pays) s.n v w a.rest

  paid_rest : s.n ≤ length v → (pays : List ℕ) → AgreeFrom s.n (payout_words s.n pays v) w
  unfolding payout_words
  paid_rest h pays = record { size = filled_length (at pays) s.n v h ∙ a.size; rest = filled_drop (at pays) s.n v ∙ a.rest }

  acted_same : acted s x ≡ acted s y
  unfolding acted
  acted_same =
      let c : Change = changed s.n s.grouping e (period_at (period_of e) s.periods) in
      ap (λ (l : List ℕ). record { answer = 0; rounds = c.rounds; state = stored s (find (period_of e) s.periods) c.period; words = l }) (paid_same c.pays)

  acted_rest : s.n ≤ length v → AgreeFrom s.n (acted s x).words w
  unfolding acted
  acted_rest h = paid_rest h (changed s.n s.grouping e (period_at (period_of e) s.periods)).pays

module _ (s : State) (e : Entry) (v w : List ℕ) (a : AgreeFrom s.n v w) where
  abbrev drawing : State
  drawing = after_drawing s e

  -- accepted entries differ in nothing
  accepted_same : accepted s (record { entry = e; words = v }) ≡ accepted s (record { entry = e; words = w })
  unfolding accepted
  accepted_same = go (is_open e) (is_purse e)
    where
      go : (t u : Bool)
          → cond t (opened s (period_of e) v) (cond u (purse_raised s (purse_of e) (purse_cents e) v) (acted drawing (record { entry = e; words = v })))
          ≡ cond t (opened s (period_of e) w) (cond u (purse_raised s (purse_of e) (purse_cents e) w) (acted drawing (record { entry = e; words = w })))
      go true u = ap (λ (l : List ℕ). record { answer = 0; rounds = 0; state = (opened s (period_of e) v).state; words = l }) (paid_same s e v w a (zeros places))
      go false true = ap (λ (l : List ℕ). record { answer = 0; rounds = 0; state = (purse_raised s (purse_of e) (purse_cents e) v).state; words = l }) (paid_same s e v w a (zeros places))
      go false false = acted_same drawing e v w a

  -- and leave the words from n on
  accepted_rest : s.n ≤ length v → AgreeFrom s.n (accepted s (record { entry = e; words = v })).words w
  unfolding accepted
  accepted_rest h =
      let P : Outcome → Type 0 = λ o. AgreeFrom s.n o.words w in
      cases P (is_open e) (λ _. paid_rest s e v w a h (zeros places))
      (λ _. cases P (is_purse e) (λ _. paid_rest s e v w a h (zeros places))
      (λ _. acted_rest drawing e v w a h))

-- what the words lent make of a reply: nothing, but that a refused entry leaves them as they were
pub record Alike (b : Book) (e : Entry) (v w : List ℕ) : Type 0 where
  pub answer : (reply b (record { entry = e; words = v })).answer ≡ (reply b (record { entry = e; words = w })).answer
  pub book : (reply b (record { entry = e; words = v })).book ≡ (reply b (record { entry = e; words = w })).book
  pub accepted : (reply b (record { entry = e; words = w })).answer ≡ 0
      → (reply b (record { entry = e; words = v })).words ≡ (reply b (record { entry = e; words = w })).words
  pub refused : ((reply b (record { entry = e; words = w })).answer ≡ 0 → ⊥) → (reply b (record { entry = e; words = w })).words ≡ w
  pub agree : AgreeFrom b.n (reply b (record { entry = e; words = v })).words w

pub alike : (b : Book) (e : Entry) (v w : List ℕ) → AgreeFrom b.n v w → Alike b e v w
unfolding reply
alike b e v w a = ⊎_elim accepted_alike refused_alike (eq_or_ne (refusal (checks s y)) 0)
  where
    s : State
    s = view b

    x : Input
    x = record { entry = e; words = v }

    y : Input
    y = record { entry = e; words = w }

    same : refusal (checks s x) ≡ refusal (checks s y)
    same = checks_same s e v w a

    accepted_alike : refusal (checks s y) ≡ 0 → Alike b e v w
    accepted_alike z =
        let here = step_accepted s x (same ∙ z) in
        let all : step s x ≡ step s y = here ∙ accepted_same s e v w a ∙ sym (step_accepted s y z) in
        record {
          answer = ap (λ (o : Outcome). o.answer) all;
          book = ap (λ (o : Outcome). pack o.state) all;
          accepted = λ _. ap (λ (o : Outcome). o.words) all;
          refused = λ h. absurd (h (step_answer s y ∙ z));
          agree = rw here (accepted_rest s e v w a (enters s x (same ∙ z)).0.enough);
        }

    refused_alike : (refusal (checks s y) ≡ 0 → ⊥) → Alike b e v w
    refused_alike z =
        let here : step s x ≡ refused s x (refusal (checks s x)) = step_refused s x (λ h. z (sym same ∙ h)) in
        let there : step s y ≡ refused s y (refusal (checks s y)) = step_refused s y z in
        record {
          answer = rw (here, there) same;
          book = rw (here, there);
          accepted = λ h. absurd (z (sym (step_answer s y) ∙ h));
          refused = λ _. rw there;
          agree = rw here a;
        }

-- what an entry paid, by its answer
pub paid_accepted : (n : ℕ) (r : Reply) → r.answer ≡ 0 → paid_by n r ≡ sum (at r.words) n
unfolding paid_by
paid_accepted n r h = rw (eq-eqb r.answer 0 h)

pub paid_refused : (n : ℕ) (r : Reply) → (r.answer ≡ 0 → ⊥) → paid_by n r ≡ 0
unfolding paid_by
paid_refused n r h = rw (ne_eqb r.answer 0 h)

pub alike_paid : {b : Book} {e : Entry} {v w : List ℕ} → Alike b e v w
    → paid_by b.n (reply b (record { entry = e; words = v })) ≡ paid_by b.n (reply b (record { entry = e; words = w }))
alike_paid {b} {e} {v} {w} a =
    let x : Reply = reply b (record { entry = e; words = v }) in
    let y : Reply = reply b (record { entry = e; words = w }) in
    ⊎_elim
    (λ z. paid_accepted b.n x (a.answer ∙ z) ∙ ap (λ (l : List ℕ). sum (at l) b.n) (a.accepted z) ∙ sym (paid_accepted b.n y z))
    (λ h. paid_refused b.n x (λ z. h (sym a.answer ∙ z)) ∙ sym (paid_refused b.n y h))
    (eq_or_ne y.answer 0)
