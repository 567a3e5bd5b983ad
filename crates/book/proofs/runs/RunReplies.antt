-- A run is the replies to its entries, and its lines have paid what demand 3 calls money paid.
use Prim.Native.Nat.{ℕ, zero, suc, ◌+◌, ◌<◌}
use mathlib.Core.Path.{◌≡◌, refl, sym, ap, ◌∙◌}
use mathlib.Core.Bool.{Bool, true, false, cond}
use mathlib.Core.Logic.{◌⊎◌, inl, inr, ⊎_elim}
use mathlib.Core.List.{List, [], ◌∷◌, ◌++◌}
use native.Mathlib.Omega.{arith}
use borrow.Author.Tests.{ne_eqb, eqb-true, eqb-false}
use lib.Dec.{eqb}
use Rattle.exact.specs.Rows.{at, sum}
use Rattle.exact.proofs.Cases.{cases, cases_eq}
use Rattle.book.specs.Checks.{refusal}
use Rattle.book.specs.layouts.Reading.{reading}
use Rattle.book.specs.rules.State.{view, pack}
use Rattle.book.specs.rules.Makings.{making_checks, made}
use Rattle.book.specs.rules.Refusals.{Input}
use Rattle.book.specs.rules.Step.{Reply, reply, paid_by, replies}
use Rattle.book.specs.runs.Running.{Run, line_of, stopped, lined, run, inputs_of}
use Rattle.book.specs.history.Log.{Accepted, Log, money_paid}
use Rattle.book.specs.history.Demand3.{History, begun, next, after}
use Rattle.book.specs.runs.RunDemand3.{Block, ran, entries_in, after_run, Work, after_work, after_all}
use Rattle.book.specs.runs.BlockRuns.{book_after, words_after, lines_of, paid_words, total, RunOf, paid_at, paid_over}
use Rattle.book.specs.declared.makings.Making.{Making}
use Rattle.book.specs.declared.Book.{Book}
use Rattle.book.proofs.rules.StepLaws.{enters, step_answer}
use Rattle.book.proofs.history.Histories.{step_groups}
use Rattle.book.proofs.runs.RunLaws.{read_or_none}

-- an entry leaves the number of participants
pub reply_n : (b : Book) (x : Input) → (reply b x).book.n ≡ b.n
unfolding reply pack
reply_n b x = (step_groups (view b) x).0

-- the payout words of an entry that has paid come to what it paid
paid_words_lem : (n : ℕ) (r : Reply) → 0 < paid_by n r → sum (at r.words) n ≡ paid_by n r
unfolding paid_by
paid_words_lem n r = cases (λ z. 0 < z → sum (at r.words) n ≡ z) (eqb r.answer 0) (λ _ _. refl) (λ _ h. absurd (omega arith))

no_entry : (b : Book) (x : Block) → (x.room < 3) ⊎ ((reading x.bytes x.place).entry ≡ []) → RunOf b x [] (stopped b x.place x.words)
unfolding replies book_after words_after lines_of paid_words total
no_entry b x e = record {
  read = refl;
  few = omega arith;
  ended = ⊎_elim (λ h. inl h) (λ h. inr (inl h)) e;
  in_turn = tt;
  book = refl;
  words = refl;
  lines = refl;
  last = tt;
  payouts = λ h. absurd (omega arith);
}

-- an entry that has paid nothing and what follows it, or one with which the run ends
module _ (bytes : List ℕ) (place room : ℕ) (b : Book) (x : Input) (q : (reading bytes place).entry ≡ x.entry ∷ []) where
  abbrev whole : Block
  whole = record { bytes = bytes; place = place; words = x.words; room = suc (suc (suc room)) }

  abbrev rest : Block
  rest = record { bytes = bytes; place = (reading bytes place).place; words = (reply b x).words; room = room }

  goes_on : (inputs : List Input) (r : Run) → paid_by b.n (reply b x) ≡ 0 → RunOf (reply b x).book rest inputs r
      → RunOf b whole (x ∷ inputs) (lined (line_of b.n (reply b x)) r)
  unfolding replies book_after words_after lines_of paid_words total
  goes_on inputs r z u = record {
    read = (q, u.read);
    few = omega (arith, u.few);
    ended = ⊎_elim (λ h. inl (omega arith)) (λ e. inr (⊎_elim (λ h. inl h) (λ h. inr (omega arith)) e)) u.ended;
    in_turn = (refl, u.in_turn);
    book = u.book;
    words = u.words;
    lines = ap (λ l. line_of b.n (reply b x) ++ l) (rw (reply_n b x) at u.lines);
    last = (inl z, u.last);
    payouts = λ h. let same = rw (reply_n b x) at (u.payouts (omega arith)) in omega arith;
  }

  ends : (paid_by b.n (reply b x) ≡ 0 → ⊥) → RunOf b whole (x ∷ []) (lined (line_of b.n (reply b x)) (stopped (reply b x).book rest.place (reply b x).words))
  unfolding replies book_after words_after lines_of paid_words total
  ends paid = record {
    read = (q, refl);
    few = omega arith;
    ended = inr (inr (omega (arith, paid)));
    in_turn = (refl, tt);
    book = refl;
    words = refl;
    lines = refl;
    last = (inr refl, tt);
    payouts = λ h. omega (arith, paid_words_lem b.n (reply b x) (omega arith));
  }

  choose : (t : Bool) → eqb (paid_by b.n (reply b x)) 0 ≡ t → (inputs : List Input) (r : Run) → RunOf (reply b x).book rest inputs r
      → RunOf b whole (x ∷ cond t inputs []) (lined (line_of b.n (reply b x)) (cond t r (stopped (reply b x).book rest.place (reply b x).words)))
  choose true z inputs r u = goes_on inputs r (eqb-true _ _ z) u
  choose false z inputs r u = ends (eqb-false _ _ z)

module _ (bytes : List ℕ) where
  run_replies : (room : ℕ) (b : Book) (place : ℕ) (words : List ℕ)
      → RunOf b (record { bytes = bytes; place = place; words = words; room = room }) (inputs_of bytes room b place words) (run bytes room b place words)
  unfolding run inputs_of
  run_replies zero b place words = no_entry b (record { bytes = bytes; place = place; words = words; room = 0 }) (inl (omega arith))
  run_replies (suc zero) b place words = no_entry b (record { bytes = bytes; place = place; words = words; room = 1 }) (inl (omega arith))
  run_replies (suc (suc zero)) b place words = no_entry b (record { bytes = bytes; place = place; words = words; room = 2 }) (inl (omega arith))
  run_replies (suc (suc (suc room))) b place words = ⊎_elim
      (λ none. rw none (no_entry b (record { bytes = bytes; place = place; words = words; room = suc (suc (suc room)) }) (inr none)))
      (λ y. rw y.1 (
      let x : Input = record { entry = y.0; words = words } in
      let r = reply b x in
      let k = (reading bytes place).place in
      choose bytes place room b x y.1 (eqb (paid_by b.n r) 0) refl (inputs_of bytes room r.book k r.words) (run bytes room r.book k r.words)
      (run_replies room r.book k r.words)))
      (read_or_none bytes place)

pub ran_replies : (b : Book) (x : Block) → RunOf b x (entries_in b x) (ran b x)
ran_replies b x = run_replies x.bytes x.room b x.place x.words

-- the book has n participants, or none, where its making was refused
abbrev pub Sized : ℕ → Book → Type 0
Sized n b = (b.n ≡ 0) ⊎ (b.n ≡ n)

still_sized : (n : ℕ) (b c : Book) → c.n ≡ b.n → Sized n b → Sized n c
still_sized n b c e (inl q) = inl (e ∙ q)
still_sized n b c e (inr q) = inr (e ∙ q)

after_n : (b : Book) (inputs : List Input) → (book_after b (replies b inputs)).n ≡ b.n
unfolding replies book_after
after_n b [] = refl
after_n b (x ∷ inputs) = after_n (reply b x).book inputs ∙ reply_n b x

work_n : (h : History) (x : Work) → (after_work h x).book.n ≡ h.book.n
unfolding after_work after_run next
work_n h (inl x) = reply_n h.book x
work_n h (inr x) = ap (λ (b : Book). b.n) (ran_replies h.book x).book ∙ after_n h.book (entries_in h.book x)

-- with no participants every entry is refused
none_accepted : (b : Book) (x : Input) → b.n ≡ 0 → (reply b x).answer ≡ 0 → ⊥
unfolding reply
none_accepted b x q a = omega (arith, (enters (view b) x (sym (step_answer (view b) x) ∙ a)).0.some, q)

-- an entry adds what it paid to the money paid, and so does a run, and a list of both
module _ (n : ℕ) where
  logged_paid : (t : Bool) (x : Accepted) (log : Log) → money_paid n (cond t (x ∷ log) log) ≡ money_paid n log + cond t (sum (at x.words) n) 0
  unfolding money_paid
  logged_paid true x log = omega arith
  logged_paid false x log = omega arith

  next_paid : (h : History) (x : Input) → Sized n h.book → money_paid n (next h x).log ≡ money_paid n h.log + paid_by h.book.n (reply h.book x)
  unfolding next paid_by
  next_paid h x (inl q) = rw (ne_eqb (reply h.book x).answer 0 (none_accepted h.book x q)) (omega arith)
  next_paid h x (inr q) =
      let r = reply h.book x in
      logged_paid (eqb r.answer 0) (record { entry = x.entry; words = r.words }) h.log ∙ ap (λ (m : ℕ). money_paid n h.log + paid_by m r) (sym q)

  after_paid : (h : History) (inputs : List Input) → Sized n h.book
      → money_paid n (after h inputs).log ≡ money_paid n h.log + total (paid_words (lines_of h.book.n (replies h.book inputs)))
  unfolding after next replies lines_of paid_words total
  after_paid h [] s = omega arith
  after_paid h (x ∷ inputs) s = omega (
    arith,
    next_paid h x s,
    rw (reply_n h.book x) at (after_paid (next h x) inputs (still_sized n h.book (next h x).book (reply_n h.book x) s)),
  )

  pub run_paid : (h : History) (x : Block) → Sized n h.book
      → money_paid n (after_run h x).log ≡ money_paid n h.log + total (paid_words (ran h.book x).lines)
  unfolding after_run
  run_paid h x s = rw (ran_replies h.book x).lines (after_paid h (entries_in h.book x) s)

  work_paid : (h : History) (x : Work) → Sized n h.book → money_paid n (after_work h x).log ≡ money_paid n h.log + paid_at h.book x
  unfolding after_work paid_at
  work_paid h (inl x) s = next_paid h x s
  work_paid h (inr x) s = run_paid h x s

  all_paid : (h : History) (work : List Work) → Sized n h.book → money_paid n (after_all h work).log ≡ money_paid n h.log + paid_over h work
  unfolding after_all paid_over
  all_paid h [] s = omega arith
  all_paid h (x ∷ work) s =
      omega (arith, work_paid h x s, all_paid (after_work h x) work (still_sized n h.book (after_work h x).book (work_n h x) s))

pub begun_paid : (m : Making) (work : List Work) → money_paid m.n (after_all (begun m) work).log ≡ paid_over (begun m) work
unfolding begun made pack money_paid
begun_paid m work =
    let sized : Sized m.n (begun m).book = cases_eq (λ (k : Making). (k.n ≡ 0) ⊎ (k.n ≡ m.n)) (refusal (making_checks m)) 0 (λ _. inr refl) (λ _. inl refl) in
    omega (arith, all_paid m.n (begun m) work sized)
