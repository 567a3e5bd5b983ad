-- Block runs leave what the same entries leave one by one, and so demand 3 holds of them.
use mathlib.Core.Path.{◌≡◌, refl, sym, ap, subst, ◌∙◌}
use mathlib.Core.Logic.{inl, inr}
use mathlib.Core.List.{List, [], ◌∷◌, ◌++◌}
use Rattle.book.specs.history.Log.{retention}
use Rattle.book.specs.rules.Refusals.{Input}
use Rattle.book.specs.history.Demand3.{History, begun, next, after, Clauses}
use Rattle.book.specs.runs.RunDemand3.{Block, entries_in, Work, after_run, after_work, after_all, RunDemand3}
use Rattle.book.specs.rules.Step.{replies}
use Rattle.book.specs.runs.BlockRuns.{book_after}
use Rattle.book.proofs.runs.RunReplies.{ran_replies}
use Rattle.book.proofs.history.Demand3.{demand3}

after_both : (h : History) (l r : List Input) → after h (l ++ r) ≡ after (after h l) r
unfolding after
after_both h [] r = refl
after_both h (x ∷ l) r = after_both (next h x) l r

after_book : (h : History) (inputs : List Input) → (after h inputs).book ≡ book_after h.book (replies h.book inputs)
unfolding after next replies book_after
after_book h [] = refl
after_book h (x ∷ inputs) = after_book (next h x) inputs

-- a run leaves what its entries leave one by one
run_after : (h : History) (x : Block) → after_run h x ≡ after h (entries_in h.book x)
unfolding after_run
run_after h x =
    let same = (ran_replies h.book x).book ∙ sym (after_book h (entries_in h.book x)) in
    λ z. record { book = same z; log = (after h (entries_in h.book x)).log }

-- and so with many, single entries among them
all_after : (h : History) (work : List Work) → (inputs : List Input) × (after_all h work ≡ after h inputs)
unfolding after_all after_work after
all_after h [] = ([], refl)
all_after h (inl x ∷ work) = let later = all_after (next h x) work in (x ∷ later.0, later.1)
all_after h (inr x ∷ work) =
    let l = entries_in h.book x in
    let later = all_after (after_run h x) work in
    (l ++ later.0, later.1 ∙ ap (λ (g : History). after g later.0) (run_after h x) ∙ sym (after_both h l later.0))

pub run_demand3 : RunDemand3
run_demand3 m work = let l = all_after (begun m) work in subst (Clauses m.n (retention m.n m.grouping)) (sym l.1) (demand3 m l.0)
