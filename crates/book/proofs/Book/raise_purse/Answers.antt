use Prim.Native.Nat.{ℕ}
use mathlib.Core.Path.{◌≡◌, refl, sym, subst, ◌∙◌}
use mathlib.Core.List.{List}
use native.Mathlib.Omega.{arith}
use Rattle.std.proofs.Common.{Ok}
use Rattle.std.proofs.lemmas.Result.{err_from_is_err_and}
use Rattle.exact.specs.Rows.{places}
use Rattle.book.specs.Checks.{refusal}
use Rattle.book.specs.rules.Periods.{raised, zeros}
use Rattle.book.specs.rules.State.{view}
use Rattle.book.specs.rules.Refusals.{Input, purse_checks}
use Rattle.book.specs.rules.Step.{payout_words}
use Rattle.book.specs.rules.Valid.{Valid}
use Rattle.book.specs.rules.Insides.{record_of}
use Rattle.book.specs.inner.Entering.{Enters}
use Rattle.book.specs.inner.Ways.{Entered}
use Rattle.book.specs.declared.entries.Entry.TheVariants.{Purse}
use Rattle.book.specs.declared.Book.{Book}
use Rattle.book.proofs.rules.LimitLaws.{many_places}
use Rattle.book.proofs.rules.WordLaws.{nothing_paid}
use Rattle.book.proofs.rules.Passing.{purse_fields}
use Rattle.book.proofs.rules.StepLaws.{raises}
use Rattle.book.proofs.records.Packing.{kept_held, raise}
use Rattle.book.proofs.records.Bounds.{held_bound}
use Rattle.book.proofs.records.Replies.{refuses, to_purse, raised_reply, enters_unpaid, enters_valid}
use Rattle.book.proofs.Book.raise_purse.Goals as goal

-- what a purse entry that is accepted leaves
raised_left : {b : Book} (v : Valid b) (i cents : ℕ) (w after : List ℕ) → Entered (view b) (record { entry = Purse i cents; words = w })
    → refusal (purse_checks (view b) i cents) ≡ 0 → after ≡ payout_words b.n (zeros places) w
    → Enters b (record { entry = Purse i cents; words = w }) (Ok (record { rounds = 0; paid = 0 })) (raise b i cents) after
raised_left {b = b} v i cents w after e passed words =
    let x : Input = record { entry = Purse i cents; words = w } in
    enters_unpaid v x.entry x.words _ _
    ((λ z. record { answer = 0; rounds = 0; book = raise b i cents; words = words z })
    ∙ raised_reply v x.entry x.words (raises (view b) x refl refl passed) (to_purse v _ _ e refl refl ∙ passed))
    words

pub purse_answer-requires : goal.purse_answer-requires
purse_answer-requires c =
    let f = purse_fields (Purse c.args.i c.args.cents) c.requires.fields refl in
    (f.0, f.1)

pub returns-in_err-purse_answer : goal.returns-in_err-purse_answer
returns-in_err-purse_answer c =
    let v = subst Valid c.self.view_is c.self.invariant in
    let p = err_from_is_err_and c.from_residual.result c.from_residual.ensures.1 in
    rw (p.1, p.2) (refuses v (Purse c.args.i c.args.cents) _ _ (to_purse v _ _ c.requires refl refl ∙ sym c.in_err-purse_answer.ensures))

pub overflow_add-self : goal.overflow_add-self
overflow_add-self c =
    let v = c.self.invariant in
    omega (arith, kept_held v, held_bound (view (record_of c.self.inside)) v.fit, (purse_fields (Purse c.args.i c.args.cents) c.requires.fields refl).1)

pub overflow_add-self-2 : goal.overflow_add-self-2
overflow_add-self-2 c =
    let x : Input = record { entry = Purse c.args.i c.args.cents; words = c.args.words.now } in
    let passed = rw (← c.self.view_is) at c.in_ok-purse_answer.ensures in
    omega (arith, (raises (view (record_of c.self.inside)) x refl refl (sym passed)).fits)

pub invariant_of-self : goal.invariant_of-self
unfolding raised zeros payout_words
invariant_of-self c =
    let v = c.self.invariant in
    let passed = rw (← c.self.view_is) at c.in_ok-purse_answer.ensures in
    let r = rw (← c.self.view_is) at c.requires in
    let words = nothing_paid _ c.args.words.now _ (many_places c.self.invariant.fit) r.enough (c.fill.ensures.after (λ y q. q)) in
    let x : Input = record { entry = Purse c.args.i c.args.cents; words = c.args.words.now } in
    enters_valid v x (Ok (record { rounds = 0; paid = 0 })) (raise (record_of c.self.inside) c.args.i c.args.cents) _ (raised_left v c.args.i c.args.cents c.args.words.now _ r (sym passed) words)

pub returns : goal.returns
unfolding raised zeros payout_words
returns c =
    let passed = rw (← c.self.view_is) at c.in_ok-purse_answer.ensures in
    let r = rw (← c.self.view_is) at c.requires in
    let words = nothing_paid _ c.args.words.now _ (many_places c.self.invariant.fit) r.enough (c.fill.ensures.after (λ y q. q)) in
    rw (← c.self.view_is) (raised_left c.self.invariant c.args.i c.args.cents c.args.words.now _ r (sym passed) words)
