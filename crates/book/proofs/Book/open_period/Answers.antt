use mathlib.Core.Path.{refl, sym, ap, subst, ◌∙◌}
use native.Mathlib.Omega.{arith}
use Rattle.std.proofs.lemmas.Result.{err_from_is_err_and}
use Rattle.exact.specs.Rows.{places}
use Rattle.book.specs.rules.Periods.{zeros}
use Rattle.book.specs.rules.State.{view, pack, held_in, added}
use Rattle.book.specs.rules.Refusals.{Input}
use Rattle.book.specs.rules.Valid.{Valid}
use Rattle.book.specs.rules.Step.{payout_words, opened}
use Rattle.book.specs.declared.entries.Entry.TheVariants.{Open}
use Rattle.book.specs.declared.Period.{Period}
use Rattle.book.specs.declared.Book.{Book}
use Rattle.book.proofs.rules.WordLaws.{nothing_paid}
use Rattle.book.proofs.rules.LimitLaws.{many_places}
use Rattle.book.proofs.rules.ValidLaws.{fresh_in_book, fresh_holds}
use Rattle.book.proofs.rules.StepLaws.{opens, accepted_opens}
use Rattle.book.proofs.records.Replies.{refuses, accepts, enters_unpaid, to_open}
use Rattle.book.proofs.Book.open_period.Goals as goal

pub returns-in_err-opening_answer : goal.returns-in_err-opening_answer
returns-in_err-opening_answer c =
    let v = subst Valid c.self.view_is c.self.invariant in
    let p = err_from_is_err_and c.from_residual.result c.from_residual.ensures.1 in
    rw (p.1, p.2) (refuses v (Open c.args.period) _ _ (to_open v _ _ c.requires refl ∙ sym c.in_err-opening_answer.ensures))

pub add_period-requires : goal.add_period-requires
unfolding held_in
add_period-requires c =
    let v = subst Valid c.self.view_is c.self.invariant in
    let x : Input = record { entry = Open c.args.period; words = c.args.words.now } in
    let o = opens (view c.args.self.now) x refl (sym c.in_ok-opening_answer.ensures) in
    (o.room, rw c.fresh.ensures (fresh_in_book c.args.self.now.n c.args.self.now.grouping c.args.period (many_places v.fit)), rw c.fresh.ensures (omega (arith, fresh_holds c.args.self.now.n c.args.period)))

pub returns : goal.returns
unfolding zeros payout_words
returns c =
    let b = c.args.self.now in
    let v = subst Valid c.self.view_is c.self.invariant in
    let x : Input = record { entry = Open c.args.period; words = c.args.words.now } in
    let passed = sym c.in_ok-opening_answer.ensures in
    let book = c.add_period.ensures ∙ ap (λ (p : Period). pack (added (view b) p)) c.fresh.ensures in
    let words = nothing_paid _ x.words _ (many_places c.self.invariant.fit) (rw (← c.self.view_is) at c.requires).enough (c.fill.ensures.after (λ y q. q)) ∙ ap (λ (b : Book). payout_words b.n (zeros places) x.words) c.self.view_is in
    enters_unpaid v x.entry x.words _ _
    (accepts v x.entry x.words (opened (view b) c.args.period x.words) _ (to_open v _ _ c.requires refl ∙ passed) (accepted_opens (view b) x (opens (view b) x refl passed))
    (λ z. record { answer = 0; rounds = 0; book = book z; words = words z }))
    words
