use Rattle.std.proofs.Common.{◌≡◌, ◌∙◌, ◌++◌, ℕ, List, sym, ap, length, add-one, append_assoc, append-nil, arith}
use Rattle.text.specs.Numbers.{spaced}
use Rattle.text.proofs.NumberLaws.{spaced_to, spaced_last, spaced_none}
use Rattle.text.proofs.buffers.Buffer.put_numbers.Goals as goal

pub loop-number-init : goal.loop-number-init
unfolding spaced_to
loop-number-init g c = (sym (append-nil c.args.self.now), omega arith)

pub loop-number-preserved : goal.loop-number-preserved
unfolding spaced_to
loop-number-preserved g c =
    let l = c.loop-number in
    let p = c.put_number.ensures in
    (rw (add-one l.number-index) (simp (p.puts, l.invariant.0, append_assoc)), omega (arith, p.upper_bound, l.invariant.1))

pub returns-after-loop-number-clause-puts : goal.returns-after-loop-number-clause-puts
returns-after-loop-number-clause-puts g c =
    let l = c.loop-number in
    let before = c.in-Some.before.now in
    let all : l.number-index ≡ length before = omega (arith, c.loop-number-test.false, l.auto.number-index-end) in
    let whole : spaced c.args.numbers.now c.args.after ≡ spaced_to before (length before) ++ _ =
    ap (λ (x : List ℕ). spaced x c.args.after) c.in-Some.ensures.cases.0 ∙ spaced_last before c.in-Some.last.now c.args.after in
    rw whole (simp (c.put_number-in-Some.ensures.puts, l.invariant.0, all, append_assoc))

pub returns-in_default-clause-puts : goal.returns-in_default-clause-puts
returns-in_default-clause-puts g c = rw (spaced_none c.args.numbers.now c.args.after c.in_default.ensures.cases) (sym (append-nil c.args.self.now))
