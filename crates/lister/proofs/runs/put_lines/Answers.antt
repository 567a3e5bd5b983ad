use Rattle.std.proofs.Common.{◌≡◌, ◌+◌, ◌*◌, ◌%◌, ◌^◌, ℕ, suc, [], ◌∷◌, ◌++◌, length, get_or, append-nil, append_assoc, add-one, sym, ap, ◌∙◌, arith, rules}
use Rattle.std.proofs.lemmas.List.{length_push}
use Rattle.std.specs.Slice.Iter.{chunks_exact_rest}
use Rattle.std.specs.Iterator.Adapters.{enumerate_source}
use Rattle.lister.specs.inner.Runs.{lines_to}
use Rattle.lister.proofs.LineLaws.{line_mod, chunk_word, chunk_rest}
use Rattle.lister.proofs.runs.put_lines.Goals as goal

pub loop-i-init : goal.loop-i-init
unfolding lines_to
loop-i-init c = (search rules, sym (append-nil c.args.out.now), omega arith, search rules, search rules, search rules, search rules)

pub loop-i-preserved : goal.loop-i-preserved
unfolding lines_to
loop-i-preserved c =
    let l = c.loop-i in
    let n = length l.yielded in
    let lines = c.args.lines.now in
    let x = c.in-Some.line.now in
    let counts = c.in-Some.ensures.steps in
    let s = c.in-Some.ensures.steps.0 in
    let three : length x ≡ 3 = s.1.1 ∙ l.invariant.4 in
    let before = chunks_exact_rest (enumerate_source l.i-iterator) in
    let after = chunks_exact_rest (enumerate_source c.next.new.self) in
    let word = chunk_word lines before x after n l.invariant.3 s.1.0 three in
    let first_word : get_or x 0 0 ≡ get_or lines (n * 3) 0 = word 0 (omega arith) ∙ ap (λ (k : ℕ). get_or lines k 0) (omega arith) in
    let number = (c.args.first + c.in-Some.i) % 2 ^ 64 in
    let m : number % 2 ^ 64 ≡ (c.args.first + n) % 2 ^ 64 = omega (arith, counts.1, l.invariant.0) in
    let more : length (l.yielded ++ (c.in-Some.i, c.in-Some.line) ∷ []) ≡ suc n = length_push l.yielded (c.in-Some.i, c.in-Some.line) ∙ add-one n in
    let p = rw (first_word, word 1 (omega arith), word 2 (omega arith), line_mod number (c.args.first + n) (get_or lines (n * 3) 0) (get_or lines (n * 3 + 1) 0) (get_or lines (n * 3 + 2) 0) m) at c.put_line.ensures.puts in
    rw more (
      omega (arith, counts.2, l.invariant.0),
      simp (p, l.invariant.1, append_assoc),
      omega (arith, c.put_line.ensures.upper_bound, l.invariant.2),
      chunk_rest lines before x after n l.invariant.3 s.1.0 three,
      s.0 ∙ l.invariant.4,
      search rules,
      search rules,
    )
