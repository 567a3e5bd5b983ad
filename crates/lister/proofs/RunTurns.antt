-- A turn of the loop over the runs of a block.
use Rattle.std.proofs.Common.{◌≡◌, ℕ, ◌+◌, ◌-◌, ◌/◌, ◌%◌, ◌^◌, ◌<◌, ◌≤◌, List, [], ◌++◌, length, take, drop, sym, refl, ap, ◌∙◌, subst, arith}
use lib.Seq.{sets, sets-eq, take_at}
use Rattle.book.specs.layouts.Reading.{ReadOutcome, reading}
use Rattle.book.specs.rules.Valid.{Valid}
use Rattle.book.specs.rules.Words.{AgreeFrom}
use Rattle.book.specs.runs.Running.{Run, run}
use Rattle.book.specs.declared.Book.{Book}
use Rattle.book.proofs.Laws.{reading_front, Ends}
use Rattle.lister.specs.Listing.{lent}
use Rattle.lister.specs.Pieces.{Lists}
use Rattle.lister.specs.inner.Runs.{run_lines}
use Rattle.lister.specs.Turns.{waiting}
use Rattle.lister.specs.inner.Blocks.{RunsListed}
use Rattle.lister.specs.declared.blocks.Standing.{Standing}
use Rattle.lister.specs.declared.blocks.Next.TheVariants.{Again}
use Rattle.lister.proofs.LineLaws.{run_none}
use Rattle.lister.proofs.PieceLaws.{lists_none, lists_then, lists_mod}
use Rattle.lister.proofs.RunLists.{RunLists, run_lists}

-- the words at the front of lent words
front_words : (l m : List ℕ) → length l ≤ length m → take (length l) (sets m 0 l) ≡ l
front_words l m h = ap (take (length l)) (sets-eq l m 0 (omega (arith, h))) ∙ take_at l (drop (0 + length l) m) (length l) refl

-- where the listing of a block stands after some of its runs
module _ (feed : List ℕ) (number₀ : ℕ) (b₀ : Book) (place₀ : ℕ) where
  pub record Going (out words : List ℕ) (b : Book) (number place : ℕ) : Type 0 where
    pub lists : Lists
        (record { number = number₀; book = b₀; left = drop place₀ feed })
        out
        (record { number = number; book = b; left = drop place feed })
    pub valid : Valid b
    pub agree : AgreeFrom b.n words lent
    pub within : place ≤ length feed
    pub onward : place₀ ≤ place
    pub some : 0 < length out → place₀ < place

  pub begins : {out words : List ℕ} → out ≡ [] → Valid b₀ → place₀ ≤ length feed → AgreeFrom b₀.n words lent → Going out words b₀ number₀ place₀
  begins {out} {words} e v h a = subst (λ (l : List ℕ). Going l words b₀ number₀ place₀) (sym e) (record {
    lists = lists_none (record { number = number₀; book = b₀; left = drop place₀ feed });
    valid = v;
    agree = a;
    within = h;
    onward = omega arith;
    some = λ h. absurd (omega (arith, h));
  })

  module _ {out words : List ℕ} {b : Book} {number place : ℕ} (g : Going out words b number place) (lines : List ℕ) (size : length lines ≡ 1536) where
    abbrev x : Run
    x = run feed (length lines) b place words

    ran : RunLists feed (length lines) number b place (run feed (length lines) b place words)
    ran = run_lists feed (length lines) number b place words g.valid g.agree

    -- what the run leaves, as its contract says it
    module _ {b' : Book} {place' : ℕ} {words' lines' : List ℕ} {k : ℕ} (e : Ends (run feed (length lines) b place words) lines b' place' words' lines' k) where
      moved : (P : Book → ℕ → ℕ → List ℕ → List ℕ → Type 0) → P x.book x.place (length x.lines) x.words (sets lines 0 x.lines) → P b' place' k words' lines'
      moved P z =
          subst (λ (y : Book). P y place' k words' lines') (sym e.0)
          (subst (λ (y : ℕ). P x.book y k words' lines') (sym e.1)
          (subst (λ (y : ℕ). P x.book x.place y words' lines') (sym e.2)
          (subst (λ (y : List ℕ). P x.book x.place (length x.lines) y lines') (sym e.3)
          (subst (λ (y : List ℕ). P x.book x.place (length x.lines) x.words y) (sym e.4) z))))

      -- the words of its lines: three for each entry, within those lent
      pub few_lines : k ≤ 1536
      few_lines = omega (arith, e.2, ran.few, size)

      pub three_lines : k % 3 ≡ 0
      three_lines = omega (arith, e.2, ran.three)

      listed : (k ≡ 0 → ⊥) → 0 < ran.count
      listed h = let nonzero : ran.count ≡ 0 → ⊥ = λ z. h (omega (arith, e.2, ran.three, z)) in omega (arith, nonzero)

      -- an entry was listed, and takes a byte at least
      pub less : (k ≡ 0 → ⊥) → length feed - place' < length feed - place
      less h = omega (arith, e.1, ran.some (listed h), ran.within g.within)

      -- nothing was read
      pub ends : k ≡ 0 → (reading (drop place' feed) 0).entry ≡ []
      ends z =
          sym (ap (λ (r : ReadOutcome). r.entry) (reading_front feed place'))
          ∙ subst (λ (y : ℕ). (reading feed y).entry ≡ []) (sym e.1) (ran.none (omega (arith, e.2, ran.three, z)) (omega (arith, size)))

      -- the run, and what was put of it
      pub goes : {out' lines'' : List ℕ} → (k ≡ 0 → ⊥) → lines'' ≡ take k lines' → out' ≡ out ++ run_lines number lines'' (length lines'' / 3) words'
          → Going out' words' b' ((number + k / 3) % 2 ^ 64) place'
      goes {out'} {lines''} h = moved
          (λ (b : Book) (place k : ℕ) (words lines : List ℕ). lines'' ≡ take k lines → out' ≡ out ++ run_lines number lines'' (length lines'' / 3) words → Going out' words b ((number + k / 3) % 2 ^ 64) place)
          (λ front p. turn (listed h) (p ∙ ap (λ (l : List ℕ). out ++ run_lines number l (length l / 3) x.words) (front ∙ front_words x.lines lines (omega (arith, ran.few)))))
        where
          counts : length x.lines / 3 ≡ ran.count
          counts = omega (arith, ran.three)

          turn : 0 < ran.count → out' ≡ out ++ run_lines number x.lines (length x.lines / 3) x.words → Going out' x.words x.book ((number + length x.lines / 3) % 2 ^ 64) x.place
          turn some p = record {
            lists = subst (λ (l : List ℕ). Lists
                (record { number = number₀; book = b₀; left = drop place₀ feed })
                l
                (record { number = (number + length x.lines / 3) % 2 ^ 64; book = x.book; left = drop x.place feed })) (sym (rw counts at p)) (lists_mod {k = (number + length x.lines / 3) % 2 ^ 64} (lists_then g.lists ran.lists) (omega (arith, counts)));
            valid = ran.valid;
            agree = ran.agree;
            within = ran.within g.within;
            onward = omega (arith, g.onward, ran.onward);
            some = λ _. omega (arith, g.onward, ran.some some);
          }

      -- where nothing was put, it stands where the run left it
      pub stays : k ≡ 0 → Going out words' b' number place'
      stays = moved (λ (b : Book) (place k : ℕ) (words lines : List ℕ). k ≡ 0 → Going out words b number place) (λ z. still (omega (arith, ran.three, z)))
        where
          still : ran.count ≡ 0 → Going out x.words x.book number x.place
          still z = record {
            lists = record {
              whole = λ more.
                  let j : number + 0 ≡ number = omega arith in
                  g.lists.whole more ∙ ap (λ (l : List ℕ). out ++ l) (ran.lists.whole more ∙ rw (z, run_none number x.lines x.words, j));
            };
            valid = ran.valid;
            agree = ran.agree;
            within = ran.within g.within;
            onward = omega (arith, g.onward, ran.onward);
            some = λ h. omega (arith, g.some h, ran.onward);
          }

-- the loop returns, where output waits or no further entry can be read
pub returned : {feed : List ℕ} (a z : Standing) {out words : List ℕ} → z.next ≡ Again
    → Going feed a.number a.book a.place out words z.book z.number z.place → (length out ≤ waiting → (reading (drop z.place feed) 0).entry ≡ [])
    → RunsListed feed a z out words
returned {feed} a z q g stopped = record {
  ready = record { valid = g.valid; within = g.within; agree = g.agree };
  lists = g.lists;
  onward = g.onward;
  some = λ h. g.some (omega (arith, h));
  stopped = stopped;
  again = q;
}
