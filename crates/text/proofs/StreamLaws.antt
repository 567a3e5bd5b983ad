-- What a read leaves.
use Rattle.std.proofs.Common.{◌≡◌, refl, sym, ap, ◌∙◌, ℕ, ◌<◌, true, false, List, ◌++◌, length, drop, arith}
use Rattle.std.proofs.Math.ListN.{take-append-drop}
use Rattle.text.specs.Streams.{is_ended, is_failed, Came, Fetches}
use Rattle.text.specs.declared.streams.Last.{Last}
use Rattle.text.specs.declared.streams.Last.TheVariants.{More, Ended, Failed}
use Rattle.text.specs.declared.streams.Input.{Input}

-- a read that brought bytes may be followed by another
pub brought : (l : Last) (more : ℕ) → Came l more → 0 < more → l ≡ More
brought More more c h = refl
brought Ended more c h = absurd (omega (arith, c, h))
brought Failed more c h = absurd (omega (arith, c, h))

-- what it left, by the two tests
pub more_of : (l : Last) → is_ended l ≡ false → is_failed l ≡ false → l ≡ More
more_of More e f = refl
more_of Ended e f = cc
more_of Failed e f = cc

pub failed_of : (l : Last) → is_failed l ≡ true → l ≡ Failed
failed_of More f = cc
failed_of Ended f = cc
failed_of Failed f = refl

-- the bytes after a read are those before it, and others behind them
pub fetched : {total : ℕ} {before after : List ℕ} {i : Input} → Fetches total before i after → after ≡ before ++ drop (length before) after
fetched {total} {before} {after} f =
    sym (take-append-drop (length before) after) ∙ ap (λ (x : List ℕ). x ++ drop (length before) after) f.same
