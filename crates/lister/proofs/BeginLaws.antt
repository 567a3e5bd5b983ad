-- The header, and the first read.
use Rattle.std.proofs.Common.{◌≡◌, ℕ, true, false, [], length, sym, refl, ap, subst, inl, arith}
use Rattle.text.specs.Streams.{Came}
use Rattle.text.specs.declared.streams.Last.{Last}
use Rattle.text.specs.declared.streams.Last.TheVariants.{More, Ended, Failed}
use Rattle.text.specs.declared.streams.Input as input
use Rattle.text.specs.declared.streams.Output as output
use Rattle.book.specs.declared.limits.Limits.{Limits}
use Rattle.lister.specs.Lines.{header}
use Rattle.lister.specs.Sessions.{Listed, Told, Session}
use Rattle.lister.specs.inner.Blocks.{why_ended}
use Rattle.lister.specs.declared.ends.End.{End}
use Rattle.lister.specs.declared.ends.End.TheVariants.{Input, NotRead, NotWritten}
use Rattle.lister.proofs.PieceLaws.{listing_empty}

-- an ending by what the last read left
pub told_as : {limits : Limits} (i : input.Input) (o : output.Output) (turns : ℕ) (why : End) → why_ended i.last ≡ why
    → Session limits (record { why = why; turns = turns; input = i; output = o }) → Session limits (record { why = why_ended i.last; turns = turns; input = i; output = o })
told_as {limits} i o turns why q s = subst (λ (x : End). Session limits (record { why = x; turns = turns; input = i; output = o })) (sym q) s

-- the header alone was handed over
module _ {limits : Limits} (i : input.Input) (o : output.Output) (none : i.total ≡ 0) (e : o.total ≡ length header) where
  header_alone : (why : End) → Listed limits why [] header → Told why i o 0 → Session limits (record { why = why; turns = 0; input = i; output = o })
  header_alone why l t = record {
    seen = [];
    put = header;
    seen_counted = none;
    put_counted = e;
    listed = l;
    told = t;
    few_turns = omega arith;
  }

  pub header_not_written : o.all ≡ false → Session limits (record { why = NotWritten; turns = 0; input = i; output = o })
  header_not_written f = header_alone NotWritten ([], listing_empty limits) f

  -- and the first read brought nothing
  pub nothing_read : (count : ℕ) → Came i.last count → count ≡ 0 → o.all ≡ true → Session limits (record { why = why_ended i.last; turns = 0; input = i; output = o })
  nothing_read count m z t = by_last i.last refl m
    where
      by_last : (l : Last) → i.last ≡ l → Came l count → Session limits (record { why = why_ended i.last; turns = 0; input = i; output = o })
      by_last More q m = absurd (omega (arith, m, z))
      by_last Ended q m = told_as i o 0 Input (ap why_ended q) (header_alone Input (listing_empty limits) (q, t))
      by_last Failed q m = told_as i o 0 NotRead (ap why_ended q) (header_alone NotRead (inl (refl, refl)) (q, t))
