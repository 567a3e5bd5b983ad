-- Turns join: what they put, in order, is the listing of what they were handed.
use Rattle.std.proofs.Common.{◌≡◌, ℕ, Bool, true, false, List, [], ◌∷◌, ◌++◌, sym, refl, ap, ◌∙◌, subst, append_assoc, append-nil}
use Rattle.book.specs.declared.limits.Limits.{Limits}
use Rattle.lister.specs.Listing.{listing}
use Rattle.lister.specs.Pieces.{Stand, fed, Lists, Stands}
use Rattle.lister.specs.Turns.{Ends, Goes, Turn, Follow, last, pieces, all_put, JoinedPieces}
use Rattle.lister.specs.declared.blocks.Next.{Next}
use Rattle.lister.specs.declared.blocks.Next.TheVariants.{Again, Read, Done}
use Rattle.lister.proofs.PieceLaws.{stands_first, stands_fed, stands_listed, stands_ended, stands_closed, listing_empty}
use Rattle.lister.proofs.BlockTurns.{ends_here, ends_always}

-- a turn after which something is to be done has listed some of the input
goes_on : (t : Bool) (next : Next) (wrote : ℕ) (a : Stand) (put : List ℕ) (z : Stand) → Goes t next wrote a put z → (next ≡ Done → ⊥) → Lists a put z
goes_on t Again wrote a put z g h = g.0
goes_on false Read wrote a put z g h = g.0
goes_on true Read wrote a put z g h = absurd g
goes_on t Done wrote a put z g h = absurd (h refl)

-- after bytes that were seen and put, turns that follow each other
pub record Follows (limits : Limits) (seen put : List ℕ) (t : Turn) (ts : List Turn) : Type 0 where
  pub whole : listing limits (seen ++ pieces (t ∷ ts)) ≡ put ++ all_put (t ∷ ts)
  pub for_good : (last t ts).ended ≡ false → (more : List ℕ) → listing limits ((seen ++ pieces (t ∷ ts)) ++ more) ≡ put ++ all_put (t ∷ ts)

follows : {limits : Limits} {seen put : List ℕ} {a : Stand} (t : Turn) (ts : List Turn) → Stands limits seen put a → Follow a t ts → Follows limits seen put t ts
follows {limits} {seen} {put} {a} t [] s f =
    let fed_stands = stands_fed s t.piece in
    let e : Ends t.ended (fed a t.piece) t.put t.stand =
    subst (λ (n : Next). Goes t.ended n t.wrote (fed a t.piece) t.put t.stand) f.1 f.0 in
    let handed : t.piece ++ [] ≡ t.piece = append-nil t.piece in
    let all : put ++ t.put ≡ put ++ (t.put ++ []) = ap (λ (l : List ℕ). put ++ l) (sym (append-nil t.put)) in
    record {
      whole = ap (λ (l : List ℕ). listing limits (seen ++ l)) handed ∙ stands_ended fed_stands (ends_here e) ∙ all;
      for_good = λ q more. ap (λ (l : List ℕ). listing limits ((seen ++ l) ++ more)) handed ∙ stands_closed fed_stands (ends_always e q) more ∙ all;
    }
follows {limits} {seen} {put} {a} t (u ∷ ts) s f =
    let g = goes_on t.ended t.next t.wrote (fed a t.piece) t.put t.stand f.0 f.1 in
    let r = follows u ts (stands_listed (stands_fed s t.piece) g) f.2 in
    let handed : (seen ++ t.piece) ++ pieces (u ∷ ts) ≡ seen ++ (t.piece ++ pieces (u ∷ ts)) = append_assoc seen t.piece (pieces (u ∷ ts)) in
    let all : (put ++ t.put) ++ all_put (u ∷ ts) ≡ put ++ (t.put ++ all_put (u ∷ ts)) = append_assoc put t.put (all_put (u ∷ ts)) in
    record {
      whole = ap (listing limits) (sym handed) ∙ r.whole ∙ all;
      for_good = λ q more. ap (λ (l : List ℕ). listing limits (l ++ more)) (sym handed) ∙ r.for_good q more ∙ all;
    }

pub joined_pieces : JoinedPieces
joined_pieces = record {
  empty = listing_empty;
  joined = λ limits n t ts f. let r = follows t ts (stands_first limits n []) f in record { whole = r.whole; for_good = r.for_good };
}
