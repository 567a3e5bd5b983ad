-- The loop over blocks: what was read and written so far, and where the listing stands.
use Rattle.std.proofs.Common.{◌≡◌, ℕ, ◌+◌, ◌-◌, ◌*◌, ◌≤◌, min, Bool, true, false, cond, List, [], ◌∷◌, ◌++◌, length, get_or, drop, sym, refl, ap, ◌∙◌, subst, inr, true≢false, append-nil, arith, length-append, length-drop, drop-cons}
use Rattle.text.specs.Streams.{most, is_ended, is_failed, Came, Fetches}
use Rattle.text.specs.declared.streams.Last.{Last}
use Rattle.text.specs.declared.streams.Last.TheVariants.{More, Ended, Failed}
use Rattle.text.specs.declared.streams.Input as input
use Rattle.text.specs.declared.streams.Output as output
use Rattle.text.proofs.StreamLaws.{more_of, failed_of, fetched}
use Rattle.book.specs.rules.Makings.{separate}
use Rattle.book.specs.rules.Valid.{Valid}
use Rattle.book.specs.declared.limits.Limits.{Limits}
use Rattle.book.specs.declared.Book.{Book}
use Rattle.book.proofs.Laws.{stays_valid, short_few}
use Rattle.lister.specs.Lines.{header}
use Rattle.lister.specs.Listing.{listing, book_for}
use Rattle.lister.specs.Pieces.{rest, Stands}
use Rattle.lister.specs.Sessions.{Listed, Told, Session}
use Rattle.lister.specs.Turns.{Goes}
use Rattle.lister.specs.inner.Blocks.{stand_in, Ready, BlockListed, why_ended, Begun}
use Rattle.lister.specs.declared.blocks.Standing.{Standing}
use Rattle.lister.specs.declared.blocks.Next.{Next}
use Rattle.lister.specs.declared.blocks.Next.TheVariants.{Again, Read, Done}
use Rattle.lister.specs.declared.ends.End.{End}
use Rattle.lister.specs.declared.ends.End.TheVariants.{Unread, Input, Turns, NotRead, NotWritten}
use Rattle.lister.proofs.BlockTurns.{ends_here, ends_always}
use Rattle.lister.proofs.BeginLaws.{told_as}
use Rattle.lister.proofs.PieceLaws.{stands_first, stands_fed, stands_listed, stands_now, stands_ended, stands_closed}

-- where the loop stands before the bytes that are there, after so many turns; a turn lists an entry, reads a byte or finds
-- the end of the input
pub record Looping (limits : Limits) (feed words : List ℕ) (s : Standing) (i : input.Input) (o : output.Output) (turns : ℕ) : Type 0 where
  pub seen : List ℕ
  pub put : List ℕ
  pub seen_counted : i.total ≡ min (length seen) most
  pub put_counted : o.total ≡ min (length put) most
  pub stands : Stands limits seen put (stand_in feed s)
  pub ready : Ready feed s words
  pub written : o.all ≡ true
  pub not_failed : is_failed i.last ≡ false
  pub few : turns + length (drop s.place feed) ≤ 2 * length seen + cond (is_ended i.last) 1 0

pub loop_begins : (limits : Limits) {i : input.Input} {o : output.Output} {feed words : List ℕ} {b : Book} (s : Standing)
    → s ≡ record { book = b; number = 1; place = 1; next = Again } → b ≡ book_for limits (get_or feed 0 0) → Begun i o feed words
    → Looping limits feed words s i o 0
loop_begins limits {i} {o} {feed} {words} {b} z q made g = subst (λ (x : Standing). Looping limits feed words x i o 0) (sym q) (record {
  seen = feed;
  put = header;
  seen_counted = g.read_counted;
  put_counted = omega (arith, g.header_counted);
  stands = subst (λ (l : List ℕ). Stands limits l header (record { number = 1; book = b; left = drop 1 feed })) (sym split)
      (subst (λ (x : Book). Stands limits (get_or feed 0 0 ∷ drop 1 feed) header (record { number = 1; book = x; left = drop 1 feed })) (sym made)
      (stands_first limits (get_or feed 0 0) (drop 1 feed)));
  ready = record {
    valid = subst Valid (sym made) (stays_valid.first (separate (get_or feed 0 0) limits));
    within = omega (arith, g.some);
    agree = record { size = ap length g.as_lent; rest = ap (drop b.n) g.as_lent };
  };
  written = g.header_written;
  not_failed = ap is_failed g.brought;
  few = omega (arith, length-drop 1 feed, g.some);
})
  where
    split : feed ≡ get_or feed 0 0 ∷ drop 1 feed
    split = drop-cons feed 0 0 (omega (arith, g.some))

-- the turns are used up
pub loop_turns : {limits : Limits} {feed words : List ℕ} {s : Standing} {i : input.Input} {o : output.Output} {turns : ℕ} → Looping limits feed words s i o turns
    → turns ≡ most → Session limits (record { why = Turns; turns = most; input = i; output = o })
loop_turns {limits} {feed} {words} {s} {i} {o} {turns} g e = record {
  seen = g.seen;
  put = g.put;
  seen_counted = g.seen_counted;
  put_counted = g.put_counted;
  listed = (stand_in feed s, g.stands);
  told = (refl, g.written);
  few_turns = few_end (is_ended i.last) g.few;
}
  where
    few_end : (t : Bool) → turns + length (drop s.place feed) ≤ 2 * length g.seen + cond t 1 0 → most ≤ 2 * length g.seen + 2
    few_end true h = omega (arith, h, e)
    few_end false h = omega (arith, h, e)

-- a turn so far: a block was listed, and what was put of it handed over
pub record Turned (limits : Limits) (feed words : List ℕ) (z : Standing) (i : input.Input) (turns : ℕ) (w : output.Output) : Type 0 where
  pub start : Standing
  pub lent_words : List ℕ
  pub before : output.Output
  pub out : List ℕ
  pub going : Looping limits feed lent_words start i before turns
  pub block : BlockListed feed start (is_ended i.last) z out words
  pub handed : w.total ≡ min (before.total + length out) most

pub turned : {limits : Limits} {feed words words' out listed handed : List ℕ} {a z : Standing} {i : input.Input} {turns : ℕ} {o w : output.Output} {ended : Bool}
    → Looping limits feed words a i o turns → listed ≡ feed → handed ≡ out → ended ≡ is_ended i.last → BlockListed listed a ended z out words'
    → w.total ≡ min (o.total + length handed) most → Turned limits feed words' z i turns w
turned {words = words} {words' = words'} {out = out} {a = a} {z = z} {o = o} g l h e b c = record {
  start = a;
  lent_words = words;
  before = o;
  out = out;
  going = g;
  block = rw (l, e) at b;
  handed = rw h at c;
}

module _ {limits : Limits} {feed words' : List ℕ} {z : Standing} {i : input.Input} {turns : ℕ} {w : output.Output} (x : Turned limits feed words' z i turns w) where
  abbrev a : Standing
  a = x.start

  abbrev g : Looping limits feed x.lent_words x.start i x.before turns
  g = x.going

  abbrev block : BlockListed feed x.start (is_ended i.last) z x.out words'
  block = x.block

  abbrev put : List ℕ
  put = g.put ++ x.out

  counted : w.total ≡ min (length put) most
  counted = omega (arith, x.handed, g.put_counted, length-append g.put x.out)

  few_end : (t : Bool) → turns + length (drop a.place feed) ≤ 2 * length g.seen + cond t 1 0 → turns + 1 ≤ 2 * length g.seen + 2
  few_end true h = omega (arith, h)
  few_end false h = omega (arith, h)

  -- the listing ends here
  ended : (why : End) → Listed limits why g.seen put → Told why i w (turns + 1) → Session limits (record { why = why; turns = turns + 1; input = i; output = w })
  ended why l t = record {
    seen = g.seen;
    put = put;
    seen_counted = g.seen_counted;
    put_counted = counted;
    listed = l;
    told = t;
    few_turns = few_end (is_ended i.last) g.few;
  }

  goes_as : (next : Next) → z.next ≡ next → (t : Bool) → is_ended i.last ≡ t → Goes t next (length x.out) (stand_in feed a) x.out (stand_in feed z)
  goes_as next d t q = subst (λ (y : Bool). Goes y next (length x.out) (stand_in feed a) x.out (stand_in feed z)) q
      (subst (λ (n : Next). Goes (is_ended i.last) n (length x.out) (stand_in feed a) x.out (stand_in feed z)) d block.goes)

  -- where not all was written, what was put is the front of the listing of the bytes read
  pub turn_not_written : w.all ≡ false → Session limits (record { why = NotWritten; turns = turns + 1; input = i; output = w })
  turn_not_written e = ended NotWritten (front (is_ended i.last) z.next block.goes) e
    where
      front : (t : Bool) (next : Next) → Goes t next (length x.out) (stand_in feed a) x.out (stand_in feed z) → (l : List ℕ) × (listing limits g.seen ≡ put ++ l)
      front t Again h = (rest (stand_in feed z), stands_now (stands_listed g.stands h.0))
      front false Read h = (rest (stand_in feed z), stands_now (stands_listed g.stands h.0))
      front true Read h = absurd h
      front t Done h = ([], stands_ended g.stands (ends_here h) ∙ sym (append-nil put))

  -- the listing is whole
  pub turn_done : z.next ≡ Done → w.all ≡ true → Session limits (record { why = why_ended i.last; turns = turns + 1; input = i; output = w })
  turn_done d e = by_last i.last refl
    where
      by_last : (l : Last) → i.last ≡ l → Session limits (record { why = why_ended i.last; turns = turns + 1; input = i; output = w })
      by_last More q = told_as i w (turns + 1) Unread (ap why_ended q) (ended Unread (stands_closed g.stands (ends_always (goes_as Done d false (ap is_ended q)) refl)) (q, e))
      by_last Ended q = told_as i w (turns + 1) Input (ap why_ended q) (ended Input (stands_ended g.stands (ends_here (goes_as Done d true (ap is_ended q)))) (q, e))
      by_last Failed q = absurd (true≢false (sym (ap is_failed q) ∙ g.not_failed))

  -- there is more to list in the block
  pub turn_again : z.next ≡ Again → w.all ≡ true → Looping limits feed words' z i w (turns + 1)
  turn_again d e =
      let h = goes_as Again d (is_ended i.last) refl in
      record {
        seen = g.seen;
        put = put;
        seen_counted = g.seen_counted;
        put_counted = counted;
        stands = stands_listed g.stands h.0;
        ready = block.ready;
        written = e;
        not_failed = g.not_failed;
        few = omega (arith, g.few, h.1);
      }

  -- the bytes left are short: they are kept in front, and a read follows
  module _ (d : z.next ≡ Read) (e : w.all ≡ true) where
    short : (is_ended i.last ≡ false) × Goes false Read (length x.out) (stand_in feed a) x.out (stand_in feed z)
    short = by_end (is_ended i.last) refl
      where
        by_end : (t : Bool) → is_ended i.last ≡ t → (is_ended i.last ≡ false) × Goes false Read (length x.out) (stand_in feed a) x.out (stand_in feed z)
        by_end true q = absurd (goes_as Read d true q)
        by_end false q = (q, goes_as Read d false q)

    -- so the read before it brought bytes
    pub left_more : i.last ≡ More
    left_more = more_of i.last short.0 g.not_failed

    -- there is room behind them
    pub left_few : length (drop z.place feed) ≤ 255
    left_few = short_few (drop z.place feed) short.1.2

    module _ {feed' feed'' : List ℕ} {r : input.Input} (moved : feed' ≡ drop z.place feed) (f : Fetches i.total feed' r feed'') where
      abbrev piece : List ℕ
      piece = drop (length feed') feed''

      whole : feed'' ≡ drop z.place feed ++ piece
      whole = fetched f ∙ ap (λ (l : List ℕ). l ++ piece) moved

      piece_size : length piece ≡ length feed'' - length feed'
      piece_size = length-drop (length feed') feed''

      abbrev now : Standing
      now = record { book = z.book; number = z.number; place = 0; next = z.next }

      stands : Stands limits (g.seen ++ piece) put (stand_in feed'' now)
      stands = subst (λ (l : List ℕ). Stands limits (g.seen ++ piece) put (record { number = z.number; book = z.book; left = l })) (sym whole)
          (stands_fed (stands_listed g.stands short.1.0) piece)

      counted_in : r.total ≡ min (length (g.seen ++ piece)) most
      counted_in = omega (arith, f.counted, g.seen_counted, piece_size, length-append g.seen piece)

      few_before : turns + length (drop a.place feed) ≤ 2 * length g.seen
      few_before = let h = subst (λ (t : Bool). turns + length (drop a.place feed) ≤ 2 * length g.seen + cond t 1 0) short.0 g.few in omega (arith, h)

      -- the read failed, and brought nothing
      pub turn_not_read : is_failed r.last ≡ true → Session limits (record { why = NotRead; turns = turns + 1; input = r; output = w })
      turn_not_read h =
          let q = failed_of r.last h in
          let none : length feed'' - length feed' ≡ 0 = subst (λ (l : Last). Came l (length feed'' - length feed')) q f.came in
          record {
            seen = g.seen;
            put = put;
            seen_counted = omega (arith, f.counted, g.seen_counted, none);
            put_counted = counted;
            listed = inr (stand_in feed z, stands_listed g.stands short.1.0, short.1.2);
            told = (q, e);
            few_turns = omega (arith, few_before);
          }

      -- there are more bytes, or the input has ended
      pub turn_read : is_failed r.last ≡ false → Looping limits feed'' words' now r w (turns + 1)
      turn_read h = record {
        seen = g.seen ++ piece;
        put = put;
        seen_counted = counted_in;
        put_counted = counted;
        stands = stands;
        ready = record { valid = block.ready.valid; within = omega arith; agree = block.ready.agree };
        written = e;
        not_failed = h;
        few = few_now r.last h f.came;
      }
        where
          few_now : (l : Last) → is_failed l ≡ false → Came l (length feed'' - length feed') → turns + 1 + length feed'' ≤ 2 * length (g.seen ++ piece) + cond (is_ended l) 1 0
          few_now More q m = omega (arith, m, few_before, short.1.1, piece_size, ap length whole, length-append (drop z.place feed) piece, length-append g.seen piece)
          few_now Ended q m = omega (arith, m, few_before, short.1.1, piece_size, ap length whole, length-append (drop z.place feed) piece, length-append g.seen piece)
          few_now Failed q m = absurd (true≢false q)
