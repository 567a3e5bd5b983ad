use mathlib.Core.Path.{◌≡◌, sym, subst}
use mathlib.Core.List.{[], ◌∷◌}
use native.Mathlib.Omega.{arith}
use Prim.Native.Nat.{◌<◌}
use lib.ListN.{length}
use Rattle.book.specs.rules.State.{view, pack, held_in, held_by, added}
use Rattle.book.specs.rules.Valid.{Valid}
use Rattle.book.specs.declared.Book.{Book}
use Rattle.book.specs.declared.Period.{Period}
use Rattle.book.proofs.records.Packing.{push, count_is, pushed}
use Rattle.book.proofs.rules.ListLaws.{held_join}
use Rattle.book.proofs.rules.ValidLaws.{added_fit, pack_valid}
use Rattle.book.proofs.Book.add_period.Goals as goal

-- the record with one more period is that of the state
put_last : {b : Book} (v : Valid b) (p : Period) → length (view b).periods < b.limits.periods → held_in b.n (p ∷ []) ≡ 0 → push b p ≡ pack (added (view b) p)
unfolding held_by added
put_last {b = b} v p room none =
    pushed v p (omega (arith, count_is v, room, v.fit.limited.periods)) (omega (arith, held_join b.n (view b).periods (p ∷ []), none))

pub invariant_of-self : goal.invariant_of-self
invariant_of-self c =
    let v = c.self.invariant in
    let r = rw (← c.self.view_is) at c.requires in
    subst Valid (sym (put_last v c.args.p r.0 r.2)) (pack_valid _ (added_fit _ v.fit c.args.p r.0 r.1))

pub returns : goal.returns
returns c =
    let r = rw (← c.self.view_is) at c.requires in
    rw (← c.self.view_is) (put_last c.self.invariant c.args.p r.0 r.2)
