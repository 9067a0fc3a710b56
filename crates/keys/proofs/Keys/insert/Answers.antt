-- `Keys::insert` meets its contract. The key at the rank is the only one that can be the new one. If it is, the keys stay; if it isn't, or there is none,
-- the key goes in there. Assumes nothing.
use native.Mathlib.Omega.{arith}
use mathlib.Core.Path.{sym, ◌∙◌}
use Rattle.keys.proofs.Compared.{found_there, not_there}
use Rattle.keys.proofs.Ranks.{insert_old, insert_new, rank_most, put_in}
use Rattle.keys.proofs.Keys.insert.Goals as goal

pub open_at-requires : goal.open_at-requires
open_at-requires c =
    let absent = not_there _ _ _ c.get.result c.get.ensures.lookup.3 (sym c.ne.ensures ∙ c.if-ne.true) in
    let opened = insert_new c.args.key c.args.self.now c.rank-p.result c.rank-p.ensures.place (rw (c.deref.ensures.0, c.self.view_is) at absent) in (
      omega (arith, c.rank-p.ensures.place, rank_most c.args.key c.args.self.now),
      c.requires,
      rw (← opened) (put_in c.args.key c.args.self.now (omega arith) (rw c.self.view_is at c.self.invariant)),
    )

pub returns-then-ne : goal.returns-then-ne
returns-then-ne c =
    let absent = not_there _ _ _ c.get.result c.get.ensures.lookup.3 (sym c.ne.ensures ∙ c.if-ne.true) in
    let opened = insert_new c.args.key c.args.self.now c.rank-p.result c.rank-p.ensures.place (rw (c.deref.ensures.0, c.self.view_is) at absent) in
    c.open_at.ensures ∙ sym opened

pub returns-else-ne : goal.returns-else-ne
returns-else-ne c =
    let there = found_there _ _ _ c.get.result c.get.ensures.lookup.3 (sym c.ne.ensures ∙ c.if-ne.false) in
    let here = rw (c.deref.ensures.0, c.self.view_is) at there in
    sym (insert_old c.args.key c.args.self.now c.rank-p.result c.rank-p.ensures.place here.0 here.1)
