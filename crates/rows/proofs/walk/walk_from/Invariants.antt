-- `walk::walk_from` meets its contract. The invariant: r is a row, and the whole walk ends where the walk from r
-- under what is left of the word ends. An arc that isn't bad is a row again. Assumes nothing.
use Rattle.std.proofs.Common.{◌≡◌, ◌<◌, drop}
use Rattle.records.specs.Sizes.{most_rows}
use Rattle.rows.specs.Walk.{walk_from}
use Rattle.rows.proofs.walk.walk_from.Given as goal

abbrev pub invariant-loop-s : goal.invariant-loop-s
invariant-loop-s l = (l.r < most_rows) × (walk_from l.rows l.row l.word ≡ walk_from l.rows l.r (drop l.s-index l.word))
