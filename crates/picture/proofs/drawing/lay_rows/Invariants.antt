-- `picture::drawing::lay_rows` meets its contract. The loop's invariant: the rows from r on are laid, and those before it are zero. Assumes nothing.
use mathlib.Core.Path.{◌≡◌}
use Rattle.picture.proofs.Laid.{laid_from}
use Rattle.picture.proofs.drawing.lay_rows.Given as goal

abbrev pub invariant-loop-r : goal.invariant-loop-r
invariant-loop-r l = l.rows ≡ laid_from l.keys l.r
