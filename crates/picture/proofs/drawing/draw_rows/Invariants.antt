-- `picture::drawing::draw_rows` meets its contract. The loop's invariant: the rows from i on have their arcs, and those before it are laid. Assumes nothing.
use mathlib.Core.Path.{◌≡◌}
use Rattle.picture.proofs.Linked.{linked}
use Rattle.picture.proofs.drawing.draw_rows.Given as goal

abbrev pub invariant-loop-i : goal.invariant-loop-i
invariant-loop-i l = l.rows ≡ linked l.nexts l.keys l.i
