-- `keys::comes_before` meets its contract. The invariant: the first i places are equal, so the answer is that of the rest. The first places that differ
-- decide, and of equal keys neither comes first. Assumes nothing.
use mathlib.Core.Path.{◌≡◌}
use lib.ListN.{drop}
use Rattle.words.specs.Order.{before}
use Rattle.keys.proofs.comes_before.Given as goal

abbrev pub invariant-loop-i : goal.invariant-loop-i
invariant-loop-i l = before l.a l.b ≡ before (drop l.i l.a) (drop l.i l.b)
