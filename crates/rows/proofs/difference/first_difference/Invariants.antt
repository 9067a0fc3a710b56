-- `difference::first_difference` meets its contract. The invariants: all bytes of the rows before the present one are alike, and in it
-- those before the present byte. Assumes nothing.
use Rattle.std.proofs.Common.{◌+◌, ◌*◌}
use Rattle.rows.proofs.Alike.{Alike}
use Rattle.rows.proofs.difference.first_difference.Given as goal

abbrev pub invariant-loop-byte : goal.invariant-loop-byte
invariant-loop-byte l = Alike l.rows l.picture (64 * l.row + l.byte)

abbrev pub invariant-loop-row : goal.invariant-loop-row
invariant-loop-row l = Alike l.rows l.picture (64 * l.row)
