-- `states::grow_row` meets its contract. The invariant: of row i the steps below s are done, and row i still has the key that was read. A turn is one step
-- of the sweep, or finds more than 1,000 live states. Assumes nothing.
use Rattle.states.specs.Table.{AnyTabled}
use Rattle.states.proofs.Sweeping.{Growing}
use Prim.Native.Nat.{◌≤◌}
use lib.ListN.{length}
use Rattle.states.proofs.grow_row.Given as goal

abbrev pub invariant-loop-s : goal.invariant-loop-s
invariant-loop-s l = record { room : length l.keys ≤ 1000; growing : AnyTabled l.nexts (λ js. Growing js l.i l.s l.key l.keys) }
