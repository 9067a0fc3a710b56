-- `states::find_states` meets its contract. The invariant: the rows before i are done, and there are at most 1,000 keys. With no row left the states are the
-- picture. Assumes nothing.
use Prim.Native.Nat.{◌≤◌}
use lib.ListN.{length}
use Rattle.states.specs.Table.{AnyTabled}
use Rattle.states.specs.Found.{Sweeping}
use Rattle.states.proofs.find_states.Given as goal

abbrev pub invariant-loop-i : goal.invariant-loop-i
invariant-loop-i l = record { room : length l.keys ≤ 1000; sweeping : AnyTabled l.nexts (λ js. Sweeping js l.i 0 l.keys) }
