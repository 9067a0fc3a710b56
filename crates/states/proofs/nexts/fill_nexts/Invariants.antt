-- `states::nexts::fill_nexts` meets its contract. The invariant: the entries from x on are right. Entry x follows from the one 16 further on, which is among
-- them. Assumes nothing.
use Rattle.states.proofs.Entries.{RightFrom}
use Rattle.states.proofs.nexts.fill_nexts.Given as goal

abbrev pub invariant-loop-x : goal.invariant-loop-x
invariant-loop-x l = RightFrom l.steps l.x l.entries
