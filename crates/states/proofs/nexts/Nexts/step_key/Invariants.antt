-- `states::Nexts::step_key` meets its contract. The invariant: the array is the key of which the first i places are stepped. Assumes nothing.
use mathlib.Core.Path.{◌≡◌}
use Rattle.states.specs.Stepped.{key_of_stepped}
use Rattle.states.proofs.nexts.Nexts.step_key.Given as goal

abbrev pub invariant-loop-i : goal.invariant-loop-i
invariant-loop-i l = l.to ≡ key_of_stepped l.self.entries l.i l.key l.s
