-- The rest is no longer than the buffer; each turn reads at least one byte of it.
use Rattle.std.proofs.Common.{length, ◌≤◌, ◌≡◌}
use Rattle.trial.proofs.read_script.Given as goal

abbrev pub invariant-loop-input : goal.invariant-loop-input
invariant-loop-input g l = (length l.rest ≤ l.room) × (l.room ≡ length l.fn.buffer)

abbrev pub decreases-loop-input : goal.decreases-loop-input
decreases-loop-input g l = length l.rest
