-- `journal::steps::is_in` meets its contract. The measure is the number of the word's steps, which falls by one with each call. Assumes nothing.
use Rattle.std.proofs.Common.{length}
use Rattle.journal.proofs.steps.+is_in.Given as goal

abbrev pub decreases-is_in : goal.decreases-is_in
decreases-is_in l = length l.word.now
