-- `text::word_line` meets its contract. The invariant: the line is the word's length, its count and its steps so far, in at most 20 bytes and 4 for
-- each number behind the first. Assumes nothing.
use Prim.Native.Nat.{◌+◌, ◌*◌, ◌≤◌}
use mathlib.Core.Path.{◌≡◌}
use mathlib.Core.List.{◌∷◌, ◌++◌}
use lib.ListN.{length, take}
use Rattle.text.specs.Text.{decimal, spaced}
use Rattle.text.specs.Lines.{line_of}
use Rattle.text.proofs.word_line.Given as goal

abbrev pub invariant-loop-step : goal.invariant-loop-step
invariant-loop-step l = (l.line.len ≤ 20 + 4 * (l.step-index + 1)) × (l.line ≡ line_of (decimal (length l.word) ++ spaced (l.count ∷ take l.step-index l.word)))
