-- `next_word::word::climb` meets its contract. The invariant: w climbs to where v climbs, and v is no longer. A last step that can be raised ends the search, another is
-- dropped, and the empty word climbs nowhere. The measure is the number of v's steps. Assumes nothing.
use Prim.Native.Nat.{◌≤◌}
use mathlib.Core.Path.{◌≡◌}
use lib.ListN.{length}
use Rattle.next_word.specs.Next.{climbed}
use Rattle.next_word.proofs.word.climb.Given as goal

abbrev pub invariant-loop-last : goal.invariant-loop-last
invariant-loop-last l = (climbed l.initial.v ≡ climbed l.v) × (length l.v ≤ length l.initial.v)

abbrev pub decreases-loop-last : goal.decreases-loop-last
decreases-loop-last l = length l.v
