-- `next_word::search::Search::first_from` meets its contract. The invariant: the list from w on is the list from where the search stands on, and the
-- word there fits. A word that reaches the quorum is the first from itself on; one below it is skipped with its extensions.
-- The measure is by how much the steps of v can still be raised. Assumes nothing.
use Prim.Native.Nat.{◌≤◌}
use mathlib.Core.Path.{◌≡◌}
use lib.ListN.{length}
use Rattle.next_word.specs.Searching.{words_of}
use Rattle.next_word.specs.Next.{from_on}
use Rattle.next_word.proofs.Climb.{slack}
use Rattle.next_word.proofs.search.Search.first_from.Given as goal

abbrev pub invariant-loop-v : goal.invariant-loop-v
invariant-loop-v l = (from_on l.initial.v (words_of l.self) ≡ from_on l.v (words_of l.self)) × (length l.v ≤ l.self.limit)

abbrev pub decreases-loop-v : goal.decreases-loop-v
decreases-loop-v l = slack l.v
