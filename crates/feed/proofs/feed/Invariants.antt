-- `feed::feed` meets its contract. The loop's invariant: feeding all entries from the books at entry is taking what the reader has
-- left from the books now, with `taken` of them taken. Assumes nothing.
use Prim.Native.Nat.{◌+◌, ◌≤◌}
use mathlib.Core.Path.{◌≡◌}
use lib.ListN.{length}
use Rattle.entries.specs.Reading.{entries_left}
use Rattle.feed.specs.Entry.{feed_from}
use Rattle.feed.proofs.FeedCases.{take_from}
use Rattle.feed.proofs.feed.Given as goal

abbrev pub invariant-loop-read : goal.invariant-loop-read
invariant-loop-read l =
    (goal.iterator-loop-read).can_next l.read-iterator × (goal.iterator-loop-read).is_finite l.read-iterator
    × (l.taken + length (entries_left l.read-iterator) ≤ length l.entries)
    × (feed_from 0 l.initial.journals l.initial.rows l.entries ≡ take_from l.taken l.journals l.rows (entries_left l.read-iterator))
