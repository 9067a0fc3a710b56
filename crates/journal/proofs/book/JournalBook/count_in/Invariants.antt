-- `journal::book::JournalBook::count_in` meets its contract. The invariant: n is how many of the journals before journal i have the word in them, so the
-- count is n more than the count of those from i on, and n is at most i. Assumes nothing.
use Rattle.std.proofs.Common.{◌≡◌, ◌+◌, ◌≤◌, drop}
use Rattle.words.specs.Words.{count}
use Rattle.records.specs.JournalBook.{journals_of}
use Rattle.journal.proofs.book.JournalBook.count_in.Given as goal

abbrev pub invariant-loop-i : goal.invariant-loop-i
invariant-loop-i l = let js = journals_of l.self.bytes.now in (l.n ≤ l.i) × (count js l.word ≡ l.n + count (drop l.i js) l.word)
