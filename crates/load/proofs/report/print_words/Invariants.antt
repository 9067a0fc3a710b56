-- `report::print_words` meets its contract. The invariant: the words printed and those that are due for the next call are as many as the whole list has.
-- A page has at most 1,024 words, so that all turns together count fewer words than a number holds.
use Prim.Native.Nat.{◌+◌, ◌*◌, ◌≤◌}
use mathlib.Core.Path.{◌≡◌}
use lib.ListN.{length, replicate}
use Rattle.std.specs.Option.{is_some, unwrap_or}
use Rattle.words.specs.Words.{count}
use Rattle.words.specs.Listing.{list_of}
use Rattle.records.specs.JournalBook.{journals_of}
use Rattle.list.specs.ListCall.{due_in}
use Rattle.load.proofs.report.print_words.Given as goal

abbrev pub invariant-loop : goal.invariant-loop
invariant-loop g l =
    let whole = list_of (count (journals_of l.journals)) l.ask.quorum l.ask.limit in (l.words ≤ 1024 * l.counter) × (length l.page ≡ 16384)
    × (l.words + length (due_in whole (is_some l.last) (unwrap_or l.last (replicate 16 0))) ≡ length whole)
