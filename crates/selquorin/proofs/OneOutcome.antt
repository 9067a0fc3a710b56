-- No second outcome fits a packed answer. Where an answer isn't packed, the promise is that of the call of its name, and its
-- theorem is there. Assumes nothing.
use Prim.Native.Nat.{ℕ}
use mathlib.Core.List.{List}
use Rattle.books.proofs.OneOutcome.{OneOutcome, one_outcome}
use Rattle.books.specs.TableCount.{table_count_call}
use Rattle.books.specs.JournalCount.{journal_count_call}
use Rattle.books.specs.Check.{check_call}
use Rattle.books.specs.OpenJournals.{open_journals_call}
use Rattle.books.specs.LiveRows.{live_rows_call}
use Rattle.list.specs.ListCall.{Asked, list_call}
use Rattle.selquorin.specs.PackedList.{packed_list}
use Rattle.packing.specs.Packed.{packed_count, packed_check, packed_journals, packed_rows}

pub table_count_one : (rb w : List ℕ) → OneOutcome (packed_count (table_count_call rb w))
table_count_one rb w = one_outcome (packed_count (table_count_call rb w))

pub journal_count_one : (jb r : List ℕ) → OneOutcome (packed_count (journal_count_call jb r))
journal_count_one jb r = one_outcome (packed_count (journal_count_call jb r))

pub check_one : (jb rb : List ℕ) → OneOutcome (packed_check (check_call jb rb))
check_one jb rb = one_outcome (packed_check (check_call jb rb))

-- the list's answer, and its output
pub list_one : (a : Asked) → OneOutcome (packed_list (list_call a).answer) × OneOutcome (list_call a).out
list_one a = (one_outcome (packed_list (list_call a).answer), one_outcome (list_call a).out)

pub journals_one : (jb : List ℕ) → OneOutcome (packed_journals (open_journals_call jb))
journals_one jb = one_outcome (packed_journals (open_journals_call jb))

pub rows_one : (jb rb : List ℕ) → OneOutcome (packed_rows (live_rows_call jb rb))
rows_one jb rb = one_outcome (packed_rows (live_rows_call jb rb))
