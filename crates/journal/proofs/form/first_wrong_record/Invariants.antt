-- `journal::form::first_wrong_record` meets its contract. The invariant: no record before record i is wrong, so the first wrong record is i more than
-- the first wrong of the records from i on, and `open_before` is whether the record before them is open. Assumes nothing.
use Rattle.std.proofs.Common.{◌≡◌, ◌+◌, drop}
use Rattle.records.specs.JournalBook.{first_wrong, first_wrong_record}
use Rattle.journal.proofs.form.first_wrong_record.Given as goal

abbrev pub invariant-loop-i : goal.invariant-loop-i
invariant-loop-i l = first_wrong_record l.book ≡ l.i + first_wrong l.open_before (drop l.i l.r-items)
