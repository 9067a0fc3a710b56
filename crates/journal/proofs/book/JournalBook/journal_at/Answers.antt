-- `journal::book::JournalBook::journal_at` meets its contract. The form says that the steps end within their record (`length_byte`), and that this part
-- of it is journal i (`journal_at`). Assumes nothing.
use Rattle.std.proofs.Common.{get_or, [], ◌≤◌, length, ap, arith, rules}
use Rattle.journal.proofs.Records.{sixteen}
use Rattle.journal.proofs.Journals.{few, journal_at, length_byte}
use Rattle.journal.proofs.book.JournalBook.journal_at.Goals as goal

pub offset_bounds-records-i : goal.offset_bounds-records-i
offset_bounds-records-i c = omega (arith, few c.args.self.now.bytes.now)

pub bounds-records-i : goal.bounds-records-i
bounds-records-i c =
    let b = c.args.self.now.bytes.now in
    omega (arith, few b, ap length c.records.ensures, sixteen b)

pub slice_bounds-result-end : goal.slice_bounds-result-end
slice_bounds-result-end c =
    let n : get_or (get_or c.records.result.now c.args.i []) 1 0 ≤ 200 = rw c.records.ensures (length_byte c.args.self.now.bytes.now c.args.self.now.form c.args.i c.requires) in
    search rules

pub returns : goal.returns
returns c = rw (c.from-end.ensures, c.records.ensures) (journal_at c.args.self.now.bytes.now c.args.self.now.form c.args.i c.requires)
