-- `journal::book::JournalBook::with_step` meets its contract: a copy of the book, with the step behind the others and one more in the length byte of
-- journal i. Assumes nothing.
use Rattle.std.proofs.Common.{length, ap, arith}
use Rattle.journal.proofs.Putting.{put_book}
use Rattle.journal.proofs.book.JournalBook.with_step.Goals as goal

pub returns : goal.returns
returns c =
    let e = ap length c.journal_at-n.ensures in
    put_book c.args.self.now.bytes.now c.args.self.now.form c.args.i c.requires.journal c.args.step (length c.journal_at-n.result.now) e (omega arith)
