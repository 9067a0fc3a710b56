-- `journal::book::JournalBook::with_journal` meets its contract: a copy of the book, in which one byte opens the next journal. Assumes nothing.
use Rattle.std.proofs.Common.{arith}
use Rattle.journal.proofs.Putting.{opened_book}
use Rattle.journal.proofs.book.JournalBook.with_journal.Goals as goal

pub returns : goal.returns
returns c = opened_book c.args.self.now.bytes.now c.args.self.now.form c.open_count.result c.open_count.ensures (omega arith)
