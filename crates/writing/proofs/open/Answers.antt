-- `writing::open` meets its contract: what it is refused with is decided first, with the book that has the next journal open; the writer
-- does the rest. Its number 6 can't come, because the rows fit. Assumes nothing.
use mathlib.Core.Path.{sym, ◌∙◌}
use Rattle.std.proofs.lemmas.Result.{err_from_is_err_and}
use Rattle.words.specs.Journals.{opened}
use Rattle.records.specs.JournalBook.{journals_of}
use Rattle.books.proofs.RefusalNumbers.{refusal_told}
use Rattle.books.proofs.WriteCases.{scratch_form, scratch_written}
use Rattle.books.proofs.OpenCases.{can_open, open_refused, open_written}
use Rattle.writing.proofs.open.Goals as goal

pub returns-in_err-wider : goal.returns-in_err-wider
returns-in_err-wider c =
    let p = err_from_is_err_and c.from_residual.result c.from_residual.ensures.1 in
    rw (p.1, p.2) (open_refused c.args.journals.now c.args.rows.now _ c.in_err-wider.ensures.number (refusal_told _))

pub invariant_of-write_books : goal.invariant_of-write_books
invariant_of-write_books c =
    let k = can_open c.args.journals.now c.args.rows.now (sym c.in_ok-wider.ensures.number) in
    record { form = scratch_form (opened (journals_of c.args.journals.now)) k.journals _ c.in_ok-wider.ensures.book }

pub returns : goal.returns
returns c =
    let jb = c.args.journals.now in
    let rb = c.args.rows.now in
    let free = sym c.in_ok-wider.ensures.number in
    let k = can_open jb rb free in
    c.write_books.ensures ∙ scratch_written (opened (journals_of jb)) k.journals _ c.in_ok-wider.ensures.book jb rb ∙ open_written jb rb k free
