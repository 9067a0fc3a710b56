-- `writing::appending::append_at` meets its contract: the early refusals are seen first, with the book that has the step; the writer does the
-- rest. Assumes nothing.
use mathlib.Core.Path.{sym, ◌∙◌}
use Rattle.std.proofs.lemmas.Result.{err_from_is_err_and}
use Rattle.words.specs.Journals.{appended_at}
use Rattle.records.specs.JournalBook.{journals_of}
use Rattle.books.proofs.RefusalNumbers.{refusal_told}
use Rattle.books.proofs.WriteCases.{scratch_form, scratch_written}
use Rattle.books.proofs.AppendCases.{can_append, append_refused, append_written}
use Rattle.writing.proofs.appending.append_at.Goals as goal

pub returns-in_err-longer : goal.returns-in_err-longer
returns-in_err-longer c =
    let p = err_from_is_err_and c.from_residual.result c.from_residual.ensures.1 in
    rw (p.1, p.2) (append_refused c.args.journals.now c.args.rows.now c.args.i c.args.step _ c.in_err-longer.ensures.number (refusal_told _))

pub invariant_of-write_books : goal.invariant_of-write_books
invariant_of-write_books c =
    let jb = c.args.journals.now in
    let i = c.args.i in
    let k = can_append jb c.args.rows.now i c.args.step (sym c.in_ok-longer.ensures.number) in
    record { form = scratch_form (appended_at i c.args.step (journals_of jb)) k.journals _ c.in_ok-longer.ensures.book }

pub returns : goal.returns
returns c =
    let jb = c.args.journals.now in
    let rb = c.args.rows.now in
    let i = c.args.i in
    let s = c.args.step in
    let k = can_append jb rb i s (sym c.in_ok-longer.ensures.number) in
    c.write_books.ensures
    ∙ scratch_written (appended_at i s (journals_of jb)) k.journals _ c.in_ok-longer.ensures.book jb rb
    ∙ append_written jb rb i s k
