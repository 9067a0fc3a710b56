-- `writing::write::write_books` meets its contract: the row book is written only if the picture of the new book fits, and only then
-- is the new book copied, so that both books are written or both stay. Assumes nothing.
use borrow.Author.Rules.{rules}
use mathlib.Core.Path.{◌≡◌, ap, ap₂, ◌∙◌}
use Rattle.std.proofs.lemmas.Result.{err_from_is_err_and}
use Rattle.records.specs.JournalBook.{journals_of}
use Rattle.records.proofs.Form.{form_book}
use Rattle.books.specs.Numbers.{done}
use Rattle.books.specs.Clear.{after}
use Rattle.books.proofs.RefusalNumbers.{refusal_told}
use Rattle.books.proofs.Refusals.{refused}
use Rattle.books.proofs.WriteCases.{write_done, write_refused}
use Rattle.writing.proofs.write.write_books.Goals as goal

pub returns-in_err-write_rows : goal.returns-in_err-write_rows
returns-in_err-write_rows c =
    let jb = c.args.journals.now in
    let w = c.in_err-write_rows.ensures in
    let p = err_from_is_err_and c.from_residual.result c.from_residual.ensures.1 in
    let same : c.unwrap.result.now ≡ c.args.rows.now = search rules in
    rw (p.1, p.2)
    (ap (after _ jb) (w.rows_after ∙ refused _ _ _ (refusal_told _) ∙ same)
    ∙ write_refused (journals_of c.args.made.now.bytes.now) jb c.args.rows.now _ w.number (refusal_told _))

pub returns : goal.returns
returns c =
    let made = c.args.made.now in
    let w = c.in_ok-write_rows.ensures in
    ap₂ (after done) (c.copy_from_slice.ensures.after ∙ (form_book made.bytes.now made.form).1) w.rows_after
    ∙ write_done (journals_of made.bytes.now) c.args.journals.now c.args.rows.now w.number
