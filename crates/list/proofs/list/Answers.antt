-- `list::list` meets its contract: the word record's size is tested, and the number is decided; then the first word that is due is sought, and the
-- page from it on is the page of what is due, since that is an end of the list by the table count, which on sound books is the list of the journals.
-- Assumes nothing.
use mathlib.Core.Path.{refl}
use lib.ListN.{length}
use borrow.Author.Tests.{ne_eqb}
use Rattle.std.proofs.lemmas.Result.{err_from_is_err_and}
use Rattle.books.specs.declared.refused.Refused.TheVariants.{WrongSize}
use Rattle.books.proofs.RefusalNumbers.{refusal_told}
use Rattle.list.specs.ListCall.{asked}
use Rattle.list.proofs.ListCases.{size_wrong, list_allowed, list_wrong, list_done, due_first, due_after}
use Rattle.list.proofs.TableOf.{table_falls}
use Rattle.list.proofs.list.Goals as goal

pub returns-in_err-word : goal.returns-in_err-word
returns-in_err-word c =
    let a = c.args in
    let g = asked a.journals.now a.rows.now a.quorum a.limit a.after a.word_record.now a.out.now in
    let p = err_from_is_err_and c.from_residual.result c.from_residual.ensures.1 in
    let w = c.in_err-word.ensures in
    rw (p.1, p.2, w.1) (list_wrong g 1 (size_wrong g (rw (ne_eqb (length g.word) 16 w.0))) (refusal_told WrongSize))

pub returns-in_err-decide : goal.returns-in_err-decide
returns-in_err-decide c =
    let a = c.args in
    let g = asked a.journals.now a.rows.now a.quorum a.limit a.after a.word_record.now a.out.now in
    let p = err_from_is_err_and c.from_residual-in_err-decide.result c.from_residual-in_err-decide.ensures.1 in
    rw (p.1, p.2) (list_wrong g _ (rw c.in_ok-word.ensures.1 at c.in_err-decide.ensures) (refusal_told _))

pub invariant_of-search : goal.invariant_of-search
invariant_of-search c =
    let a = c.args in
    let g = asked a.journals.now a.rows.now a.quorum a.limit a.after a.word_record.now a.out.now in
    let m = list_allowed g _ (rw c.in_ok-word.ensures.1 at c.in_ok-decide.ensures) refl in
    record { short = m.limit; falls = table_falls g.journals g.rows m.right }

pub write_page-requires-clause-first : goal.write_page-requires-clause-first
write_page-requires-clause-first c =
    let a = c.args in
    let g = asked a.journals.now a.rows.now a.quorum a.limit a.after a.word_record.now a.out.now in
    let f = c.first_due-first in
    due_first g _ (due_after g (rw c.in_ok-word.ensures.1 at c.word_after.ensures) f.ensures.to)

pub returns : goal.returns
returns c =
    let a = c.args in
    let g = asked a.journals.now a.rows.now a.quorum a.limit a.after a.word_record.now a.out.now in
    let f = c.first_due-first in
    let p = c.write_page in
    list_done g _ (rw c.in_ok-word.ensures.1 at c.in_ok-decide.ensures) refl _ (due_after g (rw c.in_ok-word.ensures.1 at c.word_after.ensures) f.ensures.to)
    p.result.written p.result.more _ p.ensures.count p.ensures.more p.ensures.out_after
