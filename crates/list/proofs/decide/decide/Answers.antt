-- `list::decide::decide` meets its contract: each return is one case of the list call's numbers. The output's size is tested before the
-- books, since either gives the first number. Assumes nothing.
use native.Mathlib.Omega.{arith}
use mathlib.Core.Path.{◌≡◌, sym, ◌∙◌}
use mathlib.Core.Bool.{false}
use lib.ListN.{length}
use Rattle.std.proofs.lemmas.Result.{err_from_is_err_and}
use Rattle.books.specs.Check.{checked, check_call}
use Rattle.books.proofs.Faults.{fault_number, none_number}
use Rattle.books.proofs.RefusalNumbers.{refusal_told}
use Rattle.list.specs.ListCall.{Asked, asked, wrong_output}
use Rattle.list.proofs.ListCases.{Seen, books_wrong, limit_wrong, quorum_wrong, word_refused, word_taken, word_unasked}
use Rattle.list.proofs.decide.decide.Goals as goal
use Rattle.list.proofs.decide.decide.Goals.{else-after-via-then-after+else-wrong_word, else-after-via-else-after}

-- past the check: the sizes are right and no fault was found
seen : (g : Asked) → length g.word ≡ 16 → wrong_output g.out ≡ false → check_call g.journals g.rows ≡ checked 0 0 0 0 → Seen g
seen g l o e = record { word_sized = l; out_sized = o; books_sound = none_number g.journals g.rows (sym e) }

pub returns-in_err-check : goal.returns-in_err-check
returns-in_err-check c =
    let a = c.args in
    let g = asked a.journals.now a.rows.now a.quorum a.limit a.after a.word_record.now a.out.now in
    let o = sym c.wrong_output.ensures ∙ c.if-wrong_output.false in
    let p = err_from_is_err_and c.from_residual.result c.from_residual.ensures.1 in
    let n = fault_number g.journals g.rows _ c.in_err-check.ensures in
    rw (p.1, p.2) (n ∙ books_wrong g c.told-word_record o (λ z. refusal_told _ (n ∙ z)))

pub returns-then-limit-gt-LONGEST_WORD : goal.returns-then-limit-gt-LONGEST_WORD
returns-then-limit-gt-LONGEST_WORD c =
    let a = c.args in
    let g = asked a.journals.now a.rows.now a.quorum a.limit a.after a.word_record.now a.out.now in
    let o = sym c.wrong_output.ensures ∙ c.if-wrong_output.false in
    limit_wrong g (seen g c.told-word_record o (sym c.in_ok-check.ensures)) (omega arith)

pub returns-then-wrong_quorum : goal.returns-then-wrong_quorum
returns-then-wrong_quorum c =
    let a = c.args in
    let g = asked a.journals.now a.rows.now a.quorum a.limit a.after a.word_record.now a.out.now in
    let o = sym c.wrong_output.ensures ∙ c.if-wrong_output.false in
    let s = seen g c.told-word_record o (sym c.in_ok-check.ensures) in
    quorum_wrong g s c.if-limit-gt-LONGEST_WORD.false (sym c.wrong_quorum.ensures ∙ c.if-wrong_quorum.true)

pub returns-then-wrong_word : goal.returns-then-wrong_word
returns-then-wrong_word c =
    let a = c.args in
    let g = asked a.journals.now a.rows.now a.quorum a.limit a.after a.word_record.now a.out.now in
    let o = sym c.wrong_output.ensures ∙ c.if-wrong_output.false in
    let s = seen g c.told-word_record o (sym c.in_ok-check.ensures) in
    word_refused g s c.if-limit-gt-LONGEST_WORD.false (sym c.wrong_quorum.ensures ∙ c.if-wrong_quorum.false)
    c.if-after.true (sym c.wrong_word.ensures ∙ c.if-wrong_word.true)

pub returns : goal.returns
returns c =
    let a = c.args in
    let g = asked a.journals.now a.rows.now a.quorum a.limit a.after a.word_record.now a.out.now in
    let o = sym c.wrong_output.ensures ∙ c.if-wrong_output.false in
    let s = seen g c.told-word_record o (sym c.in_ok-check.ensures) in
    let q = sym c.wrong_quorum.ensures ∙ c.if-wrong_quorum.false in
    elim c.else-after.branch [
      | else-after-via-then-after+else-wrong_word w ↦
          word_taken g s c.if-limit-gt-LONGEST_WORD.false q w.if-after.true (sym w.wrong_word.ensures ∙ w.if-wrong_word.false)
      | else-after-via-else-after w ↦ word_unasked g s c.if-limit-gt-LONGEST_WORD.false q w.if-after.false
    ]
