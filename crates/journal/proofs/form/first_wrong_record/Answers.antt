use Rattle.std.proofs.Common.{length, zero-add, sym, ap, ◌∙◌, arith}
use Rattle.journal.proofs.Records.{wrong_of, wrong_here, wrong_next, wrong_end, form_right, form_wrong, sixteen}
use Rattle.journal.proofs.form.first_wrong_record.Goals as goal

pub loop-i-init : goal.loop-i-init
loop-i-init c = rw c.records-r-items.ensures (wrong_of c.args.book.now ∙ sym (zero-add _))

pub returns-then-wrong_record : goal.returns-then-wrong_record
returns-then-wrong_record c =
    let b = c.args.book.now in
    let rs = c.records-r-items.result.now in
    let e = wrong_here rs c.loop-i.open_before c.loop-i.i c.loop-i-test.true (sym c.wrong_record.ensures ∙ c.if-wrong_record.true) in
    let n = ap length c.records-r-items.ensures ∙ sixteen b in
    (form_wrong b c.told-book (omega arith), omega arith)

pub loop-i-preserved : goal.loop-i-preserved
loop-i-preserved c =
    let e = wrong_next c.records-r-items.result.now c.loop-i.open_before c.loop-i.i c.loop-i-test.true (sym c.wrong_record.ensures ∙ c.if-wrong_record.false) in
    omega arith

pub returns : goal.returns
returns c =
    let b = c.args.book.now in
    let rs = c.records-r-items.result.now in
    let n = ap length c.records-r-items.ensures ∙ sixteen b in
    let e = wrong_end rs c.loop-i.open_before c.loop-i.i c.loop-i-test.false in
    form_right b c.told-book (omega arith)
