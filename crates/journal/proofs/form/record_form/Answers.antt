-- `journal::form::record_form` meets its contract: the definition goes by the same byte. The part that is lent is all behind that byte. Assumes nothing.
use Rattle.std.proofs.Common.{drop, length-drop, eq-eqb, ap, ◌∙◌, arith}
use Rattle.std.proofs.Math.Seq.{take_all}
use Rattle.records.specs.StepBytes.{steps_form}
use Rattle.journal.proofs.form.record_form.Goals as goal

pub returns-then-r-eq1 : goal.returns-then-r-eq1
returns-then-r-eq1 c =
    let r = c.args.r.now in
    rw (eq-eqb _ _ c.if-r-eq1.true) (c.steps_form.ensures ∙ ap (steps_form 200) (take_all 255 (drop 1 r) (omega (arith, length-drop 1 r))))
