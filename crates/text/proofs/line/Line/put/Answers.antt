-- `text::Line::put` meets its contract: the text is stored at the end of the line (`Longer.antt`). Assumes nothing.
use mathlib.Core.Path.{refl, ◌∙◌}
use native.Mathlib.Omega.{arith}
use Rattle.text.proofs.Longer.{longer_text}
use Rattle.text.proofs.line.Line.put.Goals as goal

pub returns-clause-longer : goal.returns-clause-longer
returns-clause-longer c =
    let a = c.args in
    rw (c.copy_from_slice.ensures.after ∙ c.as_bytes.ensures.value) (longer_text a.self a.more.now _ _ (omega arith) refl)
