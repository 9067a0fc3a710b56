-- `states::add_step` meets its contract: if the stepped key is live, `insert` puts it in; if it isn't, the keys stay. Assumes nothing.
use mathlib.Core.Path.{sym, ◌∙◌}
use Rattle.states.proofs.Added.{goes_in, stays_out}
use Rattle.states.proofs.add_step.Goals as goal

pub returns-then-is_live : goal.returns-then-is_live
returns-then-is_live c =
    let a = c.args in
    c.insert.ensures ∙ goes_in a.nexts.now.k c.step_key-to.result _ a.keys.now c.step_key-to.ensures (sym c.is_live.ensures ∙ c.if-is_live.true)

pub returns-else-is_live : goal.returns-else-is_live
returns-else-is_live c =
    let a = c.args in
    stays_out a.nexts.now.k c.step_key-to.result _ a.keys.now c.step_key-to.ensures (sym c.is_live.ensures ∙ c.if-is_live.false)
