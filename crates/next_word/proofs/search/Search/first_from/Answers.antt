use native.Mathlib.Omega.{arith}
use mathlib.Core.Path.{sym, ap, ◌∙◌}
use mathlib.Core.List.{◌∷◌, []}
use lib.ListN.{take}
use Rattle.next_word.proofs.Climb.{moved_less}
use Rattle.next_word.proofs.Searching.{below, itself}
use Rattle.next_word.proofs.search.Search.first_from.Goals as goal

pub loop-v-smaller : goal.loop-v-smaller
loop-v-smaller c = moved_less c.loop-v.v c.in_ok-v.v c.in_ok-v.ensures.to

pub loop-v-preserved : goal.loop-v-preserved
loop-v-preserved c =
    let v = c.in_ok-v.v in
    let h = c.in_ok-v.ensures in
    (c.loop-v.invariant.0 ∙ below c.args.self.now c.loop-v.v (v ∷ []) h.to c.loop-v-test.ensures.count, omega (arith, h.short))

pub returns-in_err-v-clause-to : goal.returns-in_err-v-clause-to
returns-in_err-v-clause-to c =
    rw c.from_residual.ensures (sym (ap (take 1) (c.loop-v.invariant.0 ∙ below c.args.self.now c.loop-v.v [] c.in_err-v.ensures.to c.loop-v-test.ensures.count)))

pub returns-clause-to : goal.returns-clause-to
returns-clause-to c =
    sym (ap (take 1) c.loop-v.invariant.0 ∙ itself c.args.self.now c.loop-v.v c.reaches.ensures.codes (omega arith) c.loop-v-test.ensures.count)
