use Prim.Native.Nat.{ℕ, ◌-◌}
use native.Mathlib.Omega.{arith}
use mathlib.Core.Path.{ap, ◌∙◌}
use Rattle.states.specs.Nexts.{next_entry}
use Rattle.states.proofs.Entries.{right_set}
use Rattle.states.proofs.nexts.fill_nexts.Goals as goal

pub loop-x-init : goal.loop-x-init
loop-x-init c y from to = omega arith

pub loop-x-preserved : goal.loop-x-preserved
loop-x-preserved c =
    let l = c.loop-x in
    let steps = c.args.steps.now in
    let x : ℕ = l.x - 1 in
    right_set steps c.requires.0 x l.entries (omega arith) (λ y from to. l.invariant y (omega arith) to) c.next_entry.result (omega arith)
    (c.next_entry.ensures ∙ ap (next_entry steps x) c.further_on-further.ensures)

pub returns : goal.returns
returns c x h = c.loop-x.invariant x (omega arith) h
