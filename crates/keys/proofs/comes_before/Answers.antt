use native.Mathlib.Omega.{arith}
use mathlib.Core.Path.{refl, sym, ◌∙◌}
use Rattle.keys.proofs.Order.{before_end, before_here, before_next}
use Rattle.keys.proofs.comes_before.Goals as goal

pub loop-i-init : goal.loop-i-init
loop-i-init c = refl

pub returns-then-a-i : goal.returns-then-a-i
returns-then-a-i c =
    let l = c.loop-i in
    let s = c.args in
    sym (l.invariant ∙ before_here s.a.now s.b.now l.i (omega arith) (omega arith) c.if-a-i.true)

pub loop-i-preserved : goal.loop-i-preserved
loop-i-preserved c =
    let l = c.loop-i in
    let s = c.args in
    l.invariant ∙ before_next s.a.now s.b.now l.i (omega arith) (omega arith) (omega arith)

pub returns : goal.returns
returns c =
    let l = c.loop-i in
    let s = c.args in
    sym (l.invariant ∙ before_end s.a.now s.b.now l.i (omega arith) (omega arith))
