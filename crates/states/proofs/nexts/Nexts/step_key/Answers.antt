use Prim.Native.Nat.{ℕ}
use native.Mathlib.Omega.{arith}
use mathlib.Core.Path.{ap₂, ◌∙◌}
use mathlib.Core.List.{List}
use lib.ListN.{set}
use Rattle.states.proofs.Stepped.{stepped_none, stepped_more}
use Rattle.states.proofs.nexts.Nexts.step_key.Goals as goal

pub loop-i-init : goal.loop-i-init
loop-i-init c =
    let a = c.args in
    stepped_none a.self.now.entries a.key a.s

pub loop-i-preserved : goal.loop-i-preserved
loop-i-preserved c =
    let l = c.loop-i in
    let a = c.args in
    ap₂ (λ (x : List ℕ) (v : ℕ). set x l.i v) l.invariant c.next_at.ensures ∙ stepped_more a.self.now.entries a.key a.s l.i (omega arith)
