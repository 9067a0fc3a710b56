use native.Mathlib.Omega.{arith}
use mathlib.Core.Path.{subst, ◌≡◌}
use Prim.Native.Nat.{ℕ}
use Rattle.states.specs.Found.{Sweeping}
use Rattle.states.proofs.Sweeping.{row_begins, grown, row_ends}
use Rattle.states.proofs.grow_row.Goals as goal

pub loop-s-init : goal.loop-s-init
loop-s-init c =
    let a = c.args in
    record { room = c.requires.1; growing = λ js are tabled. row_begins js are a.i 0 a.keys.now (c.requires.2 js are tabled) c.requires.0 c.key-key.ensures }

pub returns-then-len-gt-ROWS-clause-swept : goal.returns-then-len-gt-ROWS-clause-swept
returns-then-len-gt-ROWS-clause-swept c js are tabled =
    let a = c.args in
    let l = c.loop-s in
    (grown js are a.nexts.now tabled a.i l.s c.key-key.result l.keys (l.invariant.growing js are tabled) (omega arith) c.add_step.new.keys c.add_step.ensures).most
    (omega arith)

pub loop-s-preserved : goal.loop-s-preserved
loop-s-preserved c =
    let a = c.args in
    let l = c.loop-s in
    record {
      room = omega arith;
      growing = λ js are tabled.
          (grown js are a.nexts.now tabled a.i l.s c.key-key.result l.keys (l.invariant.growing js are tabled) (omega arith) c.add_step.new.keys c.add_step.ensures).few
          (omega arith);
    }

pub returns-clause-swept : goal.returns-clause-swept
returns-clause-swept c js are tabled =
    let l = c.loop-s in
    let e : l.s ≡ 16 = omega arith in
    row_ends js are c.args.i l.keys (subst (λ (s : ℕ). Sweeping js c.args.i s l.keys) e (l.invariant.growing js are tabled).sweeping)
