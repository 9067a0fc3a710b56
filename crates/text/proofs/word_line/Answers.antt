use Prim.Native.Nat.{◌^◌, ◌<◌}
use mathlib.Core.List.{append-nil}
use lib.ListN.{length, get_or}
use native.Mathlib.Omega.{arith}
use Rattle.text.specs.Text.{decimal}
use Rattle.text.proofs.Decimals.{as_std}
use Rattle.text.proofs.Spaced.{spaced_std, spaced_more}
use Rattle.text.proofs.word_line.Goals as goal

pub loop-step-init : goal.loop-step-init
loop-step-init c = (grind arith, grind (arith, as_std, append-nil))

pub loop-step-preserved : goal.loop-step-preserved
loop-step-preserved c =
    let i = c.loop-step.step-index in
    let a = c.args in
    let w = a.word.now in
    let b : get_or w i 0 < 256 = omega (arith, c.type_inv.word i) in
    let x : get_or w i 0 < 2 ^ 64 = omega arith in (
      omega arith,
      rw (spaced_more (decimal (length w)) a.count w i (omega arith), spaced_std (get_or w i 0) x)
          (c.spaced-line-in-loop-step.ensures.longer.text _ c.loop-step.invariant.1),
    )
