use Prim.Native.Nat.{ℕ, ◌-◌}
use native.Mathlib.Omega.{arith}
use mathlib.Core.Path.{sym, ap, ◌∙◌}
use mathlib.Core.List.{List, [], ◌∷◌}
use lib.ListN.{length, length-take}
use Rattle.next_word.specs.Next.{climbed}
use Rattle.next_word.proofs.WordMoves.{raised, shortened, nowhere}
use Rattle.next_word.proofs.word.climb.Goals as goal

pub returns-then-last-lt-HIGHEST_STEP-clause-to : goal.returns-then-last-lt-HIGHEST_STEP-clause-to
returns-then-last-lt-HIGHEST_STEP-clause-to c =
    ap (λ (w : List ℕ). w ∷ []) c.raise.ensures
    ∙ sym (c.loop-last.invariant.0 ∙ raised c.loop-last.v c.in-Some.last c.in-Some.ensures c.if-last-lt-HIGHEST_STEP.true)

pub loop-last-preserved : goal.loop-last-preserved
loop-last-preserved c =
    let v = c.loop-last.v in
    let e = shortened v c.in-Some.last c.in-Some.ensures c.if-last-lt-HIGHEST_STEP.false in (
      c.loop-last.invariant.0 ∙ e ∙ ap climbed (sym c.shorten-v.ensures),
      omega (arith, ap length c.shorten-v.ensures, length-take (length v - 1) v),
    )

pub returns-clause-to : goal.returns-clause-to
returns-clause-to c = sym (c.loop-last.invariant.0 ∙ nowhere c.loop-last.v c.in_default.ensures)
