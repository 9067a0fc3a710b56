use Prim.Native.Nat.{ℕ, ◌-◌, ◌≤◌}
use native.Mathlib.Omega.{arith}
use mathlib.Core.Path.{◌≡◌, sym, ap, ◌∙◌}
use mathlib.Core.List.{List, [], ◌∷◌}
use lib.ListN.{length, length-append, get_or, set}
use Rattle.keys.proofs.Moved.{none_moved, one_moved, put_down, last_is}
use Rattle.keys.proofs.last_to.Goals as goal

pub loop-i-init : goal.loop-i-init
loop-i-init c = (
  c.requires,
  λ front last e.
      let n : length c.args.keys.now - 1 ≡ length front = omega (arith, ap length e, length-append front (last ∷ [])) in
      rw n (e ∙ sym (none_moved front last)),
)

pub loop-i-preserved : goal.loop-i-preserved
loop-i-preserved c = (
  omega arith,
  λ front last e.
      let x : ℕ = c.loop-i.i - 1 in
      let n : x ≤ length front = omega (arith, ap length e, length-append front (last ∷ [])) in
      ap (λ (l : List (List ℕ)). set l x (get_or l (x - 1) [])) (c.loop-i.invariant.1 front last e) ∙ one_moved front last x (omega arith) n,
)

pub returns : goal.returns
returns c front last e =
    let p : c.loop-i.i - 1 ≡ c.args.p = omega arith in
    let n : length c.args.keys.now - 1 ≡ length front = omega (arith, ap length e, length-append front (last ∷ [])) in
    let k : get_or c.args.keys.now (length c.args.keys.now - 1) [] ≡ last = ap (λ (l : List (List ℕ)). get_or l (length c.args.keys.now - 1) []) e ∙ last_is front last _ n in
    rw (k, rw p at (c.loop-i.invariant.1 front last e)) (put_down front last c.args.p (omega (arith, n)))
