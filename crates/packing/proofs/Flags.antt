-- A yes or no in a number is at most 1. Assumes nothing.
use Prim.Native.Nat.{ℕ, ◌≤◌}
use native.Mathlib.Omega.{arith}
use mathlib.Core.Path.{◌≡◌}
use mathlib.Core.Bool.{Bool, true, false}
use Rattle.packing.specs.Packed.{flagged}

pub flag_small : (b : Bool) {f : ℕ} → f ≡ flagged b → f ≤ 1
flag_small true e = omega (arith, e)
flag_small false e = omega (arith, e)
