-- What a function gives at the step codes, one after the other. Assumes nothing.
use Prim.Native.Nat.{ℕ, zero, suc, ◌+◌, ◌<◌}
use native.Mathlib.Omega.{arith}
use mathlib.Core.Path.{◌≡◌, ap, ◌∙◌}
use mathlib.Core.List.{map}
use lib.ListN.{get_or}
use Rattle.words.specs.Limits.{step_codes}
use Rattle.words.specs.Picture.{codes, steps}

module _ (f : ℕ → ℕ) where
  at_codes : (i n k : ℕ) → k < n → get_or (map f (codes i n)) k 0 ≡ f (i + k)
  at_codes i zero k h = absurd (omega arith)
  at_codes i (suc n) zero h = ap f (omega arith)
  at_codes i (suc n) (suc k) h = at_codes (suc i) n k (omega arith) ∙ ap f (omega arith)

  -- behind s others stands what it gives at step s
  pub at_step : (s : ℕ) → s < step_codes → get_or (map f steps) s 0 ≡ f s
  at_step s h = at_codes 0 step_codes s h ∙ ap f (omega arith)
