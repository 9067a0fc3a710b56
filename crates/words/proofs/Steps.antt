-- A step changes each place by itself: place i of the state reached is the next place in journal i. Assumes nothing.
use Prim.Native.Nat.{ℕ, zero, suc, ◌<◌}
use native.Mathlib.Omega.{arith}
use mathlib.Core.Path.{◌≡◌, refl, ap}
use mathlib.Core.List.{List, [], ◌∷◌}
use lib.ListN.{length, get_or}
use Rattle.words.specs.Places.{next, step}

-- place i of the state that a step reaches
pub step_at : (js : List (List ℕ)) (ps : List ℕ) (s i : ℕ) → i < length js → length ps ≡ length js
    → get_or (step js ps s) i 0 ≡ next (get_or js i []) (get_or ps i 0) s
step_at [] ps s i b e = absurd (omega arith)
step_at (j ∷ js) [] s i b e = absurd (omega arith)
step_at (j ∷ js) (p ∷ ps) s zero b e = refl
step_at (j ∷ js) (p ∷ ps) s (suc i) b e = step_at js ps s i (omega arith) (omega arith)

-- a step keeps a place for each journal
pub step_length : (js : List (List ℕ)) (ps : List ℕ) (s : ℕ) → length ps ≡ length js → length (step js ps s) ≡ length js
step_length [] ps s e = refl
step_length (j ∷ js) [] s e = absurd (omega arith)
step_length (j ∷ js) (p ∷ ps) s e = ap suc (step_length js ps s (omega arith))
