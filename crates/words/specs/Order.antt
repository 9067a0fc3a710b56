-- One order for rows and for words. Assumes nothing.
use Rattle.std.specs.Prelude.{ℕ, ◌≡◌, Bool, true, false, cond, ltb}
use mathlib.Core.List.{List, [], ◌∷◌, Memᴰ}

-- Of states: compared as unsigned numbers from the first place on, so that lost is the greatest.
-- Of words this is dictionary order: a beginning comes before what extends it, and where two words first differ the lower step decides.
abbrev pub before : List ℕ → List ℕ → Bool
before [] [] = false
before [] (y ∷ b) = true
before (x ∷ a) [] = false
before (x ∷ a) (y ∷ b) = cond (ltb x y) true (cond (ltb y x) false (before a b))

-- Each stands before all that follow it, so none stands there twice.
abbrev pub Ascending : List (List ℕ) → Type 0
Ascending [] = Unit {0}
Ascending (a ∷ l) = ((b : List ℕ) → Memᴰ b l → before a b ≡ true) × Ascending l
