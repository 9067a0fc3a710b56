-- What opening and appending do to the journals. Assumes nothing.
use Rattle.std.specs.Prelude.{ℕ, zero, suc, ◌-◌, List, [], ◌∷◌, ◌++◌, length, get_or}

-- After opening, a new empty journal comes last.
unfoldable pub opened : List (List ℕ) → List (List ℕ)
opened js = js ++ ([] ∷ [])

-- one step at the end of journal i
abbrev pub appended_at : ℕ → ℕ → List (List ℕ) → List (List ℕ)
appended_at i s [] = []
appended_at zero s (j ∷ js) = (j ++ (s ∷ [])) ∷ js
appended_at (suc i) s (j ∷ js) = j ∷ appended_at i s js

-- the number of the last journal
abbrev pub last_of : List (List ℕ) → ℕ
last_of js = length js - 1

-- how many steps journal i has
abbrev pub steps_at : ℕ → List (List ℕ) → ℕ
steps_at i js = length (get_or js i [])

-- Appending makes the last journal one step longer.
unfoldable pub appended : ℕ → List (List ℕ) → List (List ℕ)
appended s js = appended_at (last_of js) s js
