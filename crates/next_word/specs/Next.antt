-- How a word moves to its next word. A word that may be missing is a list of at most one. Assumes nothing.
use Rattle.std.specs.Prelude.{ℕ, suc, cond, List, [], ◌∷◌, ltb}
use Rattle.words.specs.Order.{before}
use Rattle.books.specs.TableCount.{table_count_call}

-- the step s before what its rest moves to; if that can't move, s is raised, if it can be, and the rest dropped
abbrev pub onto : ℕ → List (List ℕ) → List (List ℕ)
onto s [] = cond (ltb s 15) ((suc s ∷ []) ∷ []) []
onto s (v ∷ vs) = (s ∷ v) ∷ []

-- the first word after w that is no extension of it: its last step that can be raised is raised, and what stands behind it dropped
unfoldable pub climbed : List ℕ → List (List ℕ)
climbed [] = []
climbed (s ∷ w) = onto s (climbed w)

-- the words of a list from the word c on
abbrev pub from_on : List ℕ → List (List ℕ) → List (List ℕ)
from_on c [] = []
from_on c (x ∷ l) = let rest = from_on c l in cond (before x c) rest (x ∷ rest)

-- the words of a list from the given word on, if there is one
abbrev pub from_there : List (List ℕ) → List (List ℕ) → List (List ℕ)
from_there [] l = []
from_there (w ∷ ws) l = from_on w l

-- a word's count as a row book's table count answers it
unfoldable pub table_of : List ℕ → List ℕ → ℕ
table_of rb w = (table_count_call rb w).count
