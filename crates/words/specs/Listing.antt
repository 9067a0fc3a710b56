-- The list by quorum and length, over any count. Assumes nothing.
use Rattle.std.specs.Prelude.{ℕ, zero, suc, ◌≤◌, cond, List, [], ◌∷◌, ◌++◌, length, leb}
use Rattle.words.specs.Words.{IsWord}
use Rattle.words.specs.Picture.{steps}
use Rattle.words.specs.Order.{before}

-- what f gives at each of the steps ss, one after the other
abbrev pub over : (ℕ → List (List ℕ)) → List ℕ → List (List ℕ)
over f [] = []
over f (s ∷ ss) = f s ++ over f ss

-- w, if its count reaches the quorum q, and behind it its extensions by at most n steps whose count reaches it
abbrev pub list_from : (List ℕ → ℕ) → ℕ → ℕ → List ℕ → List (List ℕ)
list_from count q zero w = cond (leb q (count w)) (w ∷ []) []
list_from count q (suc n) w = let rest = over (λ s. list_from count q n (w ++ (s ∷ []))) steps in cond (leb q (count w)) (w ∷ rest) []

-- The list: every word of at most n steps whose count reaches the quorum q, each once, in dictionary order.
unfoldable pub list_of : (List ℕ → ℕ) → ℕ → ℕ → List (List ℕ)
list_of count q n = list_from count q n []

-- w belongs in the list
pub record Shared (count : List ℕ → ℕ) (q n : ℕ) (w : List ℕ) : Type 0 where
  pub word : IsWord w
  pub short : length w ≤ n
  pub reaches : q ≤ count w

-- a count that never rises along an extension
abbrev pub Falling : (List ℕ → ℕ) → Type 0
Falling count = (w v : List ℕ) → count (w ++ v) ≤ count w

-- the words of a list that stand after w, which need not be in the list itself
abbrev pub past : List ℕ → List (List ℕ) → List (List ℕ)
past w [] = []
past w (x ∷ l) = cond (before w x) (x ∷ past w l) (past w l)
