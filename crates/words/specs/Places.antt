-- Places of words, and states. Assumes nothing.
use Rattle.std.specs.Prelude.{ℕ, zero, suc, ◌-◌, ◌≤◌, ◌<◌, ◌≡◌, Bool, true, false, cond, List, [], ◌∷◌, length, drop, get_or, eqb}
use Rattle.words.specs.Limits.{lost}
use Rattle.words.specs.Words.{IsWord}

-- the place of the first s in l, whose own first step has the place p + 1: places count from 1
abbrev pub find : ℕ → List ℕ → ℕ → ℕ
find s [] p = lost
find s (x ∷ l) p = cond (eqb x s) (suc p) (find s l (suc p))

-- The least place above p whose step is s; lost where no such place exists, and from lost itself.
abbrev pub next : List ℕ → ℕ → ℕ → ℕ
next j p s = cond (eqb p lost) lost (find s (drop p j) p)

-- The same as a relation: r is the least place above p whose step is s.
pub record Least (j : List ℕ) (p s r : ℕ) : Type 0 where
  pub above : p < r
  pub within : r ≤ length j
  pub found : get_or j (r - 1) 0 ≡ s
  pub least : (i : ℕ) → p < i → i < r → get_or j (i - 1) 0 ≡ s → ⊥

-- the place that the steps of w lead to, one after the other, from the place p
abbrev pub place_from : List ℕ → ℕ → List ℕ → ℕ
place_from j p [] = p
place_from j p (s ∷ w) = place_from j (next j p s) w

-- A word's place: its steps lead there from place 0, where the empty word stays.
abbrev pub place : List ℕ → List ℕ → ℕ
place j w = place_from j 0 w

-- A word's state: its places in all journals, as a row.
abbrev pub state : List (List ℕ) → List ℕ → List ℕ
state [] w = []
state (j ∷ js) w = place j w ∷ state js w

-- the state reached by the step s
abbrev pub step : List (List ℕ) → List ℕ → ℕ → List ℕ
step [] ps s = []
step (j ∷ js) [] s = []
step (j ∷ js) (p ∷ ps) s = next j p s ∷ step js ps s

-- A state is live while some place of it isn't lost; that of no journals never is.
abbrev pub live : List ℕ → Bool
live [] = false
live (p ∷ ps) = cond (eqb p lost) (live ps) true

-- a is a live state of the journals
abbrev pub LiveState : List (List ℕ) → List ℕ → Type 0
LiveState js a = (live a ≡ true) × ((w : List ℕ) × IsWord w × (a ≡ state js w))

-- how many places aren't lost: what a row's count says
abbrev pub held : List ℕ → ℕ
held [] = zero
held (p ∷ ps) = cond (eqb p lost) (held ps) (suc (held ps))
