-- The picture of the journals: every live state once, in ascending order, and the arcs between them. Assumes nothing.
use Rattle.std.specs.Prelude.{ℕ, zero, suc, max, ◌↔◌, cond, length}
use mathlib.Core.List.{List, [], ◌∷◌, map, Memᴰ}
use Rattle.words.specs.Limits.{step_codes}
use Rattle.words.specs.Places.{state, step, live, LiveState}
use Rattle.words.specs.Order.{before, Ascending}

-- the n numbers from i on
abbrev pub codes : ℕ → ℕ → List ℕ
codes i zero = []
codes i (suc n) = i ∷ codes (suc i) n

-- the step codes
abbrev pub steps : List ℕ
steps = codes 0 step_codes

-- the rows l with a at its place, no state twice
abbrev pub insert : List ℕ → List (List ℕ) → List (List ℕ)
insert a [] = a ∷ []
insert a (b ∷ l) = cond (before a b) (a ∷ b ∷ l) (cond (before b a) (b ∷ insert a l) (b ∷ l))

-- the rows l with a at its place, if a is live
abbrev pub keep : List ℕ → List (List ℕ) → List (List ℕ)
keep a l = cond (live a) (insert a l) l

-- the rows l and the live states that the steps ss reach from a
abbrev pub spread : List (List ℕ) → List ℕ → List ℕ → List (List ℕ) → List (List ℕ)
spread js a [] l = l
spread js a (s ∷ ss) l = keep (step js a s) (spread js a ss l)

-- the rows l and the live states that one step reaches from the rows m
abbrev pub grow : List (List ℕ) → List (List ℕ) → List (List ℕ) → List (List ℕ)
grow js [] l = l
grow js (a ∷ m) l = spread js a steps (grow js m l)

-- the live states of the words of at most n steps
abbrev pub reach : List (List ℕ) → ℕ → List (List ℕ)
reach js zero = keep (state js []) []
reach js (suc n) = let l = reach js n in grow js l l

abbrev pub longest : List (List ℕ) → ℕ
longest [] = zero
longest (j ∷ js) = max (length j) (longest js)

-- The picture: each live state has one row, and the rows ascend.
-- A word that is longer than every journal is live nowhere.
unfoldable pub picture : List (List ℕ) → List (List ℕ)
picture js = reach js (longest js)

-- The same as a relation: a row for every live state and for nothing else, ascending.
pub record IsPicture (js rows : List (List ℕ)) : Type 0 where
  pub live_states : (a : List ℕ) → Memᴰ a rows ↔ LiveState js a
  pub ascending : Ascending rows

-- the row number of a among the rows, counted from i, and 0 if a isn't there
abbrev pub row_of : List ℕ → ℕ → List (List ℕ) → ℕ
row_of a i [] = zero
row_of a i (b ∷ l) = cond (before a b) zero (cond (before b a) (row_of a (suc i) l) i)

-- A row's arc under step s: the number of the row that s leads to, or 0 where what it leads to isn't live.
abbrev pub arc : List (List ℕ) → List (List ℕ) → List ℕ → ℕ → ℕ
arc js rows a s = cond (live (step js a s)) (row_of (step js a s) 0 rows) 0

-- its arcs by step
abbrev pub arcs : List (List ℕ) → List (List ℕ) → List ℕ → List ℕ
arcs js rows a = map (arc js rows a) steps
