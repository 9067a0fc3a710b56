-- One place read in the table of next places, a row of places stepped, and a stepped row put among the keys. Assumes nothing.
use Rattle.std.specs.Prelude.{ℕ, zero, suc, ◌+◌, ◌*◌, cond, List, [], ◌∷◌, ◌++◌, get_or, take, ltb}
use Rattle.words.specs.Limits.{step_codes, longest_journal, lost}
use Rattle.words.specs.Places.{live}
use Rattle.words.specs.Picture.{insert}
use Rattle.records.specs.RowBook.{place_bytes}
use Rattle.states.specs.Nexts.{nexts_of_one}
use Rattle.states.specs.declared.nexts.Nexts.{Nexts}

-- the place that the step s leads to from the place p in journal i; from a place that no journal has, lost
unfoldable pub next_at : List ℕ → ℕ → ℕ → ℕ → ℕ
next_at entries i p s = cond (ltb longest_journal p) lost (get_or entries (nexts_of_one * i + (step_codes * p + s)) 0)

-- the first k places, each stepped
unfoldable pub stepped_places : List ℕ → List ℕ → ℕ → ℕ → List ℕ
stepped_places entries ps s zero = []
stepped_places entries ps s (suc k) = stepped_places entries ps s k ++ (next_at entries k (get_or ps k 0) s ∷ [])

-- the key of the stepped places of k journals
unfoldable pub key_of_stepped : List ℕ → ℕ → List ℕ → ℕ → List ℕ
key_of_stepped entries k key s = place_bytes (stepped_places entries key s k)

-- a key stepped
abbrev pub stepped_key : Nexts → List ℕ → ℕ → List ℕ
stepped_key nexts key s = key_of_stepped nexts.entries nexts.k key s

-- the keys with a further one at its place, if a place of it in an open journal isn't lost
unfoldable pub with_key : ℕ → List ℕ → List (List ℕ) → List (List ℕ)
with_key k key keys = cond (live (take k key)) (insert key keys) keys
