-- The table of next places: for each journal, each place 0 to 200 in it and each step, the next place. Assumes nothing.
use Rattle.std.specs.Prelude.{ℕ, ◌+◌, ◌*◌, ◌/◌, ◌%◌, ◌<◌, ◌≡◌, cond, List, [], length, get_or, ltb, eqb}
use Rattle.words.specs.Limits.{step_codes, longest_journal, lost}
use Rattle.words.specs.Places.{next}

-- the entries of one journal: 201 places by 16 steps
abbrev pub nexts_of_one : ℕ
nexts_of_one = (longest_journal + 1) * step_codes

-- entry x of the journal j, by the entry one place further on
unfoldable pub next_entry : List ℕ → ℕ → ℕ → ℕ
next_entry j x further = cond (ltb (x / step_codes) (length j)) (cond (eqb (get_or j (x / step_codes) 0) (x % step_codes)) (x / step_codes + 1) further) lost

-- the entries say where each step leads to from each place of the journal j
abbrev pub NextsOf : List ℕ → List ℕ → Type 0
NextsOf j entries = (x : ℕ) → x < nexts_of_one → get_or entries x 0 ≡ next j (x / step_codes) (x % step_codes)

-- and so for each of the journals, one after the other
abbrev pub Tabled : List (List ℕ) → List ℕ → Type 0
Tabled js nexts = (i x : ℕ) → i < length js → x < nexts_of_one → get_or nexts (nexts_of_one * i + x) 0 ≡ next (get_or js i []) (x / step_codes) (x % step_codes)
