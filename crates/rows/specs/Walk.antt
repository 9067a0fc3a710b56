-- A walk along the arcs of a row book, whatever its content, and where it ends. Assumes nothing.
use Rattle.std.specs.Prelude.{ℕ, Bool, cond, ◌||◌, List, [], ◌∷◌, eqb, ltb, leb, Option, Some, None, Result, Ok, Err}
use Rattle.words.specs.Limits.{most_journals}
use Rattle.records.specs.Sizes.{most_rows}
use Rattle.records.specs.RowBook.{count_at, arc_at}
use Rattle.rows.specs.declared.walk.Damaged.{Damaged}

-- Where a walk ends: in a row, in no row, or in damage.
abbrev pub Walked : Type 0
Walked = Result (Option ℕ) Damaged

abbrev pub damage : Walked
damage = Err (record {})

-- An arc can't be right if it doesn't rise, leads to no row, or ends at a count byte that no live row has.
abbrev pub bad_arc : List ℕ → ℕ → ℕ → Bool
bad_arc b r t = leb t r || (leb most_rows t || (eqb (count_at b t) 0 || ltb most_journals (count_at b t)))

-- An arc t of row r is followed: 0 leads nowhere, a wrong one is damage.
unfoldable pub along : List ℕ → ℕ → ℕ → Walked → Walked
along b r t rest = cond (eqb t 0) (Ok None) (cond (bad_arc b r t) damage rest)

-- For each step the arc is read.
unfoldable pub walk_from : List ℕ → ℕ → List ℕ → Walked
walk_from b r [] = Ok (Some r)
walk_from b r (s ∷ w) = along b r (arc_at b r s) (walk_from b (arc_at b r s) w)

-- The walk begins in row 0, whose count byte says whether there are journals at all, and is damage above 16.
unfoldable pub walk : List ℕ → List ℕ → Walked
walk b w = cond (ltb most_journals (count_at b 0)) damage (cond (eqb (count_at b 0) 0) (Ok None) (walk_from b 0 w))
