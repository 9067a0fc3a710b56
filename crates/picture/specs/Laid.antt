-- A row record that has its places, and nothing else yet. Assumes nothing.
use Rattle.std.specs.Prelude.{ℕ, List, replicate}
use Rattle.words.specs.Limits.{step_codes}
use Rattle.records.specs.RowBook.{record_of_row, behind_count}

-- the record of a key, with zeros for its arcs and its count
abbrev pub laid : List ℕ → List ℕ
laid key = record_of_row key (replicate step_codes 0) 0 behind_count
