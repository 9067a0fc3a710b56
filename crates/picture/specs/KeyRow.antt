-- The row of a key: its arcs, and its record; and the rows of all keys. Assumes nothing.
use Rattle.std.specs.Prelude.{ℕ, cond, List, map, take}
use Rattle.words.specs.Places.{live}
use Rattle.words.specs.Picture.{steps}
use Rattle.records.specs.RowBook.{record_of_row, count_byte, behind_count, book_of}
use Rattle.keys.specs.Keys.{rank_of}
use Rattle.states.specs.Stepped.{stepped_key}
use Rattle.states.specs.declared.nexts.Nexts.{Nexts}

-- the arc of a key under step s: the rank of the key that it leads to, and 0 if that isn't live
unfoldable pub key_arc : Nexts → List (List ℕ) → List ℕ → ℕ → ℕ
key_arc nexts keys key s = cond (live (take nexts.k (stepped_key nexts key s))) (rank_of (stepped_key nexts key s) keys) 0

-- its arcs by step
unfoldable pub key_arcs : Nexts → List (List ℕ) → List ℕ → List ℕ
key_arcs nexts keys key = map (key_arc nexts keys key) steps

-- its record
abbrev pub key_row : Nexts → List (List ℕ) → List ℕ → List ℕ
key_row nexts keys key = record_of_row key (key_arcs nexts keys key) (count_byte (take nexts.k key)) behind_count

-- the book of all keys' records
abbrev pub key_book : Nexts → List (List ℕ) → List ℕ
key_book nexts keys = book_of (key_row nexts keys) keys
