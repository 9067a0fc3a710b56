-- Laid rows get their arcs, from the last row to the first: row i is read, its places are its key, and the record made of them takes its place.
-- Assumes nothing.
use Prim.Native.Nat.{ℕ, ◌+◌, ◌*◌, ◌<◌}
use mathlib.Core.Path.{◌≡◌, ap, ◌∙◌}
use mathlib.Core.List.{List, [], ◌++◌}
use lib.ListN.{length, take, drop, get_or}
use Rattle.records.specs.RowBook.{record_of_row, count_byte, behind_count, unused}
use Rattle.records.proofs.Replaced.{replaced, replaced_on}
use Rattle.states.specs.declared.nexts.Nexts.{Nexts}
use Rattle.picture.specs.KeyRow.{key_arcs, key_row}
use Rattle.picture.specs.Laid.{laid}
use Rattle.picture.proofs.Laid.{Sixteen, laid_wide, laid_places}

module _ (nexts : Nexts) (keys : List (List ℕ)) where
  -- the first i rows are laid, the others have their arcs
  abbrev pub linked : ℕ → List ℕ
  linked i = replaced laid (key_row nexts keys) keys (unused (length keys)) i

  module _ (sixteen : Sixteen keys) (i : ℕ) (b : i < length keys) where
    -- row i, read from the book, is written with its arcs
    pub links : (rows read places arcs : List ℕ) (count : ℕ) → rows ≡ linked (i + 1) → read ≡ take 16 (drop (64 * i) rows)
        → places ≡ read → arcs ≡ key_arcs nexts keys read → count ≡ count_byte (take nexts.k read)
        → take (64 * i) rows ++ (record_of_row places arcs count behind_count ++ drop (64 * i + 64) rows) ≡ linked i
    links rows read places arcs count e r p a c =
        let key : read ≡ get_or keys i [] = r ∙ ap (λ (x : List ℕ). take 16 (drop (64 * i) x)) e ∙ laid_places keys sixteen (unused (length keys)) i b (key_row nexts keys) in
        rw (p, a, c, key, e) (replaced_on laid (key_row nexts keys) keys (unused (length keys)) 64 (laid_wide keys sixteen) i b)
