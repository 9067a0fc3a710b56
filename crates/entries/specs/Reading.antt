-- What stands in the bytes read: at a position, and from there on. Assumes nothing.
use Rattle.std.specs.Prelude.{ℕ, ◌+◌, ◌-◌, cond, List, [], ◌∷◌, length, get_or, drop, eqb, leb, Result, Ok, Err}
use Rattle.entries.specs.declared.read.Read.{Read}
use Rattle.entries.specs.declared.read.Read.TheVariants.{Entry, Lone, End}
use Rattle.entries.specs.declared.reader.LoneByte.{LoneByte}
use Rattle.entries.specs.declared.reader.Reader.{Reader}

-- nothing behind the last byte, a lone last byte, or an entry of two bytes with the position behind it
unfoldable pub read_at : List ℕ → ℕ → Read
read_at b at = cond (leb (length b) at) End (cond (eqb (length b - at) 1) Lone (Entry (get_or b at 0) (get_or b (at + 1) 0) (at + 2)))

-- nothing behind the last byte, a lone last byte, or the two bytes of an entry and what stands behind them
abbrev pub entries_in : List ℕ → List (Result (ℕ × ℕ) LoneByte)
entries_in [] = []
entries_in (n ∷ []) = Err (record {}) ∷ []
entries_in (n ∷ s ∷ rest) = Ok (n, s) ∷ entries_in rest

-- what stands from a position of the bytes on
unfoldable pub entries_from : List ℕ → ℕ → List (Result (ℕ × ℕ) LoneByte)
entries_from b at = entries_in (drop at b)

-- what a reader has left to give
abbrev pub entries_left : Reader → List (Result (ℕ × ℕ) LoneByte)
entries_left r = entries_from r.bytes.now r.at
