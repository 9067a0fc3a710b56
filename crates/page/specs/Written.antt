-- An output after words were written into it. Assumes nothing.
use Rattle.std.specs.Prelude.{ℕ, ◌*◌, List, ◌++◌, length, drop}
use Rattle.records.specs.Bytes.{flat}
use Rattle.records.specs.Sizes.{word_record_size}
use Rattle.records.specs.WordRecord.{word_record}

-- a record for each word, one behind the other; what stands behind them is left as it was
abbrev pub written : List (List ℕ) → List ℕ → List ℕ
written ws out = flat word_record ws ++ drop (word_record_size * length ws) out
