-- When a record of the list's output is written. Assumes nothing.
use Rattle.std.specs.Prelude.{ℕ, ◌*◌, ◌<◌, ◌≡◌, List, [], length, take, drop, get_or}
use Rattle.records.specs.Sizes.{word_record_size}
use Rattle.records.specs.WordRecord.{word_record}
use Rattle.list.specs.ListCall.{Asked, due}

-- Record i of the output is the record of word i of what is due: there is such a word, and these are its 16 bytes.
pub record WrittenAt (a : Asked) (out : List ℕ) (i : ℕ) : Type 0 where
  pub is_due : i < length (due a)
  pub bytes : take word_record_size (drop (word_record_size * i) out) ≡ word_record (get_or (due a) i [])
