-- The text of a page of word records. Assumes nothing.
use Rattle.std.specs.Prelude.{ℕ, zero, suc, List, [], ◌++◌, map}
use Rattle.records.specs.Bytes.{records}
use Rattle.records.specs.Sizes.{word_record_size}
use Rattle.records.specs.WordRecord.{word_of}
use Rattle.list.specs.ListCall.{Asked}
use Rattle.next_word.specs.Next.{table_of}
use Rattle.list.specs.Parts.{part}
use Rattle.load.specs.Program.{word_lines}

-- the lines of the first n words of a page, each with the count that the table of a row book answers
unfoldable pub page_lines : List ℕ → ℕ → List ℕ → List ℕ
page_lines rb n page = word_lines (table_of rb) (map word_of (records word_record_size n page))

-- the texts of the first i pages of a list that is fetched in parts, joined
abbrev pub pages_text : Asked → (ℕ → List ℕ) → ℕ → List ℕ
pages_text a outs zero = []
pages_text a outs (suc i) = pages_text a outs i ++ page_lines a.rows (part a outs i).answer.written (part a outs i).out
