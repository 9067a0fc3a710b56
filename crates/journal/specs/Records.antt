-- The sixteen records of a journal book. Assumes nothing.
use Rattle.std.specs.Prelude.{ℕ, List}
use Rattle.words.specs.Limits.{most_journals}
use Rattle.records.specs.Sizes.{journal_record_size}
use Rattle.records.specs.Bytes.{records}

-- the records of a book, one after the other
unfoldable pub records_of : List ℕ → List (List ℕ)
records_of b = records journal_record_size most_journals b
