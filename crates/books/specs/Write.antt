-- New journals written into both books, as each call that changes the journals leaves them. Assumes nothing.
use Rattle.std.specs.Prelude.{ℕ, List, [], ◌∷◌, length, ltb}
use Rattle.words.specs.Picture.{picture}
use Rattle.records.specs.Sizes.{most_rows}
use Rattle.records.specs.JournalBook.{journal_book}
use Rattle.records.specs.RowBook.{row_book}
use Rattle.books.specs.Numbers.{Refusal, first, rows_full}
use Rattle.books.specs.Clear.{After, leaves}

-- done: both books are those of the new journals; refused: both stay
abbrev pub written : ℕ → List (List ℕ) → List ℕ → List ℕ → After
written n js jb rb = leaves n (journal_book js) (row_book js) jb rb

-- number 6, by the live states that the new journals would have
abbrev pub rows_refusal : List (List ℕ) → Refusal
rows_refusal js = record { holds = ltb most_rows (length (picture js)); number = rows_full }

-- the writer: 6, or 0 with the new books
unfoldable pub write_call : List (List ℕ) → List ℕ → List ℕ → After
write_call js jb rb = written (first (rows_refusal js ∷ [])) js jb rb
