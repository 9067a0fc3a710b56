-- When books are sound. Assumes nothing.
use Rattle.std.specs.Prelude.{ℕ, ◌≤◌, ◌≡◌, Bool, ◌&&◌, List, length, eqb, leb}
use Rattle.words.specs.Words.{AreJournals}
use Rattle.words.specs.Picture.{picture}
use Rattle.records.specs.Sizes.{journal_book_size, row_book_size, most_rows}
use Rattle.records.specs.Bytes.{same}
use Rattle.records.specs.JournalBook.{journal_form, journals_of, journal_book}
use Rattle.records.specs.RowBook.{row_book}

-- both books have their sizes
abbrev pub right_sizes : List ℕ → List ℕ → Bool
right_sizes jb rb = eqb (length jb) journal_book_size && eqb (length rb) row_book_size

-- Books are sound when the one has its form and the other is the picture of its journals, for which there is room.
unfoldable pub sound : List ℕ → List ℕ → Bool
sound jb rb = journal_form jb && (leb (length (picture (journals_of jb))) most_rows && same rb (row_book (journals_of jb)))

-- The same as a relation: these are the books of the journals js.
pub record BooksOf (js : List (List ℕ)) (jb rb : List ℕ) : Type 0 where
  pub journals : AreJournals js
  pub fits : length (picture js) ≤ most_rows
  pub journal_book_is : jb ≡ journal_book js
  pub row_book_is : rb ≡ row_book js
