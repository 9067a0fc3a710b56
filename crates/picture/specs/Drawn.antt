-- The picture drawn into a row book, if it fits. Assumes nothing.
use Rattle.std.specs.Prelude.{ℕ, cond, List, length, leb, Option, Some, None}
use Rattle.words.specs.Picture.{picture}
use Rattle.records.specs.Sizes.{most_rows}
use Rattle.records.specs.RowBook.{row_book}

-- how many live states the journals have; none stands for every number above 1,000
unfoldable pub rows_found : List (List ℕ) → Option ℕ
rows_found js = cond (leb (length (picture js)) most_rows) (Some (length (picture js))) None

-- the row book after it: the picture, or what it was if the picture doesn't fit
unfoldable pub drawn : List (List ℕ) → List ℕ → List ℕ
drawn js rb = cond (leb (length (picture js)) most_rows) (row_book js) rb
