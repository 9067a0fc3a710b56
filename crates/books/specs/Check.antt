-- Check: what it answers. Assumes nothing.
use Rattle.std.specs.Prelude.{ℕ, ◌+◌, ◌*◌, ◌/◌, ◌%◌, ◌≤◌, ◌<◌, ◌≡◌, true, false, cond, not, List, length, ltb}
use Rattle.words.specs.Picture.{picture}
use Rattle.records.specs.Sizes.{row_record_size, most_rows}
use Rattle.books.specs.Numbers.{done, wrong_size, damaged}
use Rattle.records.specs.Bytes.{same, differ, First}
use Rattle.records.specs.JournalBook.{journal_form, journals_of, first_wrong_record, FirstWrong}
use Rattle.records.specs.RowBook.{row_book}
use Rattle.records.specs.Sound.{right_sizes, sound}

-- what the check answers: a number, and where the books are wrong: the book, the record in it and the byte in that
pub record Checked : Type 0 where
  pub number : ℕ
  pub book : ℕ
  pub at : ℕ
  pub byte : ℕ

abbrev pub checked : ℕ → ℕ → ℕ → ℕ → Checked
checked n k r b = record { number = n; book = k; at = r; byte = b }

-- a row book beside the picture: alike, or the row and the byte of their first difference
unfoldable pub compared : List ℕ → List ℕ → Checked
compared rb picture =
    let d : ℕ = differ rb picture in
    cond (same rb picture) (checked done 0 0 0) (checked damaged 2 (d / row_record_size) (d % row_record_size))

-- Journals with too many live states have no picture: the fault is then one record behind the last row.
unfoldable pub check_rows : List (List ℕ) → List ℕ → Checked
check_rows js rb = cond (ltb most_rows (length (picture js))) (checked damaged 2 most_rows 0) (compared rb (row_book js))

-- Check: the sizes come first, then the journal book's form, and only where that holds the row book.
unfoldable pub check_call : List ℕ → List ℕ → Checked
check_call jb rb =
    cond (not (right_sizes jb rb)) (checked wrong_size 0 0 0)
    (cond (not (journal_form jb)) (checked damaged 1 (first_wrong_record jb) 0) (check_rows (journals_of jb) rb))

-- The same as a relation: where document 01 says that the books are wrong.
pub data Verdict (jb rb : List ℕ) : Checked → Type 0 where
  wrong_sizes : right_sizes jb rb ≡ false → Verdict jb rb (checked wrong_size 0 0 0)
  -- the journal book's first wrong record
  book_one : {r : ℕ} → right_sizes jb rb ≡ true → FirstWrong jb r → Verdict jb rb (checked damaged 1 r 0)
  -- more than 1,000 live states
  too_many : right_sizes jb rb ≡ true → journal_form jb ≡ true → most_rows < length (picture (journals_of jb)) → Verdict jb rb (checked damaged 2 most_rows 0)
  -- where the row book first differs from what is drawn
  book_two : {r i : ℕ} → right_sizes jb rb ≡ true → journal_form jb ≡ true → length (picture (journals_of jb)) ≤ most_rows
      → i < row_record_size → First rb (row_book (journals_of jb)) (row_record_size * r + i) → Verdict jb rb (checked damaged 2 r i)
  all_right : sound jb rb ≡ true → Verdict jb rb (checked done 0 0 0)
