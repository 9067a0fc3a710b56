-- The check by its cases: the sizes, book 1, and book 2 if its picture fits. Assumes nothing.
use Prim.Native.Nat.{ℕ, ◌/◌, ◌%◌, ◌≤◌, ◌<◌}
use mathlib.Core.Path.{◌≡◌}
use mathlib.Core.Bool.{true, false}
use mathlib.Core.List.{List}
use lib.ListN.{length}
use borrow.Author.Tests.{lt-ltb, le-ltb}
use Rattle.words.specs.Picture.{picture}
use Rattle.records.specs.Bytes.{same, differ}
use Rattle.records.specs.JournalBook.{journal_form, journals_of, first_wrong_record}
use Rattle.records.specs.RowBook.{row_book}
use Rattle.records.specs.Sound.{right_sizes}
use Rattle.books.specs.Check.{checked, compared, check_rows, check_call}

module _ (jb rb : List ℕ) where
  pub check_size : right_sizes jb rb ≡ false → check_call jb rb ≡ checked 1 0 0 0
  unfolding check_call
  check_size w = rw w

  pub check_book_one : right_sizes jb rb ≡ true → journal_form jb ≡ false → check_call jb rb ≡ checked 2 1 (first_wrong_record jb) 0
  unfolding check_call
  check_book_one w f = rw (w, f)

  pub check_formed : right_sizes jb rb ≡ true → journal_form jb ≡ true → check_call jb rb ≡ check_rows (journals_of jb) rb
  unfolding check_call
  check_formed w f = rw (w, f)

module _ (js : List (List ℕ)) (rb : List ℕ) where
  pub rows_many : 1000 < length (picture js) → check_rows js rb ≡ checked 2 2 1000 0
  unfolding check_rows
  rows_many m = rw (lt-ltb 1000 (length (picture js)) m)

  pub rows_compared : length (picture js) ≤ 1000 → check_rows js rb ≡ compared rb (row_book js)
  unfolding check_rows
  rows_compared m = rw (le-ltb 1000 (length (picture js)) m)

module _ (rb picture : List ℕ) where
  pub compared_right : same rb picture ≡ true → compared rb picture ≡ checked 0 0 0 0
  unfolding compared
  compared_right s = rw s

  pub compared_wrong : same rb picture ≡ false → compared rb picture ≡ checked 2 2 (differ rb picture / 64) (differ rb picture % 64)
  unfolding compared
  compared_wrong s = rw s
