-- The worked books of document 01 are the books of their two journals, and are drawn anew beside any other row book. Assumes nothing.
use Prim.Native.Nat.{ℕ}
use native.Mathlib.Omega.{arith}
use mathlib.Core.Path.{◌≡◌, refl}
use mathlib.Core.List.{List}
use lib.ListN.{replicate}
use Rattle.words.specs.Picture.{picture}
use Rattle.words.proofs.Worked.{two}
use Rattle.records.specs.JournalBook.{first_wrong_record, journal_form, journals_of, journal_record, journal_book}
use Rattle.records.specs.RowBook.{row_book}
use Rattle.records.specs.Sizes.{row_book_size}
use Rattle.records.specs.Sound.{BooksOf}
use Rattle.records.specs.StepBytes.{step_bytes}
use Rattle.books.specs.Clear.{after}
use Rattle.books.specs.Numbers.{done}
use Rattle.books.specs.Rebuild.{rebuild_call}

pub worked_books : BooksOf two (journal_book two) (row_book two)
unfolding picture
worked_books =
    record {
      journals = record {
        few = omega arith;
        each = ((omega arith, (omega arith, (omega arith, (omega arith, tt)))), ((omega arith, (omega arith, (omega arith, (omega arith, tt)))), tt));
      };
      fits = omega arith;
      journal_book_is = refl;
      row_book_is = refl;
    }

-- a row book that is no picture
abbrev pub spoilt : List ℕ
spoilt = replicate row_book_size 7

-- rebuild, worked: beside it the two journals get their rows
pub rebuild_worked : rebuild_call (journal_book two) spoilt ≡ after done (journal_book two) (row_book two)
unfolding rebuild_call journal_form first_wrong_record journals_of journal_book journal_record step_bytes picture
rebuild_worked = refl
