-- Books are sound exactly when they are the books of some journals, and those are the journals of the journal book. Assumes nothing.
use Prim.Native.Nat.{ℕ}
use native.Mathlib.Omega.{arith}
use mathlib.Core.Path.{◌≡◌, refl, ap, ◌∙◌}
use mathlib.Core.Logic.{◌↔◌}
use mathlib.Core.Bool.{true, ◌&&◌}
use mathlib.Core.List.{List, []}
use lib.ListN.{length, replicate}
use lib.Dec.{leb}
use borrow.Author.Tests.{leb-true, le-leb, eq-eqb}
use Rattle.records.specs.Bytes.{same}
use Rattle.records.specs.JournalBook.{journal_form, journals_of, journal_book}
use Rattle.records.specs.RowBook.{row_book}
use Rattle.records.specs.Sound.{right_sizes, sound, BooksOf}
use Rattle.words.specs.Picture.{picture}
use Rattle.records.proofs.Form.{journals_back, book_form, book_length, form_book}
use Rattle.records.proofs.RowBytes.{length_book}
use Rattle.records.proofs.Tests.{both, same_eq, same_self}
use Rattle.words.proofs.Place.{short}

-- sound books are the books of the journals that they hold
pub sound_books : (jb rb : List ℕ) → sound jb rb ≡ true → BooksOf (journals_of jb) jb rb
unfolding sound
sound_books jb rb t =
    let p = both (journal_form jb) (leb (length (picture (journals_of jb))) 1000 && same rb (row_book (journals_of jb))) t in
    let q = both (leb (length (picture (journals_of jb))) 1000) (same rb (row_book (journals_of jb))) p.1 in
    let f = form_book jb p.0 in
    record {
      journals = f.0;
      fits = leb-true (length (picture (journals_of jb))) 1000 q.0;
      journal_book_is = f.1;
      row_book_is = same_eq rb (row_book (journals_of jb)) q.1;
    }

module _ {js : List (List ℕ)} {jb rb : List ℕ} (b : BooksOf js jb rb) where
  -- the journals of the book
  pub books_journals : journals_of jb ≡ js
  books_journals = ap journals_of b.journal_book_is ∙ journals_back js b.journals

  -- books of journals are sound
  pub books_sound : sound jb rb ≡ true
  unfolding sound
  books_sound =
      rw (books_journals, b.journal_book_is, b.row_book_is, book_form js b.journals, le-leb (length (picture js)) 1000 b.fits, same_self (row_book js))

  -- and have their sizes
  pub books_sizes : right_sizes jb rb ≡ true
  books_sizes =
      rw (b.journal_book_is, b.row_book_is, eq-eqb (length (journal_book js)) 4096 (book_length js b.journals), eq-eqb (length (row_book js)) 64000 (length_book js (short js b.journals.each) b.journals.few b.fits))

-- sound, as a test and as a relation
pub sound_means : (jb rb : List ℕ) → (sound jb rb ≡ true) ↔ ((js : List (List ℕ)) × BooksOf js jb rb)
sound_means jb rb = (λ t. (journals_of jb, sound_books jb rb t), λ b. books_sound b.1)

-- cleared books are sound with no journal
pub cleared_books : BooksOf [] (replicate 4096 0) (replicate 64000 0)
unfolding journal_book row_book picture
cleared_books = record { journals = record { few = omega arith; each = tt }; fits = omega arith; journal_book_is = refl; row_book_is = refl }
