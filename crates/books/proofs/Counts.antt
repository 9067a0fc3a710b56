-- Both counts are the number of journals from which the word is left when some steps, or none, are struck out. Assumes nothing.
use Prim.Native.Nat.{ℕ}
use mathlib.Core.Path.{◌≡◌, ap, ◌∙◌}
use mathlib.Core.Bool.{true}
use mathlib.Core.List.{List}
use lib.ListN.{length}
use borrow.Author.Tests.{eq-eqb}
use Rattle.books.specs.JournalCount.{journal_count_call}
use Rattle.books.specs.TableCount.{counted, table_count_call}
use Rattle.records.specs.JournalBook.{journal_book}
use Rattle.records.specs.Sound.{BooksOf}
use Rattle.records.specs.WordRecord.{word_form, word_of}
use Rattle.words.specs.Words.{IsWord, AreJournals, count, Counts}
use Rattle.books.proofs.TableCounts.{table_counts}
use Rattle.records.proofs.Form.{journals_back, book_form, book_length}
use Rattle.words.proofs.Place.{count_counts}

-- the journal count of a word record of right form, from a journal book of right form
pub journal_counts : (js : List (List ℕ)) → AreJournals js → (r : List ℕ) → length r ≡ 16 → word_form r ≡ true
    → journal_count_call (journal_book js) r ≡ counted 0 (count js (word_of r))
unfolding journal_count_call
journal_counts js k r l f =
    rw (eq-eqb (length (journal_book js)) 4096 (book_length js k), eq-eqb (length r) 16 l, f, book_form js k, journals_back js k)

module _ {js : List (List ℕ)} {jb rb : List ℕ} (b : BooksOf js jb rb) where
  -- on sound books the table count is the number of journals that the word is in
  pub table_count_right : (w : List ℕ) → IsWord w → (table_count_call rb w ≡ counted 0 (count js w)) × Counts w js (count js w)
  table_count_right w k = (ap (λ (r : List ℕ). table_count_call r w) b.row_book_is ∙ table_counts js b.journals b.fits w k, count_counts js w)

  -- and so is the journal count
  pub journal_count_right : (r : List ℕ) → length r ≡ 16 → word_form r ≡ true
      → (journal_count_call jb r ≡ counted 0 (count js (word_of r))) × Counts (word_of r) js (count js (word_of r))
  journal_count_right r l f =
      (ap (λ (j : List ℕ). journal_count_call j r) b.journal_book_is ∙ journal_counts js b.journals r l f, count_counts js (word_of r))
