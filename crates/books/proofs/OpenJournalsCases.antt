-- The number of open journals by its cases: the book's size, its form, and the number, which is k on the books of k journals.
-- Assumes nothing.
use Prim.Native.Nat.{ℕ, ◌≤◌}
use mathlib.Core.Path.{◌≡◌, ap, ◌∙◌}
use mathlib.Core.Bool.{true, false, not}
use mathlib.Core.List.{List}
use lib.ListN.{length}
use lib.Dec.{eqb}
use borrow.Author.Tests.{eq-eqb, ne_eqb, not-false}
use Rattle.words.specs.Limits.{most_journals}
use Rattle.records.specs.Sizes.{journal_book_size}
use Rattle.records.specs.JournalBook.{journal_form, journals_of}
use Rattle.records.specs.Sound.{BooksOf}
use Rattle.records.proofs.Form.{form_book, book_form, book_length}
use Rattle.records.proofs.Sound.{books_journals}
use Rattle.books.specs.Numbers.{first, done, wrong_size, damaged}
use Rattle.books.specs.OpenJournals.{open_journals_refusals, open_journals_answer, open_journals_call}
use Rattle.books.proofs.Refusals.{pass, told_most}

module _ (jb : List ℕ) where
  pub open_size : (length jb ≡ journal_book_size → ⊥) → open_journals_call jb ≡ open_journals_answer wrong_size 0
  unfolding open_journals_call
  open_size n = rw (ne_eqb (length jb) journal_book_size n)

  module _ (size : length jb ≡ journal_book_size) where
    pub open_wrong : journal_form jb ≡ false → open_journals_call jb ≡ open_journals_answer damaged 0
    unfolding open_journals_call
    open_wrong f = rw (eq-eqb (length jb) journal_book_size size, f)

    pub open_known : journal_form jb ≡ true → open_journals_call jb ≡ open_journals_answer done (length (journals_of jb))
    unfolding open_journals_call
    open_known f = rw (eq-eqb (length jb) journal_book_size size, f)

  -- a book that isn't refused has its form
  told_form : first (open_journals_refusals jb) ≡ 0 → journal_form jb ≡ true
  told_form e =
      let size = pass (not (eqb (length jb) journal_book_size)) _ _ e in
      not-false (journal_form jb) (pass (not (journal_form jb)) _ _ size.1).0

  -- with number 0 all journals are told
  pub open_told : (open_journals_call jb).number ≡ done → (open_journals_call jb).journals ≡ length (journals_of jb)
  unfolding open_journals_call
  open_told e = rw e

  -- there are never more than 16
  pub open_few : (open_journals_call jb).journals ≤ most_journals
  unfolding open_journals_call
  open_few = told_most _ (length (journals_of jb)) most_journals (λ e. (form_book jb (told_form e)).0.few)

-- on the books of the journals it is their number
pub open_books : {js : List (List ℕ)} {jb rb : List ℕ} → BooksOf js jb rb → open_journals_call jb ≡ open_journals_answer done (length js)
open_books {js} {jb} b =
    let e = b.journal_book_is in
    open_known jb (ap length e ∙ book_length js b.journals) (ap journal_form e ∙ book_form js b.journals) ∙ ap (λ (ks : List (List ℕ)). open_journals_answer done (length ks)) (books_journals b)
