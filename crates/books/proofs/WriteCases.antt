-- The writer by its cases, and a call that writes: refused before, or left to the writer. Assumes nothing.
use Prim.Native.Nat.{ℕ, ◌≤◌, ◌<◌}
use mathlib.Core.Path.{◌≡◌, sym, ap, ap₂, ◌∙◌}
use mathlib.Core.Bool.{true}
use mathlib.Core.List.{List, [], ◌∷◌}
use lib.ListN.{length}
use borrow.Author.Tests.{lt-ltb, le-ltb}
use Rattle.words.specs.Picture.{picture}
use Rattle.words.specs.Words.{AreJournals}
use Rattle.records.specs.JournalBook.{journal_form, journals_of, journal_book}
use Rattle.records.specs.RowBook.{row_book}
use Rattle.records.proofs.Form.{book_form, journals_back}
use Rattle.books.specs.Numbers.{first, done, rows_full}
use Rattle.books.specs.Clear.{after}
use Rattle.books.specs.Write.{written, rows_refusal, write_call}
use Rattle.books.proofs.Refusals.{refused}

-- the picture's number by how many live states there are
module _ (js : List (List ℕ)) where
  pub rows_full_is : 1000 < length (picture js) → rows_full ≡ first (rows_refusal js ∷ [])
  rows_full_is m = rw (lt-ltb 1000 (length (picture js)) m)

  pub rows_fit : length (picture js) ≤ 1000 → done ≡ first (rows_refusal js ∷ [])
  rows_fit m = rw (le-ltb 1000 (length (picture js)) m)

module _ (js : List (List ℕ)) (jb rb : List ℕ) where
  -- the writer, done and refused
  pub write_done : done ≡ first (rows_refusal js ∷ []) → after done (journal_book js) (row_book js) ≡ write_call js jb rb
  unfolding write_call
  write_done e = ap (λ (k : ℕ). written k js jb rb) e

  -- a number that was given before anything is written
  pub written_refused : (n m : ℕ) → n ≡ m → (n ≡ 0 → ⊥) → after n jb rb ≡ written m js jb rb
  written_refused n m e h =
      ap₂ (after n) (sym (refused n (journal_book js) jb h)) (sym (refused n (row_book js) rb h)) ∙ ap (λ (k : ℕ). written k js jb rb) e

  pub write_refused : (n : ℕ) → n ≡ first (rows_refusal js ∷ []) → (n ≡ 0 → ⊥) → after n jb rb ≡ write_call js jb rb
  unfolding write_call
  write_refused n e h = written_refused n (first (rows_refusal js ∷ [])) e h

  -- no such number: what the writer does is what the call does
  pub written_last : (m : ℕ) → m ≡ first (rows_refusal js ∷ []) → write_call js jb rb ≡ written m js jb rb
  unfolding write_call
  written_last m e = ap (λ (k : ℕ). written k js jb rb) (sym e)

-- the new journals as a book in scratch
module _ (js : List (List ℕ)) (k : AreJournals js) (b : List ℕ) (e : b ≡ journal_book js) where
  pub scratch_form : journal_form b ≡ true
  scratch_form = ap journal_form e ∙ book_form js k

  pub scratch_written : (jb rb : List ℕ) → write_call (journals_of b) jb rb ≡ write_call js jb rb
  scratch_written jb rb = ap (λ (ks : List (List ℕ)). write_call ks jb rb) (ap journals_of e ∙ journals_back js k)
