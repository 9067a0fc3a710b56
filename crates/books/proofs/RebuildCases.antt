-- Rebuild by its cases: the sizes, the journal book's form, and the picture if it fits. Done, it leaves the books of the journals
-- that the journal book holds, whatever the row book held; on sound books it changes nothing. Assumes nothing.
use Prim.Native.Nat.{ℕ}
use mathlib.Core.Path.{◌≡◌, refl, sym, ap, ◌∙◌}
use mathlib.Core.Bool.{true, false, not}
use mathlib.Core.List.{List, [], ◌∷◌}
use lib.ListN.{length}
use lib.Dec.{ltb}
use borrow.Author.Tests.{le-ltb, ltb-false, not-false}
use Rattle.words.specs.Picture.{picture}
use Rattle.records.specs.JournalBook.{journal_form, journals_of}
use Rattle.records.specs.RowBook.{row_book}
use Rattle.records.specs.Sound.{right_sizes, sound, BooksOf}
use Rattle.records.proofs.Form.{form_book}
use Rattle.records.proofs.Sound.{books_sound, books_sizes, sound_books}
use Rattle.books.specs.Numbers.{first, done, wrong_size, damaged, unless}
use Rattle.books.specs.Clear.{after}
use Rattle.books.specs.Write.{rows_refusal}
use Rattle.books.specs.Rebuild.{rebuild_refusals, redrawn, rebuild_call}
use Rattle.books.proofs.Checks.{parts_of}
use Rattle.books.proofs.Refusals.{pass}

module _ (jb rb : List ℕ) where
  pub rebuild_size : right_sizes jb rb ≡ false → after wrong_size jb rb ≡ rebuild_call jb rb
  unfolding rebuild_call
  rebuild_size w = rw w

  pub rebuild_formless : right_sizes jb rb ≡ true → journal_form jb ≡ false → after damaged jb rb ≡ rebuild_call jb rb
  unfolding rebuild_call
  rebuild_formless w f = rw (w, f)

  -- the picture's number is the call's
  picture_number : right_sizes jb rb ≡ true → journal_form jb ≡ true → first (rows_refusal (journals_of jb) ∷ []) ≡ first (rebuild_refusals jb rb)
  picture_number w f = rw (w, f)

  pub rebuild_drawn : right_sizes jb rb ≡ true → journal_form jb ≡ true → (n : ℕ) → n ≡ first (rows_refusal (journals_of jb) ∷ [])
      → (drawn : List ℕ) → drawn ≡ unless n (row_book (journals_of jb)) rb → after n jb drawn ≡ rebuild_call jb rb
  unfolding rebuild_call
  rebuild_drawn w f n e drawn d = ap (after n jb) d ∙ ap (λ (k : ℕ). redrawn k (journals_of jb) jb rb) (e ∙ picture_number w f)

  -- what stands when it isn't refused
  not_refused : first (rebuild_refusals jb rb) ≡ 0 → BooksOf (journals_of jb) jb (row_book (journals_of jb))
  not_refused e =
      let n : ℕ = length (picture (journals_of jb)) in
      let sized = pass (not (right_sizes jb rb)) 0 _ e in
      let formed = pass (not (journal_form jb)) 1 _ sized.1 in
      let fitting = pass (ltb 1000 n) 5 _ formed.1 in
      let form = form_book jb (not-false (journal_form jb) formed.0) in
      record { journals = form.0; fits = ltb-false 1000 n fitting.0; journal_book_is = form.1; row_book_is = refl }

  -- done: the books of the journals that the journal book holds
  pub rebuild_books : (rebuild_call jb rb).number ≡ 0 → BooksOf (journals_of jb) jb (rebuild_call jb rb).rows
  unfolding rebuild_call
  rebuild_books e = rw e (not_refused e)

  -- and so the books are sound
  pub rebuild_sound : (rebuild_call jb rb).number ≡ 0 → sound jb (rebuild_call jb rb).rows ≡ true
  rebuild_sound e = books_sound (rebuild_books e)

  -- of the row book nothing matters but its size
  pub rebuild_any_rows : (other : List ℕ) → length other ≡ length rb → (rebuild_call jb rb).number ≡ 0 → rebuild_call jb other ≡ rebuild_call jb rb
  unfolding rebuild_call
  rebuild_any_rows other l e = rw (l, e)

-- on the books of journals it is done, and changes nothing
pub rebuild_keeps : {js : List (List ℕ)} {jb rb : List ℕ} → BooksOf js jb rb → rebuild_call jb rb ≡ after done jb rb
unfolding rebuild_call
rebuild_keeps {js} {jb} {rb} b =
    let s = books_sound b in
    let n : ℕ = length (picture (journals_of jb)) in
    let p = parts_of jb rb s in
    rw (books_sizes b, p.0, le-ltb 1000 n p.1) (ap (after done jb) (sym (sound_books jb rb s).row_book_is))
