-- The number of live rows by its cases, as the check tells them: refused where it tells a fault, or that of the picture, and the
-- latter on the books of journals. Assumes nothing.
use Prim.Native.Nat.{ℕ, ◌≤◌}
use mathlib.Core.Path.{◌≡◌, sym, ap, ap₂, ◌∙◌}
use mathlib.Core.Bool.{true, not}
use mathlib.Core.List.{List, []}
use lib.ListN.{length}
use borrow.Author.Tests.{not-false}
use Rattle.words.specs.Picture.{picture}
use Rattle.records.specs.JournalBook.{journals_of}
use Rattle.records.specs.Sizes.{most_rows}
use Rattle.records.specs.Sound.{right_sizes, sound, BooksOf}
use Rattle.records.proofs.Sound.{books_journals, books_sizes, books_sound}
use Rattle.books.specs.Answers.{number_of, fault_at, refused_by}
use Rattle.books.specs.Check.{checked, check_call}
use Rattle.books.specs.LiveRows.{live_rows_refusals, live_rows_answer, live_rows_call}
use Rattle.books.specs.Numbers.{first, done}
use Rattle.books.specs.LiveRows.{LiveRows}
use Rattle.books.specs.declared.fault.Fault.{Fault}
use Rattle.books.proofs.Checks.{parts_of}
use Rattle.books.proofs.RefusalNumbers.{refusal_told}
use Rattle.books.proofs.Faults.{fault_refused, none_refused}
use Rattle.books.proofs.Refusals.{pass, refused, told_most}

-- a number and a number of rows, as the code answers them
abbrev answer : ℕ → ℕ → LiveRows
answer n r = record { number = n; rows = r }

module _ (jb rb : List ℕ) where
  -- a fault that the check tells
  pub live_refused : (f : Fault) → fault_at f ≡ check_call jb rb → answer (number_of (refused_by f)) 0 ≡ live_rows_call jb rb
  unfolding live_rows_call
  live_refused f e =
      let n = fault_refused jb rb [] f e in
      ap₂ answer n (sym (refused (first (live_rows_refusals jb rb)) (length (picture (journals_of jb))) 0 (λ z. refusal_told (refused_by f) (n ∙ z))))

  -- and none: the number that was found, which is that of the picture
  pub live_found : checked 0 0 0 0 ≡ check_call jb rb → {r : ℕ} → r ≡ length (picture (journals_of jb)) → answer 0 r ≡ live_rows_call jb rb
  unfolding live_rows_call
  live_found e r = rw (none_refused jb rb [] e) (ap (answer 0) r)

  -- books that aren't refused are sound
  told_sound : first (live_rows_refusals jb rb) ≡ 0 → sound jb rb ≡ true
  told_sound e =
      let size = pass (not (right_sizes jb rb)) _ _ e in
      not-false (sound jb rb) (pass (not (sound jb rb)) _ _ size.1).0

  -- there are never more than 1,000
  pub live_few : (live_rows_call jb rb).rows ≤ most_rows
  unfolding live_rows_call
  live_few = told_most _ (length (picture (journals_of jb))) most_rows (λ e. (parts_of jb rb (told_sound e)).1)

-- on the books of the journals it is the number of their live states
pub live_books : {js : List (List ℕ)} {jb rb : List ℕ} → BooksOf js jb rb → live_rows_call jb rb ≡ live_rows_answer done (length (picture js))
unfolding live_rows_call
live_books b = rw (books_sizes b, books_sound b) (ap (λ (ks : List (List ℕ)). live_rows_answer done (length (picture ks))) (books_journals b))
