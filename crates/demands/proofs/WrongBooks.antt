-- Counts and appends that document 01 names as wrong break a promise, and so does a rebuild that draws nothing: each by its outcome
-- on one input, and so however the version answers elsewhere. Assumes nothing.
use Prim.Native.Nat.{ℕ, zero, suc, ◌≤◌, ◌<◌}
use native.Mathlib.Omega.{arith}
use mathlib.Core.Path.{◌≡◌, refl, sym, ap, ◌∙◌}
use mathlib.Core.Bool.{not}
use mathlib.Core.List.{List, [], ◌∷◌, tail-eq_of_cons-eq}
use lib.ListN.{length, get_or, length-append}
use lib.Dec.{leb}
use borrow.Author.Tests.{leb-false}
use Rattle.words.specs.Journals.{opened, appended_at, last_of, appended}
use Rattle.words.specs.Limits.{step_codes}
use Rattle.words.specs.Picture.{picture}
use Rattle.words.specs.Words.{IsWord, Counts}
use Rattle.words.proofs.Place.{counts_count}
use Rattle.words.proofs.Worked.{two}
use Rattle.records.specs.JournalBook.{first_wrong_record, journal_form, journals_of, journal_record, journal_book}
use Rattle.records.specs.RowBook.{row_book, record_of_row}
use Rattle.records.specs.Sizes.{longest_word}
use Rattle.records.specs.Sound.{right_sizes, sound, BooksOf}
use Rattle.records.specs.StepBytes.{step_bytes}
use Rattle.records.specs.WordRecord.{word_record}
use Rattle.records.proofs.Sound.{books_journals}
use Rattle.books.specs.Append.{append_at_call, append_call}
use Rattle.books.specs.Clear.{After, after}
use Rattle.books.specs.Numbers.{done}
use Rattle.books.specs.JournalCount.{journal_count_call}
use Rattle.books.specs.Open.{open_call}
use Rattle.books.specs.Rebuild.{rebuild_call}
use Rattle.books.specs.Runs.{opens, appends, Ran, run_from, cleared}
use Rattle.books.specs.TableCount.{table_count_call}
use Rattle.books.specs.TableCount.{Counted}
use Rattle.books.proofs.Refusals.{pass}
use Rattle.books.proofs.Runs.{call_keeps, runs}
use Rattle.demands.proofs.Demand2.{demand_2}
use Rattle.demands.proofs.RefusesAlways.{single, append_done}
use Rattle.demands.proofs.WorkedBooks.{spoilt, worked_books, rebuild_worked}

-- A wrong count, at any word on any sound books: the outcome's count isn't the number of journals that the word is in.
module _ {js : List (List ℕ)} {jb rb : List ℕ} (b : BooksOf js jb rb) (w : List ℕ) (k : IsWord w) (o : Counted) (n : Counts w js o.count → ⊥) where
  pub table_count_wrong : o ≡ table_count_call rb w → ⊥
  table_count_wrong e = n (rw e (demand_2.by_table b w k).count)

  pub journal_count_wrong : length w ≤ longest_word → o ≡ journal_count_call jb (word_record w) → ⊥
  journal_count_wrong h e = n (rw e (demand_2.by_journals b w k h).count)

two_two : IsWord (2 ∷ 2 ∷ [])
two_two = (omega arith, (omega arith, tt))

-- A constant count: the same count for the empty word and for 2 2 on the worked books, where P4 wants 2 and P6 wants 0.
module _ (o p : Counted) (c : o.count ≡ p.count) where
  pub table_count_constant : o ≡ table_count_call (row_book two) [] → p ≡ table_count_call (row_book two) (2 ∷ 2 ∷ []) → ⊥
  table_count_constant e f =
      let a = counts_count (rw (← e) at (demand_2.by_table worked_books [] tt).count) in
      let b = counts_count (rw (← f) at (demand_2.by_table worked_books (2 ∷ 2 ∷ []) two_two).count) in
      omega arith

  pub journal_count_constant : o ≡ journal_count_call (journal_book two) (word_record []) → p ≡ journal_count_call (journal_book two) (word_record (2 ∷ 2 ∷ [])) → ⊥
  journal_count_constant e f =
      let a = counts_count (rw (← e) at (demand_2.by_journals worked_books [] tt (omega arith)).count) in
      let b = counts_count (rw (← f) at (demand_2.by_journals worked_books (2 ∷ 2 ∷ []) two_two (omega arith)).count) in
      omega arith

-- a step more makes other journals
appended_differs : (i s : ℕ) (js : List (List ℕ)) → i < length js → appended_at i s js ≡ js → ⊥
appended_differs i s [] h e = absurd (omega arith)
appended_differs zero s (j ∷ js) h e = omega (arith, length-append j (s ∷ []), ap (λ (l : List (List ℕ)). length (get_or l 0 [])) e)
appended_differs (suc i) s (j ∷ js) h e = appended_differs i s js (omega arith) (tail-eq_of_cons-eq e)

-- where append is done, a journal is open
append_open : (jb rb : List ℕ) (s : ℕ) → (append_call jb rb s).number ≡ 0 → last_of (journals_of jb) < length (journals_of jb)
unfolding append_call append_at_call
append_open jb rb s e =
    let js : List (List ℕ) = journals_of jb in
    let p1 = pass (not (right_sizes jb rb)) 0 _ e in
    let p2 = pass (not (sound jb rb)) 1 _ p1.1 in
    let p3 = pass (leb step_codes s) 2 _ p2.1 in
    let p4 = pass (leb (length js) (last_of js)) 3 _ p3.1 in
    leb-false (length js) (last_of js) p4.0

-- An append that writes nothing, on any sound books: it says that it is done, and leaves the journal book.
pub append_leaves_journals : {js : List (List ℕ)} {jb rb : List ℕ} → BooksOf js jb rb → (s : ℕ) (o : After)
    → o.number ≡ 0 → o.journals ≡ jb → o ≡ append_call jb rb s → ⊥
unfolding appended
append_leaves_journals {js} {jb} {rb} b s o z l e =
    let n : (append_call jb rb s).number ≡ 0 = sym (ap (λ (a : After). a.number) e) ∙ z in
    let same : (append_call jb rb s).journals ≡ jb = sym (ap (λ (a : After). a.journals) e) ∙ l in
    let new = rw (n, same) at (call_keeps js jb rb b (appends s)) in
    appended_differs (last_of js) s js (rw (books_journals b) at (append_open jb rb s n)) (sym (books_journals new) ∙ books_journals b)

-- row 1 of the books of the journal 1 1 has an arc, in byte 64 + 18
append_rows : get_or (append_call (journal_book single) (row_book single) 1).rows 82 0 ≡ 2
unfolding append_at_call append_call sound journal_form first_wrong_record journals_of journal_book journal_record step_bytes row_book record_of_row picture
append_rows = refl

single_rows : get_or (row_book single) 82 0 ≡ 0
unfolding row_book record_of_row picture
single_rows = refl

-- nor may the row book stay, where the journal 1 becomes 1 1
pub append_leaves_rows : (o : After) → o.rows ≡ row_book single → o ≡ append_call (journal_book single) (row_book single) 1 → ⊥
append_leaves_rows o l e =
    let z : ◌≡◌ {A = ℕ} 0 2 = sym single_rows ∙ ap (λ (b : List ℕ). get_or b 82 0) (sym l ∙ ap (λ (a : After). a.rows) e) ∙ append_rows in
    omega arith

-- what is reached by opening a journal and appending its first step
abbrev first_step : ℕ → Ran
first_step s = run_from cleared (opens ∷ appends s ∷ [])

-- An append that handles one step of a journal and no second: of that it only says "done", and leaves the first one's books.
pub append_first_step_only : (s t : ℕ) (o : After) → o.number ≡ 0 → o.journals ≡ (first_step s).journal_book_is
    → o ≡ append_call (first_step s).journal_book_is (first_step s).row_book_is t → ⊥
append_first_step_only s t o = append_leaves_journals (runs (opens ∷ appends s ∷ [])) t o

-- such a run, call by call, whose second step is to be done: 1 1
first_opened : open_call cleared.journal_book_is cleared.row_book_is ≡ after done (journal_book ([] ∷ [])) (row_book ([] ∷ []))
unfolding open_call opened sound journal_form first_wrong_record journals_of row_book picture
first_opened = refl

first_appended : append_call (journal_book ([] ∷ [])) (row_book ([] ∷ [])) 1 ≡ after done (journal_book single) (row_book single)
unfolding append_at_call append_call appended sound journal_form first_wrong_record journals_of journal_book journal_record step_bytes row_book record_of_row picture
first_appended = refl

pub second_step_done : (append_call (first_step 1).journal_book_is (first_step 1).row_book_is 1).number ≡ 0
second_step_done = rw (first_opened, first_appended) append_done

-- byte 0 of the worked rows, and of the row book beside them
first_place : get_or (row_book two) 0 0 ≡ 0
unfolding row_book record_of_row picture
first_place = refl

-- A rebuild that leaves the row book, whatever it says, beside the worked journals: the picture isn't what stood there.
pub rebuild_leaves_rows : (o : After) → o.rows ≡ spoilt → o ≡ rebuild_call (journal_book two) spoilt → ⊥
rebuild_leaves_rows o l e =
    let z : ◌≡◌ {A = ℕ} 7 0 = ap (λ (b : List ℕ). get_or b 0 0) (sym l ∙ ap (λ (a : After). a.rows) (e ∙ rebuild_worked)) ∙ first_place in
    omega arith
