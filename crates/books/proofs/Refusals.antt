-- Each number is given exactly under its condition and no earlier one, and a refusal leaves every lent byte as it was.
-- It is one law about lists of refusals, cited for each call. Assumes nothing.
use Prim.Native.Nat.{ℕ, zero, suc, ◌≤◌}
use native.Mathlib.Omega.{arith}
use mathlib.Core.Path.{◌≡◌, refl, sym, subst, ◌∙◌}
use mathlib.Core.Bool.{Bool, true, false, cond, ◌||◌, false≢true}
use mathlib.Core.List.{List, [], ◌∷◌}
use lib.ListN.{length}
use lib.Dec.{leb, eqb}
use borrow.Author.Tests.{lt-leb, ne_eqb}
use Rattle.words.specs.Journals.{last_of}
use Rattle.words.proofs.Test.{test}
use Rattle.books.specs.Numbers.{Refusal, done, first, Given, none_holds, this_holds, not_this, unless}
use Rattle.books.specs.Clear.{clear_call}
use Rattle.books.specs.Open.{open_call}
use Rattle.books.specs.Append.{append_at_call, append_call}
use Rattle.books.specs.TableCount.{table_count_refusals, table_count_call}
use Rattle.books.specs.JournalCount.{journal_count_refusals, journal_count_call}
use Rattle.books.specs.RowRecord.{row_record_refusals, row_record_number_call, row_record_call}
use Rattle.books.specs.OpenJournals.{open_journals_refusals, open_journals_call}
use Rattle.books.specs.LiveRows.{live_rows_refusals, live_rows_call}
use Rattle.books.specs.Rebuild.{rebuild_call}
use Rattle.books.specs.Runs.{Call, clears, opens, appends, rebuilds, called, refusals}

-- the number that counts is given
pub first_given : (rs : List Refusal) → Given rs (first rs)
first_given [] = none_holds
first_given (r ∷ rs) =
    test r.holds (λ t. subst (Given (r ∷ rs)) (sym (this t)) (this_holds t))
    (λ f. subst (Given (r ∷ rs)) (sym (others f)) (not_this f (first_given rs)))
  where
    this : r.holds ≡ true → first (r ∷ rs) ≡ r.number
    this t = rw t

    others : r.holds ≡ false → first (r ∷ rs) ≡ first rs
    others f = rw f

-- and no other is
pub given_first : {rs : List Refusal} {n : ℕ} → Given rs n → n ≡ first rs
given_first none_holds = refl
given_first (this_holds t) = rw t
given_first (not_this f g) = rw f (given_first g)

-- what holds of 0 and of every refusal's number
abbrev pub Each : (ℕ → Type 0) → List Refusal → Type 0
Each P [] = P done
Each P (r ∷ rs) = P r.number × Each P rs

-- holds of the one that counts
pub first_each : (P : ℕ → Type 0) (rs : List Refusal) → Each P rs → P (first rs)
first_each P [] p = p
first_each P (r ∷ rs) p = test r.holds (λ t. rw t p.0) (λ f. rw f (first_each P rs p.1))

-- a condition passed: it doesn't hold, and the next one counts
pub pass : (t : Bool) (n rest : ℕ) → cond t (suc n) rest ≡ 0 → (t ≡ false) × (rest ≡ 0)
pass true n rest e = absurd (omega arith)
pass false n rest e = (refl, e)

-- a condition of two parts passed: neither holds
pub neither : (s t : Bool) → s || t ≡ false → (s ≡ false) × (t ≡ false)
neither true t e = absurd (false≢true (sym e))
neither false t e = (refl, e)

-- what a refusal leaves
pub refused {ℓ} : {A : Type ℓ} (n : ℕ) (new old : A) → (n ≡ 0 → ⊥) → unless n new old ≡ old
refused zero new old h = absurd (h refl)
refused (suc n) new old h = refl

-- what is answered is at most m if it is where nothing is refused
pub told_most : (n a m : ℕ) → (n ≡ 0 → a ≤ m) → unless n a 0 ≤ m
told_most zero a m h = h refl
told_most (suc n) a m h = omega arith

-- clear, open, append and rebuild: the numbers
pub call_numbers : (c : Call) (jb rb : List ℕ) → Given (refusals c jb rb) (called c jb rb).number
unfolding clear_call open_call append_at_call append_call rebuild_call
call_numbers clears jb rb = first_given _
call_numbers opens jb rb = first_given _
call_numbers (appends s) jb rb = first_given _
call_numbers rebuilds jb rb = first_given _

-- append: at the last journal, number 4's condition is that no journal is open
pub append_none_open : (js : List (List ℕ)) → leb (length js) (last_of js) ≡ eqb (length js) 0
append_none_open [] = refl
append_none_open (j ∷ js) = lt-leb (length (j ∷ js)) (last_of (j ∷ js)) (omega arith) ∙ sym (ne_eqb (length (j ∷ js)) 0 (λ e. omega arith))

-- clear, open, append and rebuild: a refusal writes nothing
pub call_refused : (c : Call) (jb rb : List ℕ) → ((called c jb rb).number ≡ 0 → ⊥) → ((called c jb rb).journals ≡ jb) × ((called c jb rb).rows ≡ rb)
unfolding clear_call open_call append_at_call append_call rebuild_call
call_refused clears jb rb h = (refused _ _ jb h, refused _ _ rb h)
call_refused opens jb rb h = (refused _ _ jb h, refused _ _ rb h)
call_refused (appends s) jb rb h = (refused _ _ jb h, refused _ _ rb h)
call_refused rebuilds jb rb h = (refl, refused _ _ rb h)

-- table count: the numbers; a refusal has the count 0
pub table_count_numbers : (rb w : List ℕ) → Given (table_count_refusals rb w) (table_count_call rb w).number
unfolding table_count_call
table_count_numbers rb w = first_given _

pub table_count_refused : (rb w : List ℕ) → ((table_count_call rb w).number ≡ 0 → ⊥) → (table_count_call rb w).count ≡ 0
unfolding table_count_call
table_count_refused rb w h = refused _ _ 0 h

-- journal count: the numbers; a refusal has the count 0
pub journal_count_numbers : (jb r : List ℕ) → Given (journal_count_refusals jb r) (journal_count_call jb r).number
unfolding journal_count_call
journal_count_numbers jb r = first_given _

pub journal_count_refused : (jb r : List ℕ) → ((journal_count_call jb r).number ≡ 0 → ⊥) → (journal_count_call jb r).count ≡ 0
unfolding journal_count_call
journal_count_refused jb r h = refused _ _ 0 h

-- row record: the numbers; a refusal gives a part of length 0
pub row_record_numbers : (rb : List ℕ) (r : ℕ) → Given (row_record_refusals rb r) (row_record_number_call rb r)
unfolding row_record_number_call
row_record_numbers rb r = first_given _

pub row_record_refused : (rb : List ℕ) (r : ℕ) → (row_record_number_call rb r ≡ 0 → ⊥) → row_record_call rb r ≡ []
unfolding row_record_call
row_record_refused rb r h = refused _ _ [] h

-- open journals: the numbers; a refusal has the number of journals 0
pub open_journals_numbers : (jb : List ℕ) → Given (open_journals_refusals jb) (open_journals_call jb).number
unfolding open_journals_call
open_journals_numbers jb = first_given _

pub open_journals_refused : (jb : List ℕ) → ((open_journals_call jb).number ≡ 0 → ⊥) → (open_journals_call jb).journals ≡ 0
unfolding open_journals_call
open_journals_refused jb h = refused _ _ 0 h

-- live rows: the numbers; a refusal has the number of rows 0
pub live_rows_numbers : (jb rb : List ℕ) → Given (live_rows_refusals jb rb) (live_rows_call jb rb).number
unfolding live_rows_call
live_rows_numbers jb rb = first_given _

pub live_rows_refused : (jb rb : List ℕ) → ((live_rows_call jb rb).number ≡ 0 → ⊥) → (live_rows_call jb rb).rows ≡ 0
unfolding live_rows_call
live_rows_refused jb rb h = refused _ _ 0 h
