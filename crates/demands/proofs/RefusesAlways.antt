-- A call that refuses always breaks a promise, whichever call it is but the list, of which `WrongLists` says it: for each there is
-- an input that has to be done. Assumes nothing.
use Prim.Native.Nat.{ℕ}
use native.Mathlib.Omega.{arith}
use mathlib.Core.Path.{◌≡◌, refl, ap, ◌∙◌}
use mathlib.Core.List.{List, [], ◌∷◌}
use lib.ListN.{length, replicate}
use Rattle.words.specs.Picture.{picture}
use Rattle.words.proofs.Worked.{two}
use Rattle.records.specs.JournalBook.{first_wrong_record, journal_form, journals_of, journal_record, journal_book}
use Rattle.records.specs.RowBook.{row_book, record_of_row}
use Rattle.records.specs.Sizes.{journal_book_size, row_book_size}
use Rattle.records.specs.Sound.{sound}
use Rattle.records.specs.StepBytes.{step_bytes}
use Rattle.records.specs.WordRecord.{word_record}
use Rattle.entries.specs.Entry.{entry_of}
use Rattle.books.specs.Append.{append_at_call, append_call}
use Rattle.books.specs.Check.{check_call, check_rows, compared}
use Rattle.books.specs.Clear.{After, clear_call}
use Rattle.books.specs.JournalCount.{journal_count_call}
use Rattle.books.specs.LiveRows.{live_rows_call}
use Rattle.books.specs.Open.{open_call}
use Rattle.books.specs.OpenJournals.{open_journals_call}
use Rattle.books.specs.Rebuild.{rebuild_call}
use Rattle.books.specs.RowRecord.{row_record_number_call, row_record_call}
use Rattle.books.specs.TableCount.{table_count_call}
use Rattle.books.specs.Check.{Checked}
use Rattle.books.specs.TableCount.{Counted}
use Rattle.books.specs.LiveRows.{LiveRows}
use Rattle.books.specs.OpenJournals.{OpenJournals}
use Rattle.ask.specs.Ask.{Answer, ask_call}
use Rattle.feed.specs.Entry.{AfterFeeding, enter, entry_call, feed_from, feed_call}
use Rattle.demands.proofs.Demand2.{demand_2}
use Rattle.demands.proofs.WorkedBooks.{spoilt, worked_books, rebuild_worked}

-- cleared books, and one journal that has the step 1
abbrev no_journals : List ℕ
no_journals = replicate journal_book_size 0

abbrev no_rows : List ℕ
no_rows = replicate row_book_size 0

abbrev pub single : List (List ℕ)
single = (1 ∷ []) ∷ []

-- an outcome with another number than 0 isn't the one promised, where that has 0
refuses : {A : Type 0} (number : A → ℕ) (promised : A) → number promised ≡ 0 → (o : A) → (number o ≡ 0 → ⊥) → o ≡ promised → ⊥
refuses number promised z o r e = r (ap number e ∙ z)

clear_done : (clear_call no_journals no_rows).number ≡ 0
unfolding clear_call
clear_done = refl

pub clear_refuses_always : (o : After) → (o.number ≡ 0 → ⊥) → o ≡ clear_call no_journals no_rows → ⊥
clear_refuses_always = refuses (λ (o : After). o.number) (clear_call no_journals no_rows) clear_done

open_done : (open_call no_journals no_rows).number ≡ 0
unfolding open_call sound journal_form first_wrong_record journals_of row_book picture
open_done = refl

pub open_refuses_always : (o : After) → (o.number ≡ 0 → ⊥) → o ≡ open_call no_journals no_rows → ⊥
open_refuses_always = refuses (λ (o : After). o.number) (open_call no_journals no_rows) open_done

pub append_done : (append_call (journal_book single) (row_book single) 1).number ≡ 0
unfolding append_at_call append_call sound journal_form first_wrong_record journals_of journal_book journal_record step_bytes row_book record_of_row picture
append_done = refl

pub append_refuses_always : (o : After) → (o.number ≡ 0 → ⊥) → o ≡ append_call (journal_book single) (row_book single) 1 → ⊥
append_refuses_always = refuses (λ (o : After). o.number) (append_call (journal_book single) (row_book single) 1) append_done

-- the worked journals beside a row book of other bytes: nor may those alone be refused
pub rebuild_refuses_always : (o : After) → (o.number ≡ 0 → ⊥) → o ≡ rebuild_call (journal_book two) spoilt → ⊥
rebuild_refuses_always =
    refuses (λ (o : After). o.number) (rebuild_call (journal_book two) spoilt) (ap (λ (o : After). o.number) rebuild_worked)

-- the empty word on the worked books
pub table_count_refuses_always : (o : Counted) → (o.number ≡ 0 → ⊥) → o ≡ table_count_call (row_book two) [] → ⊥
table_count_refuses_always = refuses (λ (o : Counted). o.number) (table_count_call (row_book two) []) (demand_2.by_table worked_books [] tt).number

pub journal_count_refuses_always : (o : Counted) → (o.number ≡ 0 → ⊥) → o ≡ journal_count_call (journal_book two) (word_record []) → ⊥
journal_count_refuses_always =
    refuses (λ (o : Counted). o.number) (journal_count_call (journal_book two) (word_record [])) (demand_2.by_journals worked_books [] tt (omega arith)).number

check_done : (check_call no_journals no_rows).number ≡ 0
unfolding check_call check_rows compared journal_form first_wrong_record journals_of row_book picture
check_done = refl

pub check_refuses_always : (o : Checked) → (o.number ≡ 0 → ⊥) → o ≡ check_call no_journals no_rows → ⊥
check_refuses_always = refuses (λ (o : Checked). o.number) (check_call no_journals no_rows) check_done

open_journals_done : (open_journals_call no_journals).number ≡ 0
unfolding open_journals_call journal_form first_wrong_record
open_journals_done = refl

pub open_journals_refuses_always : (o : OpenJournals) → (o.number ≡ 0 → ⊥) → o ≡ open_journals_call no_journals → ⊥
open_journals_refuses_always = refuses (λ (o : OpenJournals). o.number) (open_journals_call no_journals) open_journals_done

live_rows_done : (live_rows_call no_journals no_rows).number ≡ 0
unfolding live_rows_call sound journal_form first_wrong_record journals_of row_book picture
live_rows_done = refl

pub live_rows_refuses_always : (o : LiveRows) → (o.number ≡ 0 → ⊥) → o ≡ live_rows_call no_journals no_rows → ⊥
live_rows_refuses_always = refuses (λ (o : LiveRows). o.number) (live_rows_call no_journals no_rows) live_rows_done

row_record_done : row_record_number_call no_rows 0 ≡ 0
unfolding row_record_number_call
row_record_done = refl

pub row_record_number_refuses_always : (n : ℕ) → (n ≡ 0 → ⊥) → n ≡ row_record_number_call no_rows 0 → ⊥
row_record_number_refuses_always = refuses (λ n. n) (row_record_number_call no_rows 0) row_record_done

row_record_whole : length (row_record_call no_rows 0) ≡ 64
unfolding row_record_call row_record_number_call
row_record_whole = refl

-- the row record itself is refused by a part of length 0
pub row_record_refuses_always : (p : List ℕ) → length p ≡ 0 → p ≡ row_record_call no_rows 0 → ⊥
row_record_refuses_always p z e = omega (arith, ap length e, row_record_whole)

-- the entry that opens the first journal, alone and as a row of one
entry_done : (entry_call no_journals no_rows 0 255).number ≡ 0
unfolding entry_call entry_of enter open_call sound journal_form first_wrong_record journals_of row_book picture
entry_done = refl

pub entry_refuses_always : (o : After) → (o.number ≡ 0 → ⊥) → o ≡ entry_call no_journals no_rows 0 255 → ⊥
entry_refuses_always = refuses (λ (o : After). o.number) (entry_call no_journals no_rows 0 255) entry_done

entries_done : (feed_call no_journals no_rows (0 ∷ 255 ∷ [])).number ≡ 0
unfolding feed_call feed_from entry_call entry_of enter open_call sound journal_form first_wrong_record journals_of row_book picture
entries_done = refl

pub entries_refuse_always : (o : AfterFeeding) → (o.number ≡ 0 → ⊥) → o ≡ feed_call no_journals no_rows (0 ∷ 255 ∷ []) → ⊥
entries_refuse_always = refuses (λ (o : AfterFeeding). o.number) (feed_call no_journals no_rows (0 ∷ 255 ∷ [])) entries_done

-- an empty file where one journal is open
ask_done : (ask_call 1 []).number ≡ 0
unfolding ask_call
ask_done = refl

pub ask_refuses_always : (o : Answer) → (o.number ≡ 0 → ⊥) → o ≡ ask_call 1 [] → ⊥
ask_refuses_always = refuses (λ (o : Answer). o.number) (ask_call 1 []) ask_done
