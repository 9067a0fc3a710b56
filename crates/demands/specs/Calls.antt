-- Every public call with all that it is given, its number, and the conditions of its numbers in their order. Assumes nothing.
use Rattle.std.specs.Prelude.{ℕ, not, List, [], ◌∷◌}
use Rattle.records.specs.Sound.{right_sizes, sound}
use Rattle.books.specs.Check.{check_call}
use Rattle.books.specs.Clear.{After, after}
use Rattle.books.specs.JournalCount.{journal_count_refusals, journal_count_call}
use Rattle.books.specs.LiveRows.{live_rows_refusals, live_rows_call}
use Rattle.books.specs.Numbers.{Refusal, wrong_size, damaged}
use Rattle.books.specs.OpenJournals.{open_journals_refusals, open_journals_call}
use Rattle.books.specs.RowRecord.{row_record_refusals, row_record_number_call}
use Rattle.books.specs.Runs.{Call, called, refusals}
use Rattle.books.specs.TableCount.{table_count_refusals, table_count_call}
use Rattle.list.specs.ListCall.{Asked, list_refusals, list_call}
use Rattle.ask.specs.Ask.{ask_refusals, ask_call}
use Rattle.feed.specs.Entry.{AfterFeeding, entry_call_refusals, entry_call, feed_call}
use Rattle.demands.specs.EntriesRefusals.{entries_refusals}

-- The calls that are lent books only to read them. A new call adds a case here, or below among those that write.
pub data Reading : Type 0 where
  table_count : (rows word : List ℕ) → Reading
  journal_count : (journals word-record : List ℕ) → Reading
  check : (journals rows : List ℕ) → Reading
  row_record : (rows : List ℕ) (row : ℕ) → Reading
  row_record_number : (rows : List ℕ) (row : ℕ) → Reading
  open_journals : (journals : List ℕ) → Reading
  live_rows : (journals rows : List ℕ) → Reading
  list : Asked → Reading

-- The calls that are lent a book to write: clear, open, append and rebuild, one entry, and a row of entries.
pub data Writing : Type 0 where
  calls : Call → Writing
  entry : (number step : ℕ) → Writing
  entries : (bytes : List ℕ) → Writing

pub data PublicCall : Type 0 where
  writes : Writing → (journals rows : List ℕ) → PublicCall
  reads : Reading → PublicCall
  ask : (k : ℕ) (file : List ℕ) → PublicCall

-- the number of a call that writes, and both books after it
abbrev pub written : Writing → List ℕ → List ℕ → After
written (calls c) jb rb = called c jb rb
written (entry n s) jb rb = entry_call jb rb n s
written (entries bytes) jb rb = let o : AfterFeeding = feed_call jb rb bytes in after o.number o.journals o.rows

-- the number that goes with its answer: the row record's comes from the other call
abbrev pub read_number : Reading → ℕ
read_number (table_count rb w) = (table_count_call rb w).number
read_number (journal_count jb r) = (journal_count_call jb r).number
read_number (check jb rb) = (check_call jb rb).number
read_number (row_record rb r) = row_record_number_call rb r
read_number (row_record_number rb r) = row_record_number_call rb r
read_number (open_journals jb) = (open_journals_call jb).number
read_number (live_rows jb rb) = (live_rows_call jb rb).number
read_number (list a) = (list_call a).answer.number

abbrev pub number_of : PublicCall → ℕ
number_of (writes c jb rb) = (written c jb rb).number
number_of (reads c) = read_number c
number_of (ask k file) = (ask_call k file).number

-- the check's numbers: 1, 2
abbrev pub check_refusals : List ℕ → List ℕ → List Refusal
check_refusals jb rb =
    record { holds = not (right_sizes jb rb); number = wrong_size }
    ∷ record { holds = not (sound jb rb); number = damaged }
    ∷ []

-- the conditions of its numbers, in their order
abbrev pub read_refusals : Reading → List Refusal
read_refusals (table_count rb w) = table_count_refusals rb w
read_refusals (journal_count jb r) = journal_count_refusals jb r
read_refusals (check jb rb) = check_refusals jb rb
read_refusals (row_record rb r) = row_record_refusals rb r
read_refusals (row_record_number rb r) = row_record_refusals rb r
read_refusals (open_journals jb) = open_journals_refusals jb
read_refusals (live_rows jb rb) = live_rows_refusals jb rb
read_refusals (list a) = list_refusals a

abbrev pub write_refusals : Writing → List ℕ → List ℕ → List Refusal
write_refusals (calls c) jb rb = refusals c jb rb
write_refusals (entry n s) jb rb = entry_call_refusals jb rb n s
write_refusals (entries bytes) jb rb = entries_refusals jb rb bytes

abbrev pub refusals_of : PublicCall → List Refusal
refusals_of (writes c jb rb) = write_refusals c jb rb
refusals_of (reads c) = read_refusals c
refusals_of (ask k file) = ask_refusals k file
