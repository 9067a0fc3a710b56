-- What demand 1 says of a public call: its numbers, and what a refusal answers and leaves. Assumes nothing.
use Rattle.std.specs.Prelude.{ℕ, ◌≡◌, ◌↔◌, false, List, []}
use Rattle.books.specs.Check.{check_call, Verdict}
use Rattle.books.specs.Clear.{After}
use Rattle.books.specs.JournalCount.{journal_count_call}
use Rattle.books.specs.LiveRows.{live_rows_call}
use Rattle.books.specs.Numbers.{Given, done}
use Rattle.books.specs.OpenJournals.{open_journals_call}
use Rattle.books.specs.RowRecord.{row_record_call}
use Rattle.books.specs.Runs.{called}
use Rattle.books.specs.TableCount.{table_count_call}
use Rattle.list.specs.ListCall.{list_call}
use Rattle.ask.specs.Ask.{ask_call}
use Rattle.feed.specs.Entry.{entry_call, feed_call}
use Rattle.demands.specs.Calls.{Reading, table_count, journal_count, check, row_record, row_record_number, open_journals, live_rows, list}
use Rattle.demands.specs.Calls.{calls, entry, entries, PublicCall, writes, reads, ask, number_of, refusals_of}
use Rattle.demands.specs.KeepsTaken.{KeepsTaken}

-- What a call that reads says besides its number where it refuses: zeros, "no" and, of the row record, no byte. The list
-- leaves its output. The check says where the books are wrong.
abbrev pub ReadRefusal : Reading → Type 0
ReadRefusal (table_count rb w) = (table_count_call rb w).count ≡ 0
ReadRefusal (journal_count jb r) = (journal_count_call jb r).count ≡ 0
ReadRefusal (check jb rb) = Verdict jb rb (check_call jb rb)
ReadRefusal (row_record rb r) = row_record_call rb r ≡ []
ReadRefusal (row_record_number rb r) = Unit {0}
ReadRefusal (open_journals jb) = (open_journals_call jb).journals ≡ 0
ReadRefusal (live_rows jb rb) = (live_rows_call jb rb).rows ≡ 0
ReadRefusal (list a) = ((list_call a).answer.written ≡ 0) × ((list_call a).answer.more ≡ false) × ((list_call a).out ≡ a.out)

-- both books after a call are those before it
abbrev pub Stay : List ℕ → List ℕ → After → Type 0
Stay jb rb a = (a.journals ≡ jb) × (a.rows ≡ rb)

-- A call that writes leaves both books; a row of entries keeps those taken. A refused ask says zeros.
abbrev pub RefusalOf : PublicCall → Type 0
RefusalOf (writes (calls c) jb rb) = Stay jb rb (called c jb rb)
RefusalOf (writes (entry n s) jb rb) = Stay jb rb (entry_call jb rb n s)
RefusalOf (writes (entries bytes) jb rb) = KeepsTaken jb rb bytes (feed_call jb rb bytes)
RefusalOf (reads c) = ReadRefusal c
RefusalOf (ask k file) = ((ask_call k file).quorum ≡ 0) × ((ask_call k file).limit ≡ 0)

-- A number is answered exactly under its condition and no earlier one, and a refusal is as above.
pub record Answers (c : PublicCall) : Type 0 where
  pub numbers : (n : ℕ) → (number_of c ≡ n) ↔ Given (refusals_of c) n
  pub refused : (number_of c ≡ done → ⊥) → RefusalOf c
