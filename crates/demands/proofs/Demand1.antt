-- Demand 1. Every public call, on every input, answers a number exactly under that number's condition and no earlier one, and 0
-- where none holds. A refusal says zero and "no" in all else that it answers, and leaves every byte that it was lent; the check says
-- where the books are wrong, and a row of entries keeps those taken and answers how many. Assumes nothing.
use Prim.Native.Nat.{ℕ}
use mathlib.Core.Path.{◌≡◌, sym, subst, ◌∙◌}
use mathlib.Core.Logic.{◌↔◌}
use mathlib.Core.List.{List}
use Rattle.books.specs.Numbers.{Refusal, first, Given, done}
use Rattle.books.proofs.Checks.{check_numbers, check_verdict}
use Rattle.books.proofs.Refusals.{first_given, given_first, call_numbers, call_refused, table_count_numbers, table_count_refused, journal_count_numbers, journal_count_refused, open_journals_numbers, open_journals_refused, live_rows_numbers, live_rows_refused, row_record_numbers, row_record_refused}
use Rattle.list.proofs.Numbers.{list_numbers, list_refused}
use Rattle.feed.proofs.Entries.{entry_whole}
use Rattle.feed.proofs.Numbers.{entry_call_numbers}
use Rattle.ask.proofs.Numbers.{ask_numbers, ask_refused}
use Rattle.demands.specs.Calls.{Reading, table_count, journal_count, check, row_record, row_record_number, open_journals, live_rows, list}
use Rattle.demands.specs.Calls.{Writing, calls, entry, entries, PublicCall, writes, reads, ask, read_number, written, number_of, read_refusals, write_refusals, refusals_of}
use Rattle.demands.specs.Demand1.{ReadRefusal, RefusalOf, Answers}
use Rattle.demands.proofs.EntriesNumbers.{entries_number}
use Rattle.demands.proofs.KeepsTaken.{keeps_taken}

-- the number is the first whose condition holds
read_first : (c : Reading) → read_number c ≡ first (read_refusals c)
read_first (table_count rb w) = given_first (table_count_numbers rb w)
read_first (journal_count jb r) = given_first (journal_count_numbers jb r)
read_first (check jb rb) = given_first (check_numbers jb rb)
read_first (row_record rb r) = given_first (row_record_numbers rb r)
read_first (row_record_number rb r) = given_first (row_record_numbers rb r)
read_first (open_journals jb) = given_first (open_journals_numbers jb)
read_first (live_rows jb rb) = given_first (live_rows_numbers jb rb)
read_first (list a) = given_first (list_numbers a)

write_first : (c : Writing) (jb rb : List ℕ) → (written c jb rb).number ≡ first (write_refusals c jb rb)
write_first (calls c) jb rb = given_first (call_numbers c jb rb)
write_first (entry n s) jb rb = given_first (entry_call_numbers jb rb n s)
write_first (entries bytes) jb rb = entries_number jb rb bytes

number_first : (c : PublicCall) → number_of c ≡ first (refusals_of c)
number_first (writes c jb rb) = write_first c jb rb
number_first (reads c) = read_first c
number_first (ask k file) = given_first (ask_numbers k file)

read_refusal : (c : Reading) → (read_number c ≡ done → ⊥) → ReadRefusal c
read_refusal (table_count rb w) h = table_count_refused rb w h
read_refusal (journal_count jb r) h = journal_count_refused jb r h
read_refusal (check jb rb) h = check_verdict jb rb
read_refusal (row_record rb r) h = row_record_refused rb r h
read_refusal (row_record_number rb r) h = tt
read_refusal (open_journals jb) h = open_journals_refused jb h
read_refusal (live_rows jb rb) h = live_rows_refused jb rb h
read_refusal (list a) h = list_refused a h

refusal : (c : PublicCall) → (number_of c ≡ done → ⊥) → RefusalOf c
refusal (writes (calls c) jb rb) h = call_refused c jb rb h
refusal (writes (entry n s) jb rb) h = entry_whole jb rb n s h
refusal (writes (entries bytes) jb rb) h = keeps_taken jb rb bytes
refusal (reads c) h = read_refusal c h
refusal (ask k file) h = ask_refused k file h

-- a number that is the first whose condition holds is given, and no other is
exactly : (rs : List Refusal) (m : ℕ) → m ≡ first rs → (n : ℕ) → (m ≡ n) ↔ Given rs n
exactly rs m e n = (λ i. subst (Given rs) (sym e ∙ i) (first_given rs), λ g. e ∙ sym (given_first g))

pub demand_1 : (c : PublicCall) → Answers c
demand_1 c = record { numbers = exactly (refusals_of c) (number_of c) (number_first c); refused = refusal c }
