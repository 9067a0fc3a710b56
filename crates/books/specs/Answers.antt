-- What the code's answers say in document 01's numbers: each case of an answer has its number and its values. Assumes nothing.
use Rattle.std.specs.Prelude.{ℕ, Result, Ok, Err}
use Rattle.books.specs.Numbers.{done, wrong_size, damaged, wrong_step, no_journal, journal_full, rows_full, journals_full, wrong_quorum, wrong_length, wrong_word, broken_entry, wrong_ask, wrong_row}
use Rattle.books.specs.Check.{Checked, checked}
use Rattle.books.specs.TableCount.{Counted}
use Rattle.books.specs.OpenJournals.{OpenJournals}
use Rattle.books.specs.LiveRows.{LiveRows}
use Rattle.books.specs.declared.refused.Refused.{Refused}
use Rattle.books.specs.declared.refused.Refused.TheVariants.{WrongSize, Damaged, WrongStep, NoJournal, JournalFull, RowsFull, JournalsFull, WrongQuorum, WrongLength, WrongWord, BrokenEntry, WrongAsk, WrongRow}
use Rattle.books.specs.declared.fault.Fault.{Fault}
use Rattle.books.specs.declared.fault.Fault.TheVariants.{WrongSizes, Journal, Row}

-- each refusal's number
abbrev pub number_of : Refused → ℕ
number_of WrongSize = wrong_size
number_of Damaged = damaged
number_of WrongStep = wrong_step
number_of NoJournal = no_journal
number_of JournalFull = journal_full
number_of RowsFull = rows_full
number_of JournalsFull = journals_full
number_of WrongQuorum = wrong_quorum
number_of WrongLength = wrong_length
number_of WrongWord = wrong_word
number_of BrokenEntry = broken_entry
number_of WrongAsk = wrong_ask
number_of WrongRow = wrong_row

-- the number of an answer, whatever else it says
abbrev pub number_in : {A : Type 0} → Result A Refused → ℕ
number_in (Ok x) = done
number_in (Err e) = number_of e

-- a count
abbrev pub counted_in : Result ℕ Refused → Counted
counted_in (Ok c) = record { number = done; count = c }
counted_in (Err e) = record { number = number_of e; count = 0 }

-- how many journals are open
abbrev pub open_journals_in : Result ℕ Refused → OpenJournals
open_journals_in (Ok k) = record { number = done; journals = k }
open_journals_in (Err e) = record { number = number_of e; journals = 0 }

-- how many live rows there are
abbrev pub live_rows_in : Result ℕ Refused → LiveRows
live_rows_in (Ok r) = record { number = done; rows = r }
live_rows_in (Err e) = record { number = number_of e; rows = 0 }

-- where the check finds the books wrong: the book, the record in it and the byte in that
abbrev pub fault_at : Fault → Checked
fault_at WrongSizes = checked wrong_size 0 0 0
fault_at (Journal r) = checked damaged 1 r 0
fault_at (Row r b) = checked damaged 2 r b

-- what the check says, whatever else an answer tells of books that are right
abbrev pub checked_in : {A : Type 0} → Result A Fault → Checked
checked_in (Ok x) = checked done 0 0 0
checked_in (Err f) = fault_at f

-- what another call is refused with where the books are wrong
abbrev pub refused_by : Fault → Refused
refused_by WrongSizes = WrongSize
refused_by (Journal r) = Damaged
refused_by (Row r b) = Damaged
