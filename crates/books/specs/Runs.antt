-- Runs of calls from cleared books. Assumes nothing.
use Rattle.std.specs.Prelude.{ℕ, List, [], ◌∷◌, replicate}
use Rattle.words.specs.Journals.{opened, appended, last_of}
use Rattle.records.specs.Sizes.{journal_book_size, row_book_size}
use Rattle.records.specs.JournalBook.{journals_of}
use Rattle.books.specs.Numbers.{Refusal, unless}
use Rattle.books.specs.Clear.{After, clear_refusals, clear_call}
use Rattle.books.specs.Open.{open_refusals, open_call}
use Rattle.books.specs.Append.{append_refusals, append_call}
use Rattle.books.specs.Rebuild.{rebuild_refusals, rebuild_call}

-- the calls that are lent a book to write: both, or for rebuild the row book; every other call is lent them to read
pub data Call : Type 0 where
  clears : Call
  opens : Call
  appends : ℕ → Call
  rebuilds : Call

-- what a call answers, and the books after it
abbrev pub called : Call → List ℕ → List ℕ → After
called clears jb rb = clear_call jb rb
called opens jb rb = open_call jb rb
called (appends s) jb rb = append_call jb rb s
called rebuilds jb rb = rebuild_call jb rb

-- the conditions of its numbers, in their order
abbrev pub refusals : Call → List ℕ → List ℕ → List Refusal
refusals clears jb rb = clear_refusals jb rb
refusals opens jb rb = open_refusals jb rb
refusals (appends s) jb rb = append_refusals jb rb (last_of (journals_of jb)) s
refusals rebuilds jb rb = rebuild_refusals jb rb

-- what a call that is done means for the journals
abbrev pub means : Call → List (List ℕ) → List (List ℕ)
means clears js = []
means opens js = opened js
means (appends s) js = appended s js
means rebuilds js = js

-- the books after a run of calls, and the journals opened and steps accepted since the last clearing:
-- a call that answers 0 is taken, any other changes nothing
pub record Ran : Type 0 where
  pub journal_book_is : List ℕ
  pub row_book_is : List ℕ
  pub journals : List (List ℕ)

abbrev pub run_from : Ran → List Call → Ran
run_from r [] = r
run_from r (c ∷ cs) =
    let a : After = called c r.journal_book_is r.row_book_is in
    run_from (record { journal_book_is = a.journals; row_book_is = a.rows; journals = unless a.number (means c r.journals) r.journals }) cs

-- cleared books: every byte is zero, and there is no journal
abbrev pub cleared : Ran
cleared = record { journal_book_is = replicate journal_book_size 0; row_book_is = replicate row_book_size 0; journals = [] }
