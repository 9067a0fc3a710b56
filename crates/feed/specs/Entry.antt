-- The loading program's entries: what one does to the books, or the number that it is refused with, and what a row of them does. Assumes nothing.
use Rattle.std.specs.Prelude.{ℕ, suc, cond, not, List, [], ◌∷◌, ◌++◌, length, eqb, Option, Some, None, Result, Ok, Err}
use Rattle.books.specs.Numbers.{Refusal, first, done, wrong_size, damaged, journal_full, rows_full, journals_full, broken_entry}
use Rattle.records.specs.JournalBook.{journals_of}
use Rattle.records.specs.Sound.{right_sizes, sound}
use Rattle.books.specs.Clear.{After, after, leaves}
use Rattle.entries.specs.Entry.{entry_of}
use Rattle.entries.specs.Meaning.{is_broken, none_free, last_full, rows_passed}
use Rattle.entries.specs.declared.entry.Entry.{Entry}
use Rattle.entries.specs.declared.entry.Entry.TheVariants.{Append, Open, OpenAppend}
use Rattle.entries.specs.declared.reader.LoneByte.{LoneByte}
use Rattle.books.specs.Answers.{number_of}
use Rattle.feed.specs.declared.RefusedEntry.{RefusedEntry}
use Rattle.books.specs.Open.{open_call}
use Rattle.books.specs.Append.{append_call}
use Rattle.books.specs.OpenJournals.{open_journals_refusals}

-- opening, and appending where that is done
unfoldable pub open_append : List ℕ → List ℕ → ℕ → After
open_append jb rb s =
    let o : After = open_call jb rb in
    let a : After = append_call o.journals o.rows s in
    cond (eqb o.number done) a o

-- both, or neither where one of them is refused
unfoldable pub open_append_whole : List ℕ → List ℕ → ℕ → After
open_append_whole jb rb s = let a : After = open_append jb rb s in leaves a.number a.journals a.rows jb rb

unfoldable pub enter : Option Entry → List ℕ → List ℕ → After
enter None jb rb = after broken_entry jb rb
enter (Some (Append s)) jb rb = append_call jb rb s
enter (Some Open) jb rb = open_call jb rb
enter (Some (OpenAppend s)) jb rb = open_append_whole jb rb s

-- 11: the entry is broken
abbrev pub broken_refusal : Option Entry → Refusal
broken_refusal e = record { holds = is_broken e; number = broken_entry }

-- 7, 5, 6, by the journals alone
abbrev pub room_refusals : List (List ℕ) → Option Entry → List Refusal
room_refusals js e =
    record { holds = none_free e js; number = journals_full }
    ∷ record { holds = last_full e js; number = journal_full }
    ∷ record { holds = rows_passed e js; number = rows_full }
    ∷ []

-- one entry on the books of the journals js: 11, 7, 5, 6
abbrev pub entry_refusals : List (List ℕ) → ℕ → ℕ → List Refusal
entry_refusals js n s = let e : Option Entry = entry_of (length js) n s in broken_refusal e ∷ room_refusals js e

-- what an entry asks for, on any books: 11, then 1 and 2 of both books, then 7, 5, 6
abbrev pub enter_refusals : List ℕ → List ℕ → Option Entry → List Refusal
enter_refusals jb rb e =
    broken_refusal e
    ∷ record { holds = not (right_sizes jb rb); number = wrong_size }
    ∷ record { holds = not (sound jb rb); number = damaged }
    ∷ room_refusals (journals_of jb) e

-- one entry on any books: 1 and 2 of the journal book come first, since k is read there
abbrev pub entry_call_refusals : List ℕ → List ℕ → ℕ → ℕ → List Refusal
entry_call_refusals jb rb n s = open_journals_refusals jb ++ enter_refusals jb rb (entry_of (length (journals_of jb)) n s)

-- one entry: a journal number and a step; a journal book that isn't one is refused as the number of its open journals is
unfoldable pub entry_call : List ℕ → List ℕ → ℕ → ℕ → After
entry_call jb rb n s =
    let number : ℕ = first (open_journals_refusals jb) in
    let entered : After = enter (entry_of (length (journals_of jb)) n s) jb rb in
    cond (eqb number done) entered (after number jb rb)

-- what was read: an entry, or a lone last byte, which is broken
abbrev pub take_call : List ℕ → List ℕ → Result (ℕ × ℕ) LoneByte → After
take_call jb rb (Ok e) = entry_call jb rb e.0 e.1
take_call jb rb (Err e) = after broken_entry jb rb

-- what a row of entries leaves: how many were taken, and the number of the refusal that ended it, or 0
pub record AfterFeeding : Type 0 where
  pub number : ℕ
  pub taken : ℕ
  pub journals : List ℕ
  pub rows : List ℕ

-- the code's answer, and both books
abbrev pub fed : Result ℕ RefusedEntry → List ℕ → List ℕ → AfterFeeding
fed (Ok n) jb rb = record { number = done; taken = n; journals = jb; rows = rb }
fed (Err e) jb rb = record { number = number_of e.refused; taken = e.taken; journals = jb; rows = rb }

-- the entries in their order, until one is refused; half an entry at the end is broken
unfoldable pub feed_from : ℕ → List ℕ → List ℕ → List ℕ → AfterFeeding
feed_from i jb rb [] = record { number = done; taken = i; journals = jb; rows = rb }
feed_from i jb rb (n ∷ []) = record { number = broken_entry; taken = i; journals = jb; rows = rb }
feed_from i jb rb (n ∷ s ∷ rest) =
    let a : After = entry_call jb rb n s in
    let on : AfterFeeding = feed_from (suc i) a.journals a.rows rest in
    cond (eqb a.number done) on (record { number = a.number; taken = i; journals = jb; rows = rb })

unfoldable pub feed_call : List ℕ → List ℕ → List ℕ → AfterFeeding
feed_call jb rb entries = feed_from 0 jb rb entries
