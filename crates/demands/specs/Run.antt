-- Runs from cleared books, of every call that can be made on them. Assumes nothing.
use Rattle.std.specs.Prelude.{ℕ, ◌≡◌, false, List, length}
use Rattle.records.specs.Sound.{right_sizes}
use Rattle.books.specs.Clear.{After, after}
use Rattle.books.specs.Numbers.{unless}
use Rattle.books.specs.Runs.{means, Ran, cleared}
use Rattle.entries.specs.Entry.{entry_of}
use Rattle.entries.specs.Meaning.{means as entry_means, entries_mean}
use Rattle.demands.specs.Calls.{Reading, read_number, Writing, calls, entry, entries, written}
use Rattle.demands.specs.Lending.{Lending, lent, handed_back}

-- One call, made where the books are jb and rb.
pub data Made (jb rb : List ℕ) : Type 0 where
  -- a call that writes, lent both books
  writes : Writing → Made jb rb
  -- a call that reads, given these books or any other bytes
  reads : Reading → Made jb rb
  -- one that is lent something else of the books: not both sizes are right
  wrong_sizes : Writing → (l m : Lending) → right_sizes (lent l jb) (lent m rb) ≡ false → Made jb rb
  -- lent each book in the other's place
  swapped : Writing → right_sizes rb jb ≡ false → Made jb rb

-- Its number, and both books after it. What is lent only to be read stays by the language's own rule; all else is what the
-- call's definition leaves of the bytes it was lent.
abbrev pub left : (jb rb : List ℕ) → Made jb rb → After
left jb rb (writes c) = written c jb rb
left jb rb (reads c) = after (read_number c) jb rb
left jb rb (wrong_sizes c l m w) =
    let a : After = written c (lent l jb) (lent m rb) in
    after a.number (handed_back l jb a.journals) (handed_back m rb a.rows)
left jb rb (swapped c w) = let a : After = written c rb jb in after a.number a.rows a.journals

-- The journals after a call that writes, by its number: with 0 it is taken, with any other they are what they were. A row of
-- entries leads as far as its entries are taken.
abbrev pub leads_to : Writing → ℕ → List (List ℕ) → List (List ℕ)
leads_to (calls c) number js = unless number (means c js) js
leads_to (entry n s) number js = unless number (entry_means (entry_of (length js) n s) js) js
leads_to (entries bytes) number js = (entries_mean js bytes).journals

-- the journals after a call: none but a call that is lent both books opens a journal or accepts a step
abbrev pub meant : (jb rb : List ℕ) → Made jb rb → List (List ℕ) → List (List ℕ)
meant jb rb (writes c) js = leads_to c (written c jb rb).number js
meant jb rb (reads c) js = js
meant jb rb (wrong_sizes c l m w) js = js
meant jb rb (swapped c w) js = js

-- one call more
abbrev pub one_call_more : (r : Ran) → Made r.journal_book_is r.row_book_is → Ran
one_call_more r m =
    let a : After = left r.journal_book_is r.row_book_is m in
    record { journal_book_is = a.journals; row_book_is = a.rows; journals = meant r.journal_book_is r.row_book_is m r.journals }

-- what a run of calls from cleared books leads to
pub data Reached : Ran → Type 0 where
  cleared_first : Reached cleared
  then_made : {r : Ran} → Reached r → (m : Made r.journal_book_is r.row_book_is) → Reached (one_call_more r m)
