-- After any run of calls from cleared books, the books are those of the journals opened and steps accepted since the last
-- clearing: each call that is done leaves the books of what it means, and a refused one leaves everything. Assumes nothing.
use Prim.Native.Nat.{ℕ, zero, suc, ◌≤◌}
use mathlib.Core.Path.{◌≡◌, refl, ap, subst}
use mathlib.Core.List.{List, [], ◌∷◌}
use lib.ListN.{length}
use Rattle.books.specs.Append.{append_refusals, append_at_call, append_call}
use Rattle.books.specs.Clear.{clear_call, zeros}
use Rattle.books.specs.Numbers.{first, unless}
use Rattle.books.specs.Open.{open_refusals, open_call}
use Rattle.books.specs.Runs.{Call, clears, called, means, Ran, run_from, cleared}
use Rattle.books.specs.Runs.{opens, appends, rebuilds}
use Rattle.records.specs.JournalBook.{journals_of, journal_book}
use Rattle.records.specs.RowBook.{row_book}
use Rattle.records.specs.Sound.{BooksOf}
use Rattle.words.specs.Journals.{opened, appended, last_of}
use Rattle.words.specs.Picture.{picture}
use Rattle.words.specs.Words.{AreJournals}
use Rattle.books.proofs.BookSizes.{both_sized}
use Rattle.books.proofs.OpenCases.{can_open}
use Rattle.books.proofs.AppendCases.{append_fits}
use Rattle.books.proofs.RebuildCases.{rebuild_keeps}
use Rattle.records.proofs.Sound.{books_journals, books_sizes, cleared_books}

-- the books of the journals
abbrev pub Rebooked : List (List ℕ) → Type 0
Rebooked js = BooksOf js (journal_book js) (row_book js)

pub books_of : (js : List (List ℕ)) → AreJournals js → length (picture js) ≤ 1000 → Rebooked js
books_of js k f = record { journals = k; fits = f; journal_book_is = refl; row_book_is = refl }

-- what is done leaves new books, what is refused the old
left : (n : ℕ) (new written js : List (List ℕ)) (jb rb : List ℕ) → written ≡ new → BooksOf js jb rb → (n ≡ 0 → Rebooked new)
    → BooksOf (unless n new js) (unless n (journal_book written) jb) (unless n (row_book written) rb)
left zero new written js jb rb e b f = rw e (f refl)
left (suc n) new written js jb rb e b f = b

module _ (js : List (List ℕ)) (jb rb : List ℕ) (b : BooksOf js jb rb) where
  opens_fits : first (open_refusals jb rb) ≡ 0 → Rebooked (opened js)
  opens_fits e = let c = can_open jb rb e in subst Rebooked (ap opened (books_journals b)) (books_of (opened (journals_of jb)) c.journals c.fits)

  appends_fits : (s : ℕ) → first (append_refusals jb rb (last_of (journals_of jb)) s) ≡ 0 → Rebooked (appended s js)
  unfolding appended
  appends_fits s e =
      let c = append_fits jb rb (last_of (journals_of jb)) s e in
      subst Rebooked (ap (appended s) (books_journals b)) (books_of (appended s (journals_of jb)) c.0 c.1)

  -- one call
  pub call_keeps : (c : Call) → BooksOf (unless (called c jb rb).number (means c js) js) (called c jb rb).journals (called c jb rb).rows
  unfolding clear_call open_call append_at_call append_call zeros appended
  call_keeps clears = let l = both_sized jb rb (books_sizes b) in rw (books_sizes b, l.0, l.1) cleared_books
  call_keeps opens = left (first (open_refusals jb rb)) (opened js) (opened (journals_of jb)) js jb rb (ap opened (books_journals b)) b opens_fits
  call_keeps (appends s) =
      left (first (append_refusals jb rb (last_of (journals_of jb)) s)) (appended s js) (appended s (journals_of jb)) js jb rb (ap (appended s) (books_journals b)) b (appends_fits s)
  call_keeps rebuilds = rw (rebuild_keeps b) b

run_keeps : (cs : List Call) (r : Ran) → BooksOf r.journals r.journal_book_is r.row_book_is
    → BooksOf (run_from r cs).journals (run_from r cs).journal_book_is (run_from r cs).row_book_is
run_keeps [] r b = b
run_keeps (c ∷ cs) r b = run_keeps cs _ (call_keeps r.journals r.journal_book_is r.row_book_is b c)

-- after any run, the books hold exactly the journals opened and steps accepted since the last clearing, and their picture
pub runs : (cs : List Call) → BooksOf (run_from cleared cs).journals (run_from cleared cs).journal_book_is (run_from cleared cs).row_book_is
runs cs = run_keeps cs cleared cleared_books
