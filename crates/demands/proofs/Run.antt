-- One call at a time: a call that is lent wrong sizes is refused and leaves the bytes lent, so that the books are what they
-- were; one that reads leaves them; one that writes leaves the books of what it means. Assumes nothing.
use Prim.Native.Nat.{ℕ, zero, suc}
use mathlib.Core.Path.{◌≡◌, refl, sym, ap, ◌∙◌}
use mathlib.Core.Bool.{false, not, false≢true}
use mathlib.Core.List.{List, [], ◌∷◌, ◌++◌}
use lib.ListN.{length, drop, take-append-drop}
use lib.Seq.{take_at, drop_at}
use lib.Dec.{eqb}
use borrow.Author.Tests.{ne_eqb, not-false}
use Rattle.std.specs.Prelude.{Option}
use Rattle.records.specs.JournalBook.{journal_form, journals_of, journal_book}
use Rattle.records.specs.RowBook.{row_book}
use Rattle.records.specs.Sizes.{journal_book_size}
use Rattle.records.specs.Sound.{right_sizes, BooksOf}
use Rattle.records.proofs.Sound.{cleared_books}
use Rattle.books.specs.Append.{append_at_call, append_call}
use Rattle.books.specs.Clear.{After, after, clear_call}
use Rattle.books.specs.Numbers.{unless, wrong_size}
use Rattle.books.specs.Open.{open_call}
use Rattle.books.specs.Rebuild.{rebuild_call}
use Rattle.books.specs.Runs.{Call, clears, opens, appends, rebuilds, called, Ran}
use Rattle.books.proofs.Refusals.{given_first, pass}
use Rattle.books.proofs.Runs.{call_keeps, Rebooked}
use Rattle.entries.specs.Entry.{entry_of}
use Rattle.entries.specs.Meaning.{means as entry_leads_to, is_broken, entry_number}
use Rattle.entries.specs.declared.entry.Entry.{Entry}
use Rattle.feed.specs.Entry.{entry_call, feed_from, feed_call}
use Rattle.feed.proofs.Entries.{entry_whole}
use Rattle.feed.proofs.EntryMeans.{entry_means, entry_books}
use Rattle.feed.proofs.FeedMeans.{feed_means}
use Rattle.feed.proofs.Numbers.{entry_call_numbers}
use Rattle.demands.specs.Calls.{Writing, calls, entry, entries, written}
use Rattle.demands.specs.Demand1.{Stay}
use Rattle.demands.specs.Lending.{Lending, whole, part, within, lent, handed_back}
use Rattle.demands.specs.Run.{Made, writes, reads, wrong_sizes, swapped, left, leads_to, meant, Reached, cleared_first, then_made}

-- lent wrong sizes, a call leaves them
module _ (x y : List ℕ) (f : right_sizes x y ≡ false) where
  size_refused : (c : Call) → called c x y ≡ after wrong_size x y
  unfolding clear_call open_call append_at_call append_call rebuild_call
  size_refused clears = rw f
  size_refused opens = rw f
  size_refused (appends s) = rw f
  size_refused rebuilds = rw f

  entry_refused : (n s : ℕ) → (entry_call x y n s).number ≡ 0 → ⊥
  entry_refused n s z =
      let p1 = pass (not (eqb (length x) journal_book_size)) 0 _ (sym (given_first (entry_call_numbers x y n s)) ∙ z) in
      let p2 = pass (not (journal_form x)) 1 _ p1.1 in
      let p3 = pass (is_broken (entry_of (length (journals_of x)) n s)) 10 _ p2.1 in
      let p4 = pass (not (right_sizes x y)) 0 _ p3.1 in
      false≢true (sym f ∙ not-false (right_sizes x y) p4.0)

  entries_stay : (bytes : List ℕ) → Stay x y (written (entries bytes) x y)
  unfolding feed_call feed_from
  entries_stay [] = (refl, refl)
  entries_stay (n ∷ []) = (refl, refl)
  entries_stay (n ∷ s ∷ rest) = rw (ne_eqb (entry_call x y n s).number 0 (entry_refused n s)) (refl, refl)

  size_stays : (c : Writing) → Stay x y (written c x y)
  size_stays (calls c) = rw (size_refused c) (refl, refl)
  size_stays (entry n s) = entry_whole x y n s (entry_refused n s)
  size_stays (entries bytes) = entries_stay bytes

-- bytes handed back as they were lent are the book
handed_back_lem : (l : Lending) (b : List ℕ) → handed_back l b (lent l b) ≡ b
handed_back_lem whole b = refl
handed_back_lem (part start size) b = rw (take-append-drop size (drop start b), take-append-drop start b)
handed_back_lem (within front behind) b = rw (drop_at front (b ++ behind) (length front) refl, take_at b behind (length b) refl)

module _ (jb rb : List ℕ) (c : Writing) where
  pub wrong_sizes_stay : (l m : Lending) (w : right_sizes (lent l jb) (lent m rb) ≡ false) → Stay jb rb (left jb rb (wrong_sizes c l m w))
  wrong_sizes_stay l m w =
      let e = size_stays (lent l jb) (lent m rb) w c in
      (ap (handed_back l jb) e.0 ∙ handed_back_lem l jb, ap (handed_back m rb) e.1 ∙ handed_back_lem m rb)

  pub swapped_stays : (w : right_sizes rb jb ≡ false) → Stay jb rb (left jb rb (swapped c w))
  swapped_stays w = let e = size_stays rb jb w c in (e.1, e.0)

-- done: the books of the new journals; refused: the old
either_books : (n : ℕ) (new js : List (List ℕ)) (jb rb : List ℕ) → BooksOf js jb rb → (n ≡ 0 → Rebooked new)
    → BooksOf (unless n new js) (unless n (journal_book new) jb) (unless n (row_book new) rb)
either_books zero new js jb rb b f = f refl
either_books (suc n) new js jb rb b f = b

module _ (js : List (List ℕ)) (jb rb : List ℕ) (b : BooksOf js jb rb) where
  write_keeps : (c : Writing) → BooksOf (leads_to c (written c jb rb).number js) (written c jb rb).journals (written c jb rb).rows
  write_keeps (calls c) = call_keeps js jb rb b c
  write_keeps (entry n s) =
      let e : Option Entry = entry_of (length js) n s in
      rw (entry_means b n s) (either_books (entry_number e js) (entry_leads_to e js) js jb rb b (entry_books b n s))
  write_keeps (entries bytes) = (feed_means js jb rb b bytes).books

  stay_keeps : (a : After) → Stay jb rb a → BooksOf js a.journals a.rows
  stay_keeps a e = rw (e.0, e.1) b

  made_keeps : (m : Made jb rb) → BooksOf (meant jb rb m js) (left jb rb m).journals (left jb rb m).rows
  made_keeps (writes c) = write_keeps c
  made_keeps (reads c) = b
  made_keeps (wrong_sizes c l m w) = stay_keeps (left jb rb (wrong_sizes c l m w)) (wrong_sizes_stay jb rb c l m w)
  made_keeps (swapped c w) = stay_keeps (left jb rb (swapped c w)) (swapped_stays jb rb c w)

-- after any run the books are those of the run's journals
pub reached_books : {r : Ran} → Reached r → BooksOf r.journals r.journal_book_is r.row_book_is
reached_books cleared_first = cleared_books
reached_books (then_made {r = r} p m) = made_keeps r.journals r.journal_book_is r.row_book_is (reached_books p) m
