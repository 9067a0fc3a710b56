-- On the books of journals, a row of entries does what it means: as many entries are taken and the number is the same as by the
-- journals alone, and the books left are exactly those of the journals led to. Assumes nothing.
use Prim.Native.Nat.{ℕ, suc}
use mathlib.Core.Path.{◌≡◌, refl, ap, ◌∙◌}
use mathlib.Core.List.{List, [], ◌∷◌}
use lib.ListN.{length, replicate}
use lib.Dec.{eqb}
use borrow.Author.Tests.{eqb-true}
use Rattle.std.specs.Prelude.{Option}
use Rattle.words.proofs.Test.{test}
use Rattle.records.specs.Sizes.{journal_book_size, row_book_size}
use Rattle.records.specs.JournalBook.{journal_book}
use Rattle.records.specs.RowBook.{row_book}
use Rattle.records.specs.Sound.{BooksOf}
use Rattle.records.proofs.Sound.{cleared_books}
use Rattle.books.specs.Clear.{after}
use Rattle.books.specs.Write.{written}
use Rattle.entries.specs.Entry.{entry_of}
use Rattle.entries.specs.Meaning.{means, entry_number, Meant, meant_from, entries_mean}
use Rattle.entries.specs.declared.entry.Entry.{Entry}
use Rattle.feed.specs.Entry.{AfterFeeding, entry_call, feed_from, feed_call}
use Rattle.feed.proofs.EntryMeans.{entry_means, entry_books}

-- the number and how many were taken are those meant, and the books are those of the journals meant
pub record FedAs (m : Meant) (a : AfterFeeding) : Type 0 where
  pub number : a.number ≡ m.number
  pub taken : a.taken ≡ m.taken
  pub books : BooksOf m.journals a.journals a.rows

from_means : (i : ℕ) (js : List (List ℕ)) (jb rb : List ℕ) → BooksOf js jb rb → (entries : List ℕ) → FedAs (meant_from i js entries) (feed_from i jb rb entries)
unfolding meant_from feed_from
from_means i js jb rb b [] = record { number = refl; taken = refl; books = b }
from_means i js jb rb b (n ∷ []) = record { number = refl; taken = refl; books = b }
from_means i js jb rb b (n ∷ s ∷ rest) =
    let e : Option Entry = entry_of (length js) n s in
    test (eqb (entry_number e js) 0)
    (λ t.
    let z = eqb-true (entry_number e js) 0 t in
    let done : entry_call jb rb n s ≡ after 0 (journal_book (means e js)) (row_book (means e js)) = entry_means b n s ∙ ap (λ (m : ℕ). written m (means e js) jb rb) z in
    rw (done, t) (from_means (suc i) (means e js) (journal_book (means e js)) (row_book (means e js)) (entry_books b n s z) rest))
    (λ f. rw (entry_means b n s, f) (record { number = refl; taken = refl; books = b }))

-- from the books of the journals js
pub feed_means : (js : List (List ℕ)) (jb rb : List ℕ) → BooksOf js jb rb → (entries : List ℕ) → FedAs (entries_mean js entries) (feed_call jb rb entries)
unfolding entries_mean feed_call
feed_means js jb rb b entries = from_means 0 js jb rb b entries

-- from cleared books, as the program has them
pub loaded : (entries : List ℕ) → FedAs (entries_mean [] entries) (feed_call (replicate journal_book_size 0) (replicate row_book_size 0) entries)
loaded entries = feed_means [] (replicate journal_book_size 0) (replicate row_book_size 0) cleared_books entries
