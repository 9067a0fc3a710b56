-- On the books of journals, one entry does what it means: its number is the one that the journals alone give, and where that is 0 it
-- leaves the books of the journals that it leads to. Assumes nothing.
use Prim.Native.Nat.{ℕ, zero, suc, ◌≤◌, ◌<◌}
use native.Mathlib.Omega.{arith}
use mathlib.Core.Path.{◌≡◌, refl, sym, ap, ◌∙◌}
use mathlib.Core.Bool.{true, false}
use mathlib.Core.List.{List}
use lib.ListN.{length}
use lib.Dec.{leb}
use borrow.Author.Tests.{lt-leb, le-ltb, leb-false}
use Rattle.std.specs.Prelude.{Option, Some, None}
use Rattle.words.specs.Journals.{opened, appended, last_of}
use Rattle.words.specs.Picture.{picture}
use Rattle.words.proofs.Journals.{length_opened, opened_journals}
use Rattle.words.proofs.Opening.{never_more}
use Rattle.words.proofs.Place.{short}
use Rattle.words.proofs.Test.{test}
use Rattle.records.specs.JournalBook.{journal_book}
use Rattle.records.specs.RowBook.{row_book}
use Rattle.records.specs.Sound.{BooksOf}
use Rattle.records.proofs.Sound.{books_journals, books_sizes, books_sound}
use Rattle.books.specs.Numbers.{first, unless}
use Rattle.books.specs.Clear.{After, after, leaves}
use Rattle.books.specs.Write.{written}
use Rattle.books.specs.Open.{open_call}
use Rattle.books.specs.Append.{append_at_call, append_call}
use Rattle.books.specs.OpenJournals.{open_journals_refusals, open_journals_call}
use Rattle.books.specs.OpenJournals.{OpenJournals}
use Rattle.books.proofs.Runs.{Rebooked, books_of}
use Rattle.books.proofs.OpenJournalsCases.{open_books}
use Rattle.entries.specs.Entry.{entry_of}
use Rattle.entries.specs.Meaning.{means, entry_number}
use Rattle.entries.specs.declared.entry.Entry.{Entry}
use Rattle.entries.specs.declared.entry.Entry.TheVariants.{Append, Open, OpenAppend}
use Rattle.entries.proofs.Meaning.{Asks, asks, last_opened, means_fits, means_journals}
use Rattle.feed.specs.Entry.{open_append, open_append_whole, enter, entry_call}
use Rattle.feed.proofs.EntryCases.{opening_done, whole_unopened}

module _ {js : List (List ℕ)} {jb rb : List ℕ} (b : BooksOf js jb rb) where
  append_means : (s : ℕ) → s < 16 → 1 ≤ length js → append_call jb rb s ≡ written (entry_number (Some (Append s)) js) (appended s js) jb rb
  unfolding append_call append_at_call appended entry_number
  append_means s c k = rw (books_journals b, books_sizes b, books_sound b, lt-leb 16 s c, lt-leb (length js) (last_of js) (omega arith))

  -- opening never passes 1,000 rows
  opened_fits : length (picture (opened js)) ≤ 1000
  opened_fits = omega (arith, never_more js (short js b.journals.each), b.fits)

  open_means : open_call jb rb ≡ written (entry_number (Some Open) js) (opened js) jb rb
  unfolding open_call entry_number
  open_means = rw (books_journals b, books_sizes b, books_sound b, le-ltb 1000 (length (picture (opened js))) opened_fits)

-- what was written over new books and is then left whole or not at all
whole_left : (m : ℕ) (ks : List (List ℕ)) (oj or jb rb : List ℕ)
    → leaves m (unless m (journal_book ks) oj) (unless m (row_book ks) or) jb rb ≡ written m ks jb rb
whole_left zero ks oj or jb rb = refl
whole_left (suc m) ks oj or jb rb = refl

module _ {js : List (List ℕ)} {jb rb : List ℕ} (b : BooksOf js jb rb) where
  -- with 16 journals open, both are refused
  whole_full : (s : ℕ) → leb 16 (length js) ≡ true → open_append_whole jb rb s ≡ written (entry_number (Some (OpenAppend s)) js) (means (Some (OpenAppend s)) js) jb rb
  unfolding entry_number
  whole_full s t =
      let no : open_call jb rb ≡ after 7 jb rb = open_means b ∙ rw t in
      rw t (whole_unopened jb rb s 7 (λ z. omega arith) (sym no))

  -- with room, the append to the journal just opened decides
  module _ (f : leb 16 (length js) ≡ false) where
    there : Rebooked (opened js)
    there = books_of (opened js) (opened_journals js b.journals (leb-false 16 (length js) f)) (opened_fits b)

    opens : open_call jb rb ≡ after 0 (journal_book (opened js)) (row_book (opened js))
    unfolding entry_number
    opens = open_means b ∙ rw (f, le-ltb 1000 (length (picture (opened js))) (opened_fits b))

    both : (s : ℕ) → s < 16
        → open_append jb rb s ≡ written (entry_number (Some (Append s)) (opened js)) (appended s (opened js)) (journal_book (opened js)) (row_book (opened js))
    both s c =
        sym (opening_done jb rb s 0 (journal_book (opened js)) (row_book (opened js)) (sym opens) refl)
        ∙ append_means there s c (omega (arith, length_opened js))

    same_number : (s : ℕ) → entry_number (Some (Append s)) (opened js) ≡ entry_number (Some (OpenAppend s)) js
    unfolding entry_number
    same_number s = rw (last_opened js, f)

    whole_free : (s : ℕ) → s < 16 → open_append_whole jb rb s ≡ written (entry_number (Some (OpenAppend s)) js) (means (Some (OpenAppend s)) js) jb rb
    unfolding open_append_whole
    whole_free s c =
        ap (λ (a : After). leaves a.number a.journals a.rows jb rb) (both s c)
        ∙ whole_left (entry_number (Some (Append s)) (opened js)) (appended s (opened js)) (journal_book (opened js)) (row_book (opened js)) jb rb
        ∙ ap (λ (m : ℕ). written m (appended s (opened js)) jb rb) (same_number s)

  -- what is asked for
  pub enter_means : (e : Option Entry) → Asks js e → enter e jb rb ≡ written (entry_number e js) (means e js) jb rb
  unfolding enter entry_number
  enter_means None a = refl
  enter_means (Some (Append s)) a = append_means b s a.0 a.1
  enter_means (Some Open) a = open_means b
  enter_means (Some (OpenAppend s)) a = test (leb 16 (length js)) (whole_full s) (λ f. whole_free f s a)

  told : first (open_journals_refusals jb) ≡ 0
  unfolding open_journals_call
  told = ap (λ (o : OpenJournals). o.number) (open_books b)

  -- one entry: its number is the one that the journals alone give, and done it leaves the books of what it means
  pub entry_means : (n s : ℕ)
      → entry_call jb rb n s ≡ written (entry_number (entry_of (length js) n s) js) (means (entry_of (length js) n s) js) jb rb
  unfolding entry_call
  entry_means n s = rw (told, books_journals b) (enter_means (entry_of (length js) n s) (asks js n s))

  -- done, it leaves the books of journals
  pub entry_books : (n s : ℕ) → entry_number (entry_of (length js) n s) js ≡ 0 → Rebooked (means (entry_of (length js) n s) js)
  entry_books n s z =
      let e : Option Entry = entry_of (length js) n s in
      books_of (means e js) (means_journals js b.journals e (asks js n s) z) (means_fits js e z)
