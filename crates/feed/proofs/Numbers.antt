-- The numbers of one entry, on sound books and on any. Assumes nothing.
use Prim.Native.Nat.{ℕ}
use mathlib.Core.Path.{◌≡◌, refl, sym, ap, subst, ◌∙◌}
use mathlib.Core.Bool.{true, false, cond}
use mathlib.Core.List.{List, ◌∷◌, ◌++◌}
use lib.ListN.{length}
use lib.Dec.{eqb}
use Rattle.std.specs.Prelude.{Option, Some, None}
use Rattle.words.proofs.Test.{test}
use Rattle.records.specs.JournalBook.{journal_form, journals_of}
use Rattle.records.specs.Sound.{right_sizes, sound, BooksOf}
use Rattle.records.proofs.Sound.{sound_books}
use Rattle.books.specs.Numbers.{Refusal, first, Given}
use Rattle.books.specs.Clear.{After}
use Rattle.books.specs.Open.{open_call}
use Rattle.books.specs.OpenJournals.{open_journals_refusals}
use Rattle.books.specs.Append.{append_at_call, append_call}
use Rattle.books.proofs.Refusals.{first_given}
use Rattle.entries.specs.Entry.{entry_of}
use Rattle.entries.specs.Meaning.{is_broken, entry_number}
use Rattle.entries.specs.declared.entry.Entry.{Entry}
use Rattle.entries.specs.declared.entry.Entry.TheVariants.{Append, Open, OpenAppend}
use Rattle.entries.proofs.Meaning.{Asks, asks}
use Rattle.feed.specs.Entry.{open_append, open_append_whole, enter, broken_refusal, room_refusals, entry_refusals, enter_refusals, entry_call_refusals, entry_call}
use Rattle.feed.proofs.EntryMeans.{enter_means, entry_means}

-- one entry on the books of journals: 11, 7, 5 and 6, each exactly under its condition on the journals and no earlier one
pub entry_numbers : (js : List (List ℕ)) (jb rb : List ℕ) → BooksOf js jb rb → (n s : ℕ) → Given (entry_refusals js n s) (entry_call jb rb n s).number
unfolding entry_number
entry_numbers js jb rb b n s =
    subst (Given (entry_refusals js n s)) (sym (ap (λ (a : After). a.number) (entry_means b n s))) (first_given (entry_refusals js n s))

-- those of the journal book, and then others
book_first : (jb : List ℕ) (qs : List Refusal)
    → first (open_journals_refusals jb ++ qs) ≡ cond (eqb (first (open_journals_refusals jb)) 0) (first qs) (first (open_journals_refusals jb))
book_first jb qs = test (eqb (length jb) 4096) (λ t. rw t (test (journal_form jb) (λ f. rw f) (λ f. rw f))) (λ f. rw f)

module _ (jb rb : List ℕ) where
  -- of an entry that isn't broken, wrong sizes and then damaged books are seen before anything else
  enter_size : (e : Option Entry) → right_sizes jb rb ≡ false → (enter e jb rb).number ≡ cond (is_broken e) 11 1
  unfolding enter append_call append_at_call open_call open_append open_append_whole
  enter_size None f = refl
  enter_size (Some (Append s)) f = rw f
  enter_size (Some Open) f = rw f
  enter_size (Some (OpenAppend s)) f = rw f

  enter_damaged : (e : Option Entry) → right_sizes jb rb ≡ true → sound jb rb ≡ false → (enter e jb rb).number ≡ cond (is_broken e) 11 2
  unfolding enter append_call append_at_call open_call open_append open_append_whole
  enter_damaged None t f = refl
  enter_damaged (Some (Append s)) t f = rw (t, f)
  enter_damaged (Some Open) t f = rw (t, f)
  enter_damaged (Some (OpenAppend s)) t f = rw (t, f)

  enter_sound : (e : Option Entry) → Asks (journals_of jb) e → sound jb rb ≡ true → (enter e jb rb).number ≡ first (broken_refusal e ∷ room_refusals (journals_of jb) e)
  unfolding entry_number
  enter_sound e a t = ap (λ (x : After). x.number) (enter_means (sound_books jb rb t) e a)

  enter_number : (e : Option Entry) → Asks (journals_of jb) e → (enter e jb rb).number ≡ first (enter_refusals jb rb e)
  enter_number e a =
      test (right_sizes jb rb) (λ t. test (sound jb rb) (λ u. rw (t, u) (enter_sound e a u)) (λ f. rw (t, f) (enter_damaged e t f))) (λ f. rw f (enter_size e f))

  -- one entry on any books: each number exactly under its condition and no earlier one
  pub entry_call_numbers : (n s : ℕ) → Given (entry_call_refusals jb rb n s) (entry_call jb rb n s).number
  unfolding entry_call
  entry_call_numbers n s =
      subst (Given (entry_call_refusals jb rb n s)) (book_first jb (enter_refusals jb rb asked) ∙ sym number) (first_given (entry_call_refusals jb rb n s))
    where
      asked : Option Entry
      asked = entry_of (length (journals_of jb)) n s

      number : (entry_call jb rb n s).number ≡ cond (eqb (first (open_journals_refusals jb)) 0) (first (enter_refusals jb rb asked)) (first (open_journals_refusals jb))
      number = test (eqb (first (open_journals_refusals jb)) 0) (λ t. rw t (enter_number asked (asks (journals_of jb) n s))) (λ f. rw f)
