-- The wrong lists that document 01 names break the promise, each by its outcome on one input that the call takes: an outcome
-- that errs there isn't what the promise says, however the version answers elsewhere. Assumes nothing.
use Prim.Native.Nat.{ℕ, ◌<◌}
use native.Mathlib.Omega.{arith}
use mathlib.Core.Path.{◌≡◌, refl, ap, ◌∙◌}
use mathlib.Core.Bool.{false, false≢true}
use mathlib.Core.List.{List, [], ◌∷◌, Memᴰ, cons≢nil}
use lib.ListN.{length, replicate}
use Rattle.words.specs.Listing.{list_of}
use Rattle.words.proofs.Worked.{two}
use Rattle.records.specs.JournalBook.{journals_of, journal_record, journal_book}
use Rattle.records.specs.RowBook.{row_book}
use Rattle.records.specs.StepBytes.{step_bytes}
use Rattle.records.specs.WordRecord.{word_record}
use Rattle.list.specs.ListCall.{Asked, Wrote, asked, due, fitting, list_call}
use Rattle.list.specs.Parts.{words_in}
use Rattle.list.proofs.Parts.{page}
use Rattle.demands.specs.Taken.{Taken}
use Rattle.demands.specs.WrittenAt.{WrittenAt}
use Rattle.demands.proofs.Taken.{taken_done}
use Rattle.demands.proofs.WorkedBooks.{worked_books}
use Rattle.demands.proofs.WrittenAt.{each_written}

module _ {js : List (List ℕ)} {a : Asked} (t : Taken js a) (o : Wrote) where
  -- A call that refuses always refuses this input too.
  pub list_refuses_always : (o.answer.number ≡ 0 → ⊥) → o ≡ list_call a → ⊥
  list_refuses_always r e = r (ap (λ (p : Wrote). p.answer.number) e ∙ taken_done t)

  -- Words reported that weren't written: of the records that the outcome reports, record i isn't the one of the word due
  -- there. The version that writes a part page rightly and reports as many words as have room errs so wherever the words
  -- end before the room does, since no word is due in the first record behind them. One that leaves a record as it was
  -- errs so unless the same bytes stood there before.
  pub list_unwritten : (i : ℕ) → i < o.answer.written → (WrittenAt a o.out i → ⊥) → o ≡ list_call a → ⊥
  list_unwritten i h u e = u (rw e (each_written t i (rw e at h)))

  -- One that writes only the empty word, though another has room: whether it reports that one word or writes it again and
  -- again, the words that it reports are all empty.
  pub list_empty_word_only : (w : List ℕ) → Memᴰ w (fitting a) → (w ≡ [] → ⊥) → ((v : List ℕ) → Memᴰ v (words_in o) → v ≡ []) → o ≡ list_call a → ⊥
  list_empty_word_only w m n k e = n (k w (rw (ap words_in e ∙ page a (taken_done t)) m))

-- Such an input: the worked books, quorum 2, length 1, from the start, into four records of other bytes. The empty word, 1
-- and 2 are due.
abbrev worked : Asked
worked = asked (journal_book two) (row_book two) 2 1 false (word_record []) (replicate 64 7)

worked_due : due worked ≡ [] ∷ (1 ∷ []) ∷ (2 ∷ []) ∷ []
unfolding journals_of journal_book journal_record step_bytes list_of
worked_due = refl

pub worked_taken : Taken two worked
unfolding step_bytes
worked_taken =
    record {
      books = worked_books;
      quorum_least = omega arith;
      quorum_most = omega arith;
      limit = omega arith;
      word_size = refl;
      word = λ y. absurd (false≢true y);
      output = record { whole = refl; least = omega arith; most = omega arith };
    }

-- The three versions, each by its outcome there: one refuses it; one reports four words, since four have room; the words
-- that one reports are all empty.
module _ (o : Wrote) where
  pub refuses_worked : (o.answer.number ≡ 0 → ⊥) → o ≡ list_call worked → ⊥
  refuses_worked = list_refuses_always worked_taken o

  pub reports_room : o.answer.written ≡ 4 → o ≡ list_call worked → ⊥
  reports_room h = list_unwritten worked_taken o 3 (omega arith) (λ w. omega (arith, w.is_due, ap length worked_due))

  pub writes_empty_word : ((v : List ℕ) → Memᴰ v (words_in o) → v ≡ []) → o ≡ list_call worked → ⊥
  writes_empty_word = list_empty_word_only worked_taken o (1 ∷ []) (rw worked_due (Memᴰ.tail (Memᴰ.head refl))) cons≢nil
