-- At most 3,216 entries can be taken, since each one that is taken opens a journal or adds a step, and 16 journals of 200 steps have no room for
-- more. So bytes behind the first 6,434, those of one entry more, change nothing. Assumes nothing.
use Prim.Native.Nat.{ℕ, zero, suc, ◌+◌, ◌*◌, ◌≤◌, ◌<◌}
use native.Mathlib.Omega.{arith}
use mathlib.Core.Path.{◌≡◌, refl, sym, ap, ap₂, ◌∙◌}
use mathlib.Core.List.{List, [], ◌∷◌}
use lib.ListN.{length, take, replicate, length-append}
use lib.Dec.{eqb}
use borrow.Author.Tests.{eqb-true}
use Rattle.std.specs.Prelude.{Option, Some, None}
use Rattle.words.specs.Journals.{opened, appended_at, appended, last_of}
use Rattle.words.specs.Words.{EachJournal, AreJournals}
use Rattle.words.proofs.Journals.{length_opened}
use Rattle.words.proofs.Test.{test}
use Rattle.records.specs.Sizes.{journal_book_size, row_book_size}
use Rattle.records.specs.JournalBook.{journal_book}
use Rattle.records.specs.RowBook.{row_book}
use Rattle.entries.specs.Entry.{entry_of}
use Rattle.entries.specs.Meaning.{means, entry_number, Meant, meant_from, entries_mean}
use Rattle.entries.specs.declared.entry.Entry.{Entry}
use Rattle.entries.specs.declared.entry.Entry.TheVariants.{Append, Open, OpenAppend}
use Rattle.entries.proofs.Meaning.{Asks, asks, means_journals}
use Rattle.feed.specs.Entry.{AfterFeeding, feed_call}
use Rattle.feed.proofs.FeedMeans.{FedAs, loaded}

-- the journals and all their steps, counted together
abbrev size : List (List ℕ) → ℕ
size [] = 0
size (j ∷ js) = suc (length j + size js)

size_each : (js : List (List ℕ)) → EachJournal js → size js ≤ 201 * length js
size_each [] k = omega arith
size_each (j ∷ js) k = omega (arith, k.0.0, size_each js k.1)

size_most : (js : List (List ℕ)) → AreJournals js → size js ≤ 3216
size_most js k = omega (arith, k.few, size_each js k.each)

size_opened : (js : List (List ℕ)) → size (opened js) ≡ size js + 1
unfolding opened
size_opened [] = refl
size_opened (j ∷ js) = omega (arith, size_opened js)

size_appended : (i s : ℕ) (js : List (List ℕ)) → i < length js → size (appended_at i s js) ≡ size js + 1
size_appended i s [] h = absurd (omega arith)
size_appended zero s (j ∷ js) h = omega (arith, length-append j (s ∷ []))
size_appended (suc i) s (j ∷ js) h = omega (arith, size_appended i s js (omega arith))

module _ (js : List (List ℕ)) where
  -- an entry that is taken adds a journal or a step
  grows : (e : Option Entry) → Asks js e → entry_number e js ≡ 0 → size js < size (means e js)
  unfolding entry_number appended
  grows None a z = absurd (omega arith)
  grows (Some (Append s)) a z = omega (arith, size_appended (last_of js) s js (omega (arith, a.1)))
  grows (Some Open) a z = omega (arith, size_opened js)
  grows (Some (OpenAppend s)) a z = omega (arith, size_opened js, size_appended (last_of (opened js)) s (opened js) (omega (arith, length_opened js)))

-- with room for m entries more, only the bytes of m + 1 entries matter
enough_from : (m n i : ℕ) (js : List (List ℕ)) → AreJournals js → 3216 ≤ size js + m → 2 * m + 2 ≤ n → (entries : List ℕ)
    → meant_from i js (take n entries) ≡ meant_from i js entries
unfolding meant_from
enough_from m zero i js k h b entries = absurd (omega arith)
enough_from m (suc zero) i js k h b entries = absurd (omega arith)
enough_from m (suc (suc n)) i js k h b [] = refl
enough_from m (suc (suc n)) i js k h b (x ∷ []) = refl
enough_from zero (suc (suc n)) i js k h b (x ∷ s ∷ rest) =
    let e : Option Entry = entry_of (length js) x s in
    test (eqb (entry_number e js) 0)
    (λ t.
    let z = eqb-true (entry_number e js) 0 t in
    absurd (omega (arith, grows js e (asks js x s) z, size_most (means e js) (means_journals js k e (asks js x s) z))))
    (λ f. rw f)
enough_from (suc m) (suc (suc n)) i js k h b (x ∷ s ∷ rest) =
    let e : Option Entry = entry_of (length js) x s in
    test (eqb (entry_number e js) 0)
    (λ t.
    let z = eqb-true (entry_number e js) 0 t in
    rw t (enough_from m n (suc i) (means e js) (means_journals js k e (asks js x s) z) (omega (arith, grows js e (asks js x s) z)) (omega arith) rest))
    (λ f. rw f)

-- what the first 6,434 bytes mean is what all of them mean
enough_meant : (entries : List ℕ) → entries_mean [] (take 6434 entries) ≡ entries_mean [] entries
unfolding entries_mean
enough_meant entries = enough_from 3216 6434 0 [] (record { few = omega arith; each = tt }) (omega arith) (omega arith) entries

-- what feeding leaves where it does what m says
abbrev fed_by_lem : Meant → AfterFeeding
fed_by_lem m = record { number = m.number; taken = m.taken; journals = journal_book m.journals; rows = row_book m.journals }

fed_by : (m : Meant) (a : AfterFeeding) → FedAs m a → a ≡ fed_by_lem m
fed_by m a f =
    ap₂ (λ (n t : ℕ). record { number = n; taken = t; journals = a.journals; rows = a.rows }) f.number f.taken
    ∙ ap₂ (λ (jb rb : List ℕ). record { number = m.number; taken = m.taken; journals = jb; rows = rb }) f.books.journal_book_is f.books.row_book_is

-- fed from cleared books, the first 6,434 bytes do what all of them do
pub bytes_enough : (entries : List ℕ)
    → feed_call (replicate journal_book_size 0) (replicate row_book_size 0) (take 6434 entries) ≡ feed_call (replicate journal_book_size 0) (replicate row_book_size 0) entries
bytes_enough entries =
    fed_by _ _ (loaded (take 6434 entries)) ∙ ap fed_by_lem (enough_meant entries) ∙ sym (fed_by _ _ (loaded entries))
