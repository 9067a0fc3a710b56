-- What demand 2 says of the counts and of the books. Assumes nothing.
use Rattle.std.specs.Prelude.{ℕ, ◌≤◌, ◌≡◌, false, List, length}
use Rattle.words.specs.Words.{IsWord, Counts}
use Rattle.records.specs.Sizes.{longest_word}
use Rattle.records.specs.Sound.{right_sizes, BooksOf}
use Rattle.records.specs.WordRecord.{word_record}
use Rattle.books.specs.Clear.{after}
use Rattle.books.specs.JournalCount.{journal_count_call}
use Rattle.books.specs.Numbers.{done}
use Rattle.books.specs.Rebuild.{rebuild_call}
use Rattle.books.specs.Runs.{Ran}
use Rattle.books.specs.TableCount.{table_count_call}
use Rattle.books.specs.TableCount.{Counted}
use Rattle.demands.specs.Calls.{Reading, Writing}
use Rattle.demands.specs.Demand1.{Stay}
use Rattle.demands.specs.Lending.{Lending, lent}
use Rattle.demands.specs.Run.{reads, wrong_sizes, swapped, left, Reached}

-- a count that is done, and is the number of the journals that have the word in them
pub record RightCount (js : List (List ℕ)) (w : List ℕ) (c : Counted) : Type 0 where
  pub number : c.number ≡ done
  pub count : Counts w js c.count

pub record Demand2 : Type 0 where
  -- on sound books both counts are right: by the table for every word, by the journals for every word that a record holds
  pub by_table : {js : List (List ℕ)} {jb rb : List ℕ} → BooksOf js jb rb → (w : List ℕ) → IsWord w → RightCount js w (table_count_call rb w)
  pub by_journals : {js : List (List ℕ)} {jb rb : List ℕ} → BooksOf js jb rb → (w : List ℕ) → IsWord w → length w ≤ longest_word
      → RightCount js w (journal_count_call jb (word_record w))
  -- after any run the books are those of the journals opened and steps accepted since the last clearing
  pub after_runs : {r : Ran} → Reached r → BooksOf r.journals r.journal_book_is r.row_book_is
  -- and rebuild is done there, and finds nothing to change
  pub rebuilding : {r : Ran} → Reached r → rebuild_call r.journal_book_is r.row_book_is ≡ after done r.journal_book_is r.row_book_is
  -- of these calls, what only reads and what is lent wrong sizes changes neither book
  pub reading : (jb rb : List ℕ) (c : Reading) → Stay jb rb (left jb rb (reads c))
  pub wrongly_lent : (jb rb : List ℕ) (c : Writing) (l m : Lending) (w : right_sizes (lent l jb) (lent m rb) ≡ false)
      → Stay jb rb (left jb rb (wrong_sizes c l m w))
  pub in_each_others_place : (jb rb : List ℕ) (c : Writing) (w : right_sizes rb jb ≡ false) → Stay jb rb (left jb rb (swapped c w))
