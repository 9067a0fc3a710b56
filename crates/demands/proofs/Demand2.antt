-- Demand 2. On sound books a count says of how many journals the word is a sublist: by the table for a word of any
-- length, by the journals for one of up to 15 steps; both answer 0. After any run of calls from cleared books, done and refused,
-- those that write, an entry and a row of entries among them, those that read, and those that are lent a wrong size, the
-- books are exactly those of the journals opened and steps accepted since the last clearing. Assumes nothing.
use mathlib.Core.Path.{refl}
use Prim.Native.Nat.{ℕ, ◌≤◌}
use mathlib.Core.List.{List}
use lib.ListN.{length}
use Rattle.words.specs.Words.{IsWord}
use Rattle.words.proofs.Place.{count_counts}
use Rattle.records.specs.Sizes.{longest_word}
use Rattle.records.specs.Sound.{BooksOf}
use Rattle.records.specs.WordRecord.{word_record}
use Rattle.records.proofs.StepBytes.{steps_back, step_bytes_length, step_bytes_form}
use Rattle.books.specs.JournalCount.{journal_count_call}
use Rattle.books.specs.TableCount.{table_count_call}
use Rattle.books.proofs.Counts.{table_count_right, journal_count_right}
use Rattle.books.proofs.RebuildCases.{rebuild_keeps}
use Rattle.demands.specs.Demand2.{RightCount, Demand2}
use Rattle.demands.proofs.Run.{reached_books, wrong_sizes_stay, swapped_stays}

module _ {js : List (List ℕ)} {jb rb : List ℕ} (b : BooksOf js jb rb) (w : List ℕ) (k : IsWord w) where
  table_right : RightCount js w (table_count_call rb w)
  table_right = rw (table_count_right b w k).0 (record { number = refl; count = count_counts js w })

  journal_right : length w ≤ longest_word → RightCount js w (journal_count_call jb (word_record w))
  journal_right h =
      let r = (journal_count_right b (word_record w) (step_bytes_length longest_word w h) (step_bytes_form longest_word longest_word w k h)).0 in
      rw (r, steps_back longest_word w) (record { number = refl; count = count_counts js w })

pub demand_2 : Demand2
demand_2 = record {
  by_table = λ b w k. table_right b w k;
  by_journals = λ b w k h. journal_right b w k h;
  after_runs = λ p. reached_books p;
  rebuilding = λ p. rebuild_keeps (reached_books p);
  reading = λ jb rb c. (refl, refl);
  wrongly_lent = λ jb rb c l m w. wrong_sizes_stay jb rb c l m w;
  in_each_others_place = λ jb rb c w. swapped_stays jb rb c w;
}
