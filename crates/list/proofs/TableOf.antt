-- On sound books the table count is the number of journals that a word is in: it falls along an extension, the list by it is the list of the
-- journals, and the empty word's is the number of journals. What is no word is refused, and has the count 0. Assumes nothing.
use Prim.Native.Nat.{ℕ, ◌≤◌}
use native.Mathlib.Omega.{arith}
use mathlib.Core.Path.{◌≡◌, refl, sym, ap, subst, ◌∙◌}
use mathlib.Core.Bool.{true, false}
use mathlib.Core.List.{List, [], ◌∷◌, ◌++◌}
use lib.ListN.{length}
use Rattle.words.specs.Words.{IsWord, count}
use Rattle.words.specs.Listing.{list_of, Shared, Falling}
use Rattle.words.proofs.Dictionary.{list_ascending, list_members, list_unique}
use Rattle.words.proofs.Falls.{count_falls}
use Rattle.words.proofs.Test.{test}
use Rattle.records.specs.Bytes.{all_below}
use Rattle.records.specs.JournalBook.{journals_of}
use Rattle.records.specs.Sound.{sound}
use Rattle.records.proofs.Sound.{sound_books}
use Rattle.records.proofs.Tests.{below_word}
use Rattle.books.specs.TableCount.{Counted}
use Rattle.books.proofs.BookSizes.{both_sized}
use Rattle.books.proofs.Checks.{sound_sizes}
use Rattle.books.proofs.Counts.{table_count_right}
use Rattle.books.proofs.TableCountCases.{count_step}
use Rattle.next_word.specs.Next.{table_of}

-- a word's front is a word
front_word : (w v : List ℕ) → IsWord (w ++ v) → IsWord w
front_word [] v k = tt
front_word (s ∷ w) v k = (k.0, front_word w v k.1)

-- the empty word is in every journal
count_empty : (js : List (List ℕ)) → count js [] ≡ length js
count_empty [] = refl
count_empty (j ∷ js) = let e = count_empty js in omega arith

module _ (jb rb : List ℕ) (t : sound jb rb ≡ true) where
  abbrev js : List (List ℕ)
  js = journals_of jb

  table_word : (w : List ℕ) → IsWord w → table_of rb w ≡ count js w
  unfolding table_of
  table_word w k = ap (λ (c : Counted). c.count) (table_count_right (sound_books jb rb t) w k).0

  table_no_word : (w : List ℕ) → all_below 16 w ≡ false → table_of rb w ≡ 0
  unfolding table_of
  table_no_word w f = ap (λ (c : Counted). c.count) (count_step rb w (both_sized jb rb (sound_sizes jb rb t)).1 f)

  pub table_falls : Falling (table_of rb)
  table_falls w v =
      test (all_below 16 (w ++ v))
      (λ b. let k = below_word (w ++ v) b in
      rw (table_word (w ++ v) k, table_word w (front_word w v k)) (count_falls js w v))
      (λ f. rw (table_no_word (w ++ v) f) (omega arith))

  same_members : (q n : ℕ) (w : List ℕ) → Shared (table_of rb) q n w → Shared (count js) q n w
  same_members q n w s = record { word = s.word; short = s.short; reaches = subst (λ (c : ℕ). q ≤ c) (table_word w s.word) s.reaches }

  members_same : (q n : ℕ) (w : List ℕ) → Shared (count js) q n w → Shared (table_of rb) q n w
  members_same q n w s = record { word = s.word; short = s.short; reaches = subst (λ (c : ℕ). q ≤ c) (sym (table_word w s.word)) s.reaches }

  pub same_list : (q n : ℕ) → list_of (table_of rb) q n ≡ list_of (count js) q n
  same_list q n =
      list_unique (count js) q (count_falls js) n (list_of (table_of rb) q n) (list_ascending (table_of rb) q n)
      (λ w. let m = list_members (table_of rb) q table_falls n w in (λ i. same_members q n w (m.0 i), λ s. m.1 (members_same q n w s)))

  pub empty_count : table_of rb [] ≡ length js
  empty_count = table_word [] tt ∙ count_empty js
