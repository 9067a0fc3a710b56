-- Journal count by its cases: the sizes, the word's form, the book's form, and the count, which is never above 16. Assumes nothing.
use Prim.Native.Nat.{ℕ, ◌+◌, ◌-◌, ◌≤◌}
use native.Mathlib.Omega.{arith}
use mathlib.Core.Path.{◌≡◌, ap}
use mathlib.Core.Bool.{true, false, not, ◌&&◌}
use mathlib.Core.List.{List, [], ◌∷◌}
use lib.ListN.{length, take, drop, get_or}
use lib.Dec.{eqb, leb}
use borrow.Author.Tests.{eq-eqb, ne_eqb, leb-true, not-false}
use Rattle.words.specs.Limits.{most_journals}
use Rattle.words.specs.Words.{is_in, count}
use Rattle.words.proofs.Test.{test}
use Rattle.records.specs.Bytes.{all_below, all_zero}
use Rattle.records.specs.JournalBook.{journal_form, journals_of}
use Rattle.records.specs.StepBytes.{steps_of}
use Rattle.records.specs.WordRecord.{word_form, word_of}
use Rattle.records.proofs.Form.{form_book}
use Rattle.records.proofs.Tests.{both}
use Rattle.books.specs.Numbers.{first, done, wrong_size, wrong_word, damaged}
use Rattle.books.specs.TableCount.{counted}
use Rattle.books.specs.JournalCount.{journal_count_refusals, journal_count_call}
use Rattle.books.proofs.Refusals.{pass, told_most}

module _ (jb r : List ℕ) where
  pub journals_size : (length jb ≡ 4096 → ⊥) → journal_count_call jb r ≡ counted wrong_size 0
  unfolding journal_count_call
  journals_size n = rw (ne_eqb (length jb) 4096 n)

  module _ (l : length jb ≡ 4096) where
    pub record_size : (length r ≡ 16 → ⊥) → journal_count_call jb r ≡ counted wrong_size 0
    unfolding journal_count_call
    record_size n = rw (eq-eqb (length jb) 4096 l, ne_eqb (length r) 16 n)

    module _ (m : length r ≡ 16) where
      pub word_wrong : word_form r ≡ false → journal_count_call jb r ≡ counted wrong_word 0
      unfolding journal_count_call
      word_wrong f = rw (eq-eqb (length jb) 4096 l, eq-eqb (length r) 16 m, f)

      pub book_wrong : word_form r ≡ true → journal_form jb ≡ false → journal_count_call jb r ≡ counted damaged 0
      unfolding journal_count_call
      book_wrong t f = rw (eq-eqb (length jb) 4096 l, eq-eqb (length r) 16 m, t, f)

      pub word_counted : word_form r ≡ true → journal_form jb ≡ true → journal_count_call jb r ≡ counted done (count (journals_of jb) (word_of r))
      unfolding journal_count_call
      word_counted t f = rw (eq-eqb (length jb) 4096 l, eq-eqb (length r) 16 m, t, f)

-- a word record of right form has room for its word
pub word_room : (r : List ℕ) → word_form r ≡ true → get_or r 0 0 ≤ 15
word_room r t = leb-true (get_or r 0 0) 15 (both (leb (get_or r 0 0) 15) (all_below 16 (steps_of r) && all_zero (drop (1 + get_or r 0 0) r)) t).0

-- its word as the part that the code lends
pub word_part : (r : List ℕ) → take (1 + get_or r 0 0 - 1) (drop 1 r) ≡ word_of r
word_part r = let e : 1 + get_or r 0 0 - 1 ≡ get_or r 0 0 = omega arith in ap (λ (n : ℕ). take n (drop 1 r)) e

-- a word is in no more journals than there are
count_most : (js : List (List ℕ)) (w : List ℕ) → count js w ≤ length js
count_most [] w = omega arith
count_most (j ∷ js) w = test (is_in w j) (λ t. rw t (omega (arith, count_most js w))) (λ f. rw f (omega (arith, count_most js w)))

module _ (jb r : List ℕ) where
  -- a book that isn't refused has its form
  told_form : first (journal_count_refusals jb r) ≡ 0 → journal_form jb ≡ true
  told_form e =
      let size = pass (not (eqb (length jb) 4096 && eqb (length r) 16)) _ _ e in
      let word = pass (not (word_form r)) _ _ size.1 in
      not-false (journal_form jb) (pass (not (journal_form jb)) _ _ word.1).0

  -- the count is never above 16
  pub journal_few : (journal_count_call jb r).count ≤ most_journals
  unfolding journal_count_call
  journal_few =
      told_most (first (journal_count_refusals jb r)) (count (journals_of jb) (word_of r)) most_journals
      (λ e. omega (arith, count_most (journals_of jb) (word_of r), (form_book jb (told_form e)).0.few))
