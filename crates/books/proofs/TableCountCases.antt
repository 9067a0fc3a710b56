-- Table count by its cases: a wrong size, a wrong step, and then by where the walk ends. What it counts is never above 16, since a
-- walk never stays in a row whose count is. Assumes nothing.
use Prim.Native.Nat.{ℕ, zero, suc, ◌≤◌}
use native.Mathlib.Omega.{arith}
use mathlib.Core.Path.{◌≡◌, refl}
use mathlib.Core.Bool.{true, false}
use mathlib.Core.List.{List, [], ◌∷◌}
use lib.ListN.{length}
use lib.Dec.{eqb, leb, ltb}
use borrow.Author.Tests.{eq-eqb, ne_eqb, ltb-false}
use Rattle.words.specs.Limits.{step_codes, most_journals}
use Rattle.words.proofs.Test.{test}
use Rattle.records.specs.Sizes.{row_book_size, most_rows}
use Rattle.records.specs.Bytes.{all_below}
use Rattle.records.specs.RowBook.{count_at, arc_at}
use Rattle.books.specs.Numbers.{first, done, wrong_size, wrong_step, damaged}
use Rattle.std.specs.Prelude.{Some, None, Ok}
use Rattle.rows.specs.Walk.{damage, bad_arc, along, walk_from, walk}
use Rattle.books.specs.TableCount.{count_of, table_count_refusals, counted, table_count_call}
use Rattle.books.specs.TableCount.{Counted}
use Rattle.books.proofs.Refusals.{neither, told_most}

-- the count of a refusal is 0
pub refusal : (n : ℕ) → ◌≡◌ {A = Counted} (counted n 0) (record { number = n; count = 0 })
refusal zero = refl
refusal (suc n) = refl

module _ (b w : List ℕ) where
  pub count_size : (length b ≡ row_book_size → ⊥) → table_count_call b w ≡ counted wrong_size 0
  unfolding table_count_call
  count_size n = rw (ne_eqb (length b) row_book_size n)

  module _ (size : length b ≡ row_book_size) where
    pub count_step : all_below step_codes w ≡ false → table_count_call b w ≡ counted wrong_step 0
    unfolding table_count_call
    count_step f = rw (eq-eqb (length b) row_book_size size, f)

    module _ (codes : all_below step_codes w ≡ true) where
      pub count_row : (r : ℕ) → walk b w ≡ Ok (Some r) → table_count_call b w ≡ counted done (count_at b r)
      unfolding table_count_call
      count_row r e = rw (eq-eqb (length b) row_book_size size, codes, e)

      pub count_none : walk b w ≡ Ok None → table_count_call b w ≡ counted done 0
      unfolding table_count_call
      count_none e = rw (eq-eqb (length b) row_book_size size, codes, e)

      pub count_damage : walk b w ≡ damage → table_count_call b w ≡ counted damaged 0
      unfolding table_count_call
      count_damage e = rw (eq-eqb (length b) row_book_size size, codes, e)

module _ (b : List ℕ) where
  -- an arc that isn't damage ends at a count of at most 16
  arc_few : (r t : ℕ) → bad_arc b r t ≡ false → count_at b t ≤ most_journals
  arc_few r t f =
      let far = (neither (leb most_rows t) _ (neither (leb t r) _ f).1).1 in
      ltb-false most_journals (count_at b t) (neither (eqb (count_at b t) 0) _ far).1

  -- a walk from such a row ends in such a row, if in any
  from_few : (w : List ℕ) (r : ℕ) → count_at b r ≤ most_journals → count_of b (walk_from b r w) ≤ most_journals
  unfolding walk_from along
  from_few [] r h = h
  from_few (s ∷ w) r h =
      let t : ℕ = arc_at b r s in
      test (eqb t 0) (λ z. rw z (omega arith))
      (λ z. test (bad_arc b r t) (λ y. rw (z, y) (omega arith)) (λ f. rw (z, f) (from_few w t (arc_few r t f))))

  walk_few : (w : List ℕ) → count_of b (walk b w) ≤ most_journals
  unfolding walk
  walk_few w =
      test (ltb most_journals (count_at b 0)) (λ t. rw t (omega arith))
      (λ f. test (eqb (count_at b 0) 0) (λ z. rw (f, z) (omega arith))
      (λ z. rw (f, z) (from_few w 0 (ltb-false most_journals (count_at b 0) f))))

  -- the count is never above 16
  pub table_few : (w : List ℕ) → (table_count_call b w).count ≤ most_journals
  unfolding table_count_call
  table_few w = told_most (first (table_count_refusals b w)) (count_of b (walk b w)) most_journals (λ e. walk_few w)
