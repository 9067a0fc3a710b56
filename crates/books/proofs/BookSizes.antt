-- The test of both sizes by its cases: both books have theirs, or one of another size is enough to fail. Assumes nothing.
use Prim.Native.Nat.{ℕ}
use mathlib.Core.Path.{◌≡◌}
use mathlib.Core.Bool.{true, false}
use mathlib.Core.List.{List}
use lib.ListN.{length}
use lib.Dec.{eqb}
use borrow.Author.Tests.{eq-eqb, ne_eqb, eqb-true}
use Rattle.records.specs.Sizes.{journal_book_size, row_book_size}
use Rattle.records.specs.Sound.{right_sizes}
use Rattle.records.proofs.Tests.{both}

module _ (jb rb : List ℕ) where
  pub sizes_right : length jb ≡ journal_book_size → length rb ≡ row_book_size → right_sizes jb rb ≡ true
  sizes_right e f = rw (eq-eqb (length jb) journal_book_size e, eq-eqb (length rb) row_book_size f)

  pub journals_wrong : (length jb ≡ journal_book_size → ⊥) → right_sizes jb rb ≡ false
  journals_wrong n = rw (ne_eqb (length jb) journal_book_size n)

  pub rows_wrong : length jb ≡ journal_book_size → (length rb ≡ row_book_size → ⊥) → right_sizes jb rb ≡ false
  rows_wrong e n = rw (eq-eqb (length jb) journal_book_size e, ne_eqb (length rb) row_book_size n)

  pub both_sized : right_sizes jb rb ≡ true → (length jb ≡ journal_book_size) × (length rb ≡ row_book_size)
  both_sized w =
      let p = both (eqb (length jb) journal_book_size) (eqb (length rb) row_book_size) w in
      (eqb-true (length jb) journal_book_size p.0, eqb-true (length rb) row_book_size p.1)
