-- What drawing answers and leaves, by whether the picture fits. Assumes nothing.
use Prim.Native.Nat.{ℕ, ◌≤◌, ◌<◌}
use mathlib.Core.Path.{◌≡◌}
use mathlib.Core.List.{List}
use lib.Dec.{leb}
use lib.ListN.{length}
use borrow.Author.Tests.{le-leb, lt-leb, leb-true, leb-false}
use Rattle.std.proofs.Common.{Some, None}
use Rattle.words.specs.Picture.{picture}
use Rattle.words.proofs.Test.{test}
use Rattle.records.specs.RowBook.{row_book}
use Rattle.picture.specs.Drawn.{rows_found, drawn}

module _ (js : List (List ℕ)) where
  -- the answer by how many live states there are
  pub says_many : 1000 < length (picture js) → None ≡ rows_found js
  unfolding rows_found
  says_many h = rw (lt-leb (length (picture js)) 1000 h)

  pub says_few : length (picture js) ≤ 1000 → Some (length (picture js)) ≡ rows_found js
  unfolding rows_found
  says_few h = rw (le-leb (length (picture js)) 1000 h)

  -- and what it says
  pub found_many : None ≡ rows_found js → 1000 < length (picture js)
  unfolding rows_found
  found_many e =
      test (leb (length (picture js)) 1000) (λ t. let z : None ≡ Some (length (picture js)) = rw t at e in cc) (λ f. leb-false (length (picture js)) 1000 f)

  pub found_few : (n : ℕ) → Some n ≡ rows_found js → (n ≡ length (picture js)) × (length (picture js) ≤ 1000)
  unfolding rows_found
  found_few n e =
      test (leb (length (picture js)) 1000)
      (λ t. let z : Some n ≡ Some (length (picture js)) = rw t at e in (cc, leb-true (length (picture js)) 1000 t))
      (λ f. let z : Some n ≡ None = rw f at e in cc)

  pub drawn_few : (rb : List ℕ) → length (picture js) ≤ 1000 → drawn js rb ≡ row_book js
  unfolding drawn
  drawn_few rb h = rw (le-leb (length (picture js)) 1000 h)

  pub drawn_many : (rb : List ℕ) → 1000 < length (picture js) → drawn js rb ≡ rb
  unfolding drawn
  drawn_many rb h = rw (lt-leb (length (picture js)) 1000 h)
