-- Which of two rows comes first, from place i on: the first difference decides, equal ones leave it to the rest, and behind the last neither comes
-- first. Assumes nothing.
use Prim.Native.Nat.{ℕ, ◌+◌, ◌≤◌, ◌<◌}
use native.Mathlib.Numerals.{add-one}
use native.Mathlib.Omega.{arith}
use mathlib.Core.Path.{◌≡◌}
use mathlib.Core.Bool.{false}
use mathlib.Core.List.{List}
use lib.Dec.{ltb}
use lib.ListN.{length, drop, get_or, drop_of_length-le}
use lib.Seq.{drop-cons}
use borrow.Author.Tests.{lt-ltb, le-ltb, ltb-false}
use Rattle.words.specs.Order.{before}
use Rattle.words.proofs.Test.{test}

module _ (a b : List ℕ) (i : ℕ) where
  pub before_end : length a ≤ i → length b ≤ i → before (drop i a) (drop i b) ≡ false
  before_end h k = rw (drop_of_length-le a h, drop_of_length-le b k)

  module _ (h : i < length a) (k : i < length b) where
    pub before_here : (get_or a i 0 ≡ get_or b i 0 → ⊥) → before (drop i a) (drop i b) ≡ ltb (get_or a i 0) (get_or b i 0)
    before_here n =
        rw (drop-cons a i 0, drop-cons b i 0)
        (test (ltb (get_or a i 0) (get_or b i 0)) (λ t. rw t)
        (λ f. rw (f, lt-ltb (get_or b i 0) (get_or a i 0) (omega (arith, ltb-false (get_or a i 0) (get_or b i 0) f)))))

    pub before_next : get_or a i 0 ≡ get_or b i 0 → before (drop i a) (drop i b) ≡ before (drop (i + 1) a) (drop (i + 1) b)
    before_next e =
        rw (add-one, drop-cons a i 0, drop-cons b i 0)
        (simp (le-ltb (get_or a i 0) (get_or b i 0) (omega arith), le-ltb (get_or b i 0) (get_or a i 0) (omega arith)))
