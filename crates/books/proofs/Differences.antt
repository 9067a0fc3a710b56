-- What the check says of two rows of bytes, by the spot at which they first differ. Assumes nothing.
use Prim.Native.Nat.{ℕ, suc, ◌+◌, ◌*◌, ◌/◌, ◌%◌, ◌≤◌, ◌<◌}
use native.Mathlib.Omega.{arith}
use mathlib.Core.Path.{◌≡◌, refl, ap₂}
use mathlib.Core.Bool.{true, false}
use mathlib.Core.List.{List, [], ◌∷◌}
use lib.ListN.{length}
use lib.Dec.{eqb}
use Rattle.words.proofs.Test.{test}
use Rattle.records.specs.Bytes.{differ, same}
use Rattle.books.specs.Check.{checked, compared}

-- rows of bytes that differ nowhere are the same, and those that differ aren't
same_end : (a b : List ℕ) → length a ≡ length b → length a ≤ differ a b → same a b ≡ true
same_end [] [] l h = refl
same_end [] (y ∷ b) l h = absurd (omega arith)
same_end (x ∷ a) [] l h = absurd (omega arith)
same_end (x ∷ a) (y ∷ b) l h =
    test (eqb x y) (λ t. rw t (same_end a b (omega arith) (less (rw t at h)))) (λ f. absurd (none (rw f at h)))
  where
    less : {m n : ℕ} → suc m ≤ suc n → m ≤ n
    less k = omega arith

    none : {m : ℕ} → suc m ≤ 0 → ⊥
    none k = omega arith

same_not : (a b : List ℕ) → differ a b < length a → same a b ≡ false
same_not [] b h = absurd (omega arith)
same_not (x ∷ a) [] h = refl
same_not (x ∷ a) (y ∷ b) h = test (eqb x y) (λ t. rw t (same_not a b (less (rw t at h)))) (λ f. rw f)
  where
    less : {m n : ℕ} → suc m < suc n → m < n
    less k = omega arith

-- what the check says, by where the walk found a difference
module _ (a b : List ℕ) where
  pub compared_differs : {row byte : ℕ} → length a ≡ 64000 → differ a b ≡ 64 * row + byte → row < 1000 → byte < 64
      → compared a b ≡ checked 2 2 row byte
  unfolding compared
  compared_differs {row} {byte} l e r h =
      let x : differ a b / 64 ≡ row = omega arith in
      let y : differ a b % 64 ≡ byte = omega arith in
      rw (same_not a b (omega arith)) (ap₂ (λ (p q : ℕ). checked 2 2 p q) x y)

  pub compared_same : length a ≡ 64000 → length b ≡ 64000 → 64000 ≤ differ a b → compared a b ≡ checked 0 0 0 0
  unfolding compared
  compared_same l m e = rw (same_end a b (omega arith) (omega arith))
