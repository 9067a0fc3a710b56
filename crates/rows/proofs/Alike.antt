-- The first difference of two rows of bytes, at an index: up to there they are alike. Assumes nothing.
use Prim.Native.Nat.{ℕ, suc, ◌+◌, ◌≤◌, ◌<◌}
use native.Mathlib.Omega.{arith}
use native.Mathlib.Numerals.{add-one}
use mathlib.Core.Path.{◌≡◌}
use mathlib.Core.List.{List}
use lib.ListN.{length, drop, get_or, drop_of_length-le}
use lib.Seq.{drop-cons}
use borrow.Author.Tests.{eq-eqb, ne_eqb}
use Rattle.records.specs.Bytes.{differ}

module _ (a b : List ℕ) where
  -- the first k bytes are alike, as far as the walk has come
  unfoldable pub Alike : ℕ → Type 0
  Alike k = differ a b ≡ k + differ (drop k a) (drop k b)

  differ_next : (k : ℕ) → k < length a → k < length b → get_or a k 0 ≡ get_or b k 0 → differ (drop k a) (drop k b) ≡ suc (differ (drop (k + 1) a) (drop (k + 1) b))
  differ_next k h l e = rw (add-one, drop-cons a k 0, drop-cons b k 0, eq-eqb (get_or a k 0) (get_or b k 0) e)

  differ_here : (k : ℕ) → k < length a → k < length b → (get_or a k 0 ≡ get_or b k 0 → ⊥) → differ (drop k a) (drop k b) ≡ 0
  differ_here k h l n = rw (drop-cons a k 0, drop-cons b k 0, ne_eqb (get_or a k 0) (get_or b k 0) n)

  pub alike_start : Alike 0
  unfolding Alike
  alike_start = omega arith

  pub alike_on : (k : ℕ) → k < length a → k < length b → get_or a k 0 ≡ get_or b k 0 → Alike k → Alike (k + 1)
  unfolding Alike
  alike_on k h l e u = omega (arith, differ_next k h l e)

  pub alike_stop : (k : ℕ) → k < length a → k < length b → (get_or a k 0 ≡ get_or b k 0 → ⊥) → Alike k → differ a b ≡ k
  unfolding Alike
  alike_stop k h l n u = omega (arith, differ_here k h l n)

  pub alike_end : (k : ℕ) → length a ≤ k → Alike k → differ a b ≡ k
  unfolding Alike
  alike_end k h u =
      let z : differ (drop k a) (drop k b) ≡ 0 = rw (drop_of_length-le a {i = k} h) in
      omega arith

pub ruleset alike = (alike_start, alike_on, alike_stop, alike_end)
