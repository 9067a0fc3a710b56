-- What the tests of bytes say, each by induction over the bytes. Assumes nothing.
use Prim.Native.Nat.{ℕ, zero, suc, ◌<◌}
use native.Mathlib.Omega.{arith}
use mathlib.Core.Path.{◌≡◌, refl, sym, ap₂}
use mathlib.Core.Bool.{Bool, true, false, ◌&&◌, false≢true}
use mathlib.Core.List.{List, [], ◌∷◌}
use lib.ListN.{length, get_or, replicate}
use lib.Dec.{ltb, eqb}
use borrow.Author.Tests.{lt-ltb, ltb-true, ltb-false, eqb-true, eqb-false, eq-eqb}
use Rattle.records.specs.Bytes.{First, all_below, all_zero, differ, same}
use Rattle.words.specs.Words.{IsWord}
use Rattle.words.proofs.Test.{test}

-- a test that is two tests
pub both : (a b : Bool) → (a && b) ≡ true → (a ≡ true) × (b ≡ true)
both true b t = (refl, t)
both false b t = absurd (false≢true t)

-- the same bytes are equal
pub same_eq : (a b : List ℕ) → same a b ≡ true → a ≡ b
same_eq [] [] t = refl
same_eq [] (y ∷ b) t = absurd (false≢true t)
same_eq (x ∷ a) [] t = absurd (false≢true t)
same_eq (x ∷ a) (y ∷ b) t =
    test (eqb x y) (λ e. ap₂ (λ (z : ℕ) (c : List ℕ). z ∷ c) (eqb-true x y e) (same_eq a b (rw e at t))) (λ f. absurd (false≢true (rw f at t)))

-- bytes are the same as themselves
pub same_self : (a : List ℕ) → same a a ≡ true
same_self [] = refl
same_self (x ∷ a) = rw (eq-eqb x x refl) (same_self a)

-- steps below 16 are a word
pub below_word : (w : List ℕ) → all_below 16 w ≡ true → IsWord w
below_word [] t = tt
below_word (s ∷ w) t = test (ltb s 16) (λ y. (ltb-true s 16 y, below_word w (rw y at t))) (λ f. absurd (false≢true (rw f at t)))

-- the steps of a word are below 16
pub word_below : (w : List ℕ) → IsWord w → all_below 16 w ≡ true
word_below [] k = refl
word_below (s ∷ w) k = rw (lt-ltb s 16 k.0) (word_below w k.1)

-- bytes that are all zero are zeros
pub zero_eq : (b : List ℕ) → all_zero b ≡ true → b ≡ replicate (length b) 0
zero_eq [] t = refl
zero_eq (x ∷ b) t =
    test (ltb x 1) (λ y. ap₂ (λ (z : ℕ) (c : List ℕ). z ∷ c) (omega (arith, ltb-true x 1 y)) (zero_eq b (rw y at t))) (λ f. absurd (false≢true (rw f at t)))

-- zeros are all zero
pub eq_zero : (n : ℕ) → all_zero (replicate n 0) ≡ true
eq_zero zero = refl
eq_zero (suc n) = eq_zero n

-- the first difference behind a byte that is alike
first_later : (x y : ℕ) (a b : List ℕ) (d : ℕ) → x ≡ y → First a b d → First (x ∷ a) (y ∷ b) (suc d)
first_later x y a b d e f = record { within = omega (arith, f.within); differs = f.differs; alike = earlier }
  where
    earlier : (i : ℕ) → i < suc d → get_or (x ∷ a) i 0 ≡ get_or (y ∷ b) i 0
    earlier zero h = e
    earlier (suc i) h = f.alike i (omega arith)

-- where bytes of one length differ, `differ` is the first difference
pub differ_first : (a b : List ℕ) → same a b ≡ false → length a ≡ length b → First a b (differ a b)
differ_first [] [] t l = absurd (false≢true (sym t))
differ_first [] (y ∷ b) t l = absurd (omega arith)
differ_first (x ∷ a) [] t l = absurd (omega arith)
differ_first (x ∷ a) (y ∷ b) t l =
    test (eqb x y) (λ e. rw e (first_later x y a b (differ a b) (eqb-true x y e) (differ_first a b (rw e at t) (omega arith))))
    (λ f. rw f (record { within = omega arith; differs = eqb-false x y f; alike = λ i h. absurd (omega arith) }))

-- there is one first difference
pub first_unique : (a b : List ℕ) (d e : ℕ) → First a b d → First a b e → d ≡ e
first_unique a b d e f g =
    test (ltb d e) (λ l. absurd (f.differs (g.alike d (ltb-true d e l))))
    (λ n. test (ltb e d) (λ l. absurd (g.differs (f.alike e (ltb-true e d l)))) (λ m. omega (arith, ltb-false d e n, ltb-false e d m)))
