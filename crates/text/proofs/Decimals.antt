-- Numbers in decimal: how one follows from a tenth of it, how many digits it has, and that std writes the same. Assumes nothing.
use Prim.Native.Nat.{ℕ, zero, suc, ◌+◌, ◌*◌, ◌/◌, ◌%◌, ◌^◌, ◌≤◌, ◌<◌}
use native.Mathlib.Nat.{pow-succ'}
use native.Mathlib.Omega.{arith}
use mathlib.Core.Path.{◌≡◌, sym, ap, ◌∙◌}
use mathlib.Core.Bool.{true, false}
use mathlib.Core.List.{List, [], ◌∷◌, ◌++◌}
use lib.ListN.{length, length-append}
use lib.Dec.{ltb}
use borrow.Author.Tests.{lt-ltb, le-ltb, ltb-true, ltb-false}
use Rattle.std.specs.Fmt.{decimal as std_decimal}
use Rattle.std.proofs.lemmas.Fmt.{AppendsLastDigit, decimal_from_appends, length-decimal-le_succ}
use Rattle.words.proofs.Test.{test}
use Rattle.text.specs.Text.{digits, decimal}

-- more digits than the number counts are no other digits
enough : (m n x : ℕ) → x < m → x < n → digits m x ≡ digits n x
enough zero n x h k = absurd (omega arith)
enough (suc m) zero x h k = absurd (omega arith)
enough (suc m) (suc n) x h k =
    test (ltb x 10) (λ (t : ltb x 10 ≡ true). rw t) (λ (f : ltb x 10 ≡ false).
    let l = ltb-false x 10 f in
    rw f (ap (λ (d : List ℕ). d ++ ((48 + x % 10) ∷ [])) (enough m n (x / 10) (omega arith) (omega arith)))
    )

-- a number below ten is one digit
pub one_digit : (x : ℕ) → x < 10 → decimal x ≡ (48 + x) ∷ []
unfolding decimal
one_digit x h = rw (lt-ltb x 10 h)

-- another is a tenth of it with its last digit behind
pub more_digits : (x : ℕ) → 10 ≤ x → decimal x ≡ decimal (x / 10) ++ ((48 + x % 10) ∷ [])
unfolding decimal
more_digits x h =
    rw (le-ltb x 10 h) (ap (λ (d : List ℕ). d ++ ((48 + x % 10) ∷ [])) (enough x (suc (x / 10)) (x / 10) (omega arith) (omega arith)))

-- and has one digit more
pub one_more : (x : ℕ) → 10 ≤ x → length (decimal x) ≡ length (decimal (x / 10)) + 1
one_more x h = ap length (more_digits x h) ∙ length-append (decimal (x / 10)) ((48 + x % 10) ∷ [])

-- below a power of ten, no more digits than its exponent
pub at_most : (n x : ℕ) → x < 10 ^ suc n → length (decimal x) ≤ suc n
at_most zero x h = omega (arith, ap length (one_digit x h))
at_most (suc n) x h =
    let p : x < 10 * 10 ^ suc n = rw pow-succ' at h in
    test (ltb x 10) (λ (t : ltb x 10 ≡ true). omega (arith, ap length (one_digit x (ltb-true x 10 t)))) (λ (f : ltb x 10 ≡ false).
    let l = ltb-false x 10 f in omega (arith, one_more x l, at_most n (x / 10) (omega arith))
    )

-- our digits are written from the front, each with the last one behind
by_last_digit : AppendsLastDigit digits
by_last_digit = record {
  one = λ k n h. rw (lt-ltb n 10 h);
  more = λ k n h. rw (le-ltb n 10 h);
}

-- what std writes of a number
pub as_std : (x : ℕ) → x < 2 ^ 64 → std_decimal x ≡ decimal x
unfolding decimal
as_std x h = sym (decimal_from_appends digits by_last_digit (suc x) x h (omega (arith, length-decimal-le_succ x h)))
