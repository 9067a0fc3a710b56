-- Numbers with a space before each: how they join, and the room that one takes. Assumes nothing.
use Prim.Native.Nat.{ℕ, suc, ◌+◌, ◌^◌, ◌≤◌, ◌<◌}
use native.Mathlib.Numerals.{add-one}
use native.Mathlib.Omega.{arith}
use mathlib.Core.Path.{◌≡◌, refl, sym, ap, ◌∙◌}
use mathlib.Core.List.{List, [], ◌∷◌, ◌++◌, append_assoc, append-nil}
use lib.ListN.{length, take, get_or}
use lib.Seq.{take-suc}
use Rattle.std.specs.Fmt.{decimal as std_decimal}
use Rattle.text.specs.Text.{space, decimal, spaced}
use Rattle.text.specs.Lines.{line_size}
use Rattle.text.proofs.Decimals.{at_most, as_std}

-- one number
pub spaced_one : (x : ℕ) → spaced (x ∷ []) ≡ space ∷ decimal x
spaced_one x = ap (λ (d : List ℕ). space ∷ d) (append-nil (decimal x))

-- one number, as std writes it
pub spaced_std : (x : ℕ) → x < 2 ^ 64 → spaced (x ∷ []) ≡ space ∷ std_decimal x
spaced_std x h = rw (as_std x h) (spaced_one x)

-- one number more
pub spaced_snoc : (xs : List ℕ) (x : ℕ) → spaced (xs ++ (x ∷ [])) ≡ spaced xs ++ spaced (x ∷ [])
spaced_snoc [] x = refl
spaced_snoc (y ∷ ys) x =
    ap (λ (d : List ℕ). (space ∷ decimal y) ++ d) (spaced_snoc ys x) ∙ sym (append_assoc (space ∷ decimal y) (spaced ys) (spaced (x ∷ [])))

-- one number more of a row of them, behind a text and another
pub spaced_more : (t : List ℕ) (x : ℕ) (xs : List ℕ) (i : ℕ) → i < length xs → t ++ spaced (x ∷ take (i + 1) xs) ≡ t ++ spaced (x ∷ take i xs) ++ spaced (get_or xs i 0 ∷ [])
spaced_more t x xs i h = rw (add-one, take-suc xs i 0, spaced_snoc (x ∷ take i xs) (get_or xs i 0)) (sym (append_assoc t _ _))

-- a number takes its digits and one byte
pub room : (n x : ℕ) → x < 10 ^ suc n → length (spaced (x ∷ [])) ≤ suc (suc n)
room n x h = omega (arith, ap length (spaced_one x), at_most n x h)

-- a number of 64 bits takes 21 bytes
pub number_room : (x : ℕ) → x < 2 ^ 64 → length (spaced (x ∷ [])) ≤ 21
number_room x h = room 19 x (omega arith)

-- a byte takes 3 bytes, and 4 with a space before it
pub byte_room : (x : ℕ) → x < 256 → (length (decimal x) ≤ 3) × (length (spaced (x ∷ [])) ≤ 4)
byte_room x h = (at_most 2 x (omega arith), room 2 x (omega arith))

-- at the start of a line there is room for a byte
pub byte_first : (n x : ℕ) → n ≡ 0 → x < 256 → n + length (decimal x) ≤ line_size
byte_first n x e h = omega (arith, byte_room x h)
