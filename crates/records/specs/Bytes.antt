-- Rows of bytes. Assumes nothing.
use Rattle.std.specs.Prelude.{ℕ, zero, suc, ◌/◌, ◌%◌, ◌<◌, ◌≡◌, Bool, true, false, cond, List, [], ◌∷◌, ◌++◌, length, take, drop, get_or, eqb, ltb}

-- n records of m bytes each, one after the other
abbrev pub records : ℕ → ℕ → List ℕ → List (List ℕ)
records m zero b = []
records m (suc n) b = take m b ∷ records m n (drop m b)

-- what f gives at each of l, one after the other
abbrev pub flat : (List ℕ → List ℕ) → List (List ℕ) → List ℕ
flat f [] = []
flat f (a ∷ l) = f a ++ flat f l

-- two bytes for each number, low byte first
abbrev pub two_bytes : List ℕ → List ℕ
two_bytes [] = []
two_bytes (n ∷ ns) = n % 256 ∷ n / 256 ∷ two_bytes ns

abbrev pub all_below : ℕ → List ℕ → Bool
all_below n [] = true
all_below n (x ∷ b) = cond (ltb x n) (all_below n b) false

abbrev pub all_zero : List ℕ → Bool
all_zero b = all_below 1 b

-- the first place at which two rows of bytes differ, or the first one's length
abbrev pub differ : List ℕ → List ℕ → ℕ
differ [] b = zero
differ (x ∷ a) [] = zero
differ (x ∷ a) (y ∷ b) = cond (eqb x y) (suc (differ a b)) zero

-- The same as a relation: d is the first place at which the rows a and b differ.
pub record First (a b : List ℕ) (d : ℕ) : Type 0 where
  pub within : d < length a
  pub differs : get_or a d 0 ≡ get_or b d 0 → ⊥
  pub alike : (i : ℕ) → i < d → get_or a i 0 ≡ get_or b i 0

-- two rows of bytes are the same
abbrev pub same : List ℕ → List ℕ → Bool
same [] [] = true
same [] (y ∷ b) = false
same (x ∷ a) [] = false
same (x ∷ a) (y ∷ b) = cond (eqb x y) (same a b) false
