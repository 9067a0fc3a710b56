-- A word that begins with a step is in a journal just where its other steps are in what stands behind the first such step. By induction over the journal. Assumes nothing.
use Rattle.std.proofs.Common.{◌≡◌, ◌≢◌, ℕ, zero, suc, ◌+◌, ◌<◌, ◌≤◌, true, false, List, [], ◌∷◌, length, drop, get_or, refl, arith, add-one, ne_eqb, eq-eqb}
use Rattle.words.specs.Words.{is_in}

-- behind the first s, at k
found : (s : ℕ) (w j : List ℕ) (k : ℕ) → k < length j → get_or j k 0 ≡ s → ((m : ℕ) → m < k → get_or j m 0 ≢ s) → is_in (s ∷ w) j ≡ is_in w (drop (suc k) j)
found s w [] k h e n = absurd (omega arith)
found s w (x ∷ j) zero h e n = rw (eq-eqb x s e)
found s w (x ∷ j) (suc k) h e n = rw (ne_eqb x s (n 0 (omega arith))) (found s w j k (omega arith) e (λ m l. n (suc m) (omega arith)))

-- nowhere, where no step is s
lost : (s : ℕ) (w j : List ℕ) → ((m : ℕ) → m < length j → get_or j m 0 ≢ s) → is_in (s ∷ w) j ≡ false
lost s w [] n = refl
lost s w (x ∷ j) n = rw (ne_eqb x s (n 0 (omega arith))) (lost s w j (λ m l. n (suc m) (omega arith)))

-- a word that has no step is in
pub in_empty : (w j : List ℕ) → length w ≡ 0 → is_in w j ≡ true
in_empty [] j h = refl
in_empty (s ∷ w) j h = absurd (omega arith)

-- the same of a word that has a first step, with its rest
pub in_found : (w j : List ℕ) (k : ℕ) → 1 ≤ length w → k < length j → get_or j k 0 ≡ get_or w 0 0 → ((m : ℕ) → m < k → get_or j m 0 ≢ get_or w 0 0)
    → is_in w j ≡ is_in (drop 1 w) (drop (k + 1) j)
in_found [] j k l h e n = absurd (omega arith)
in_found (s ∷ w) j k l h e n = rw add-one (found s w j k h e n)

pub in_lost : (w j : List ℕ) → 1 ≤ length w → ((m : ℕ) → m < length j → get_or j m 0 ≢ get_or w 0 0) → is_in w j ≡ false
in_lost [] j l n = absurd (omega arith)
in_lost (s ∷ w) j l n = lost s w j n
