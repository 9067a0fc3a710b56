-- A word's place is the least one above that of its beginning, all but the last step, where that step stands. The search looks
-- at the steps one by one, so what it passed was another step. Assumes nothing.
use Prim.Native.Nat.{ℕ, zero, suc, ◌+◌, ◌-◌, ◌≤◌, ◌<◌}
use native.Mathlib.Omega.{arith}
use mathlib.Core.Path.{◌≡◌, refl, sym, ◌∙◌}
use mathlib.Core.Logic.{◌⊎◌, inl, inr}
use mathlib.Core.List.{List, [], ◌∷◌, ◌++◌}
use lib.ListN.{length, drop, get_or, length-drop}
use lib.Seq.{get_or-drop}
use lib.Dec.{eqb}
use borrow.Author.Tests.{eqb-true, eqb-false}
use Rattle.words.specs.Limits.{lost}
use Rattle.words.specs.Places.{find, next, Least, place}
use Rattle.words.proofs.Members.{place_snoc}
use Rattle.words.proofs.Place.{next_is}
use Rattle.words.proofs.Test.{test}

-- no step of l is s
abbrev Nowhere : ℕ → List ℕ → Type 0
Nowhere s l = (i : ℕ) → i < length l → get_or l i 0 ≡ s → ⊥

-- the first s of l stands at i
record At (s : ℕ) (l : List ℕ) (i : ℕ) : Type 0 where
  within : i < length l
  found : get_or l i 0 ≡ s
  first : (k : ℕ) → k < i → get_or l k 0 ≡ s → ⊥

find_at : (s : ℕ) (l : List ℕ) (p : ℕ) → ((i : ℕ) × At s l i × (find s l p ≡ p + suc i)) ⊎ ((find s l p ≡ lost) × Nowhere s l)
find_at s [] p = inr (refl, λ i h e. absurd (omega arith))
find_at s (x ∷ l) p =
    test (eqb x s)
    (λ t. rw t (inl (0, record { within = omega arith; found = eqb-true x s t; first = λ k h e. absurd (omega arith) }, omega arith)))
    (λ f. rw f (later (eqb-false x s f) (find_at s l (suc p))))
  where
    Goal : Type 0
    Goal = ((i : ℕ) × At s (x ∷ l) i × (find s l (suc p) ≡ p + suc i)) ⊎ ((find s l (suc p) ≡ lost) × Nowhere s (x ∷ l))

    shift : (x ≡ s → ⊥) → (n : ℕ) → ((k : ℕ) → k < n → get_or l k 0 ≡ s → ⊥) → (k : ℕ) → k < suc n → get_or (x ∷ l) k 0 ≡ s → ⊥
    shift ne n h zero b e = ne e
    shift ne n h (suc k) b e = h k (omega arith) e

    later : (x ≡ s → ⊥) → ((i : ℕ) × At s l i × (find s l (suc p) ≡ suc p + suc i)) ⊎ ((find s l (suc p) ≡ lost) × Nowhere s l) → Goal
    later ne (inl t) =
        inl (suc t.0, record { within = omega (arith, t.1.within); found = t.1.found; first = shift ne t.0 t.1.first }, omega (arith, t.2))
    later ne (inr t) = inr (t.0, shift ne (length l) t.1)

-- the step at the place i of a journal, seen from the place p before it
seen : (j : List ℕ) (p i : ℕ) → p < i → get_or j (i - 1) 0 ≡ get_or (drop p j) (i - suc p) 0
seen j p i h = let e : i - 1 ≡ p + (i - suc p) = omega arith in rw (get_or-drop p j (i - suc p) 0, e)

-- the next place is the least above p whose step is s, and lost where there is none
pub next_least : (j : List ℕ) (p s : ℕ) → length j < lost → p ≤ length j
    → Least j p s (next j p s) ⊎ ((next j p s ≡ lost) × ((i : ℕ) → p < i → i ≤ length j → get_or j (i - 1) 0 ≡ s → ⊥))
next_least j p s h k = rw (next_is j p s (omega arith)) (go (find s (drop p j) p) (find_at s (drop p j) p))
  where
    go : (r : ℕ) → ((i : ℕ) × At s (drop p j) i × (r ≡ p + suc i)) ⊎ ((r ≡ lost) × Nowhere s (drop p j))
        → Least j p s r ⊎ ((r ≡ lost) × ((i : ℕ) → p < i → i ≤ length j → get_or j (i - 1) 0 ≡ s → ⊥))
    go r (inl t) =
        let e : r - suc p ≡ t.0 = omega (arith, t.2) in
        inl (record {
          above = omega (arith, t.2);
          within = omega (arith, t.2, t.1.within, length-drop p j);
          found = seen j p r (omega (arith, t.2)) ∙ rw e t.1.found;
          least = λ i a b d. t.1.first (i - suc p) (omega (arith, t.2)) (sym (seen j p i a) ∙ d);
        })
    go r (inr t) = inr (t.0, λ i a b d. t.1 (i - suc p) (omega (arith, length-drop p j)) (sym (seen j p i a) ∙ d))

-- 0 for the empty word
pub place_empty : (j : List ℕ) → place j [] ≡ 0
place_empty j = refl

-- otherwise by the place of the word without its last step; it is lost if that is
pub place_last : (j w : List ℕ) (s : ℕ) → place j (w ++ (s ∷ [])) ≡ next j (place j w) s
place_last j w s = place_snoc j w s 0

pub next_lost : (j : List ℕ) (s : ℕ) → next j lost s ≡ lost
next_lost j s = refl
