-- A key stepped place by place is the key of the state that the step leads to: the table of next places says of each journal what `next` says, and a place
-- above 200 is behind every journal, so that both say lost. Assumes nothing.
use Prim.Native.Nat.{ℕ, zero, suc, ◌+◌, ◌*◌, ◌-◌, ◌/◌, ◌%◌, ◌≤◌, ◌<◌}
use native.Mathlib.Numerals.{add-one}
use native.Mathlib.Omega.{arith}
use mathlib.Core.Path.{◌≡◌, refl, sym, ap, ap₂, ◌∙◌}
use mathlib.Core.List.{List, [], ◌∷◌, ◌++◌}
use lib.ListN.{length, take, get_or, set, replicate, length-append, get_or-append}
use lib.Dec.{eqb, ltb}
use lib.Seq.{get_or-take, get_or_at, set_at, append_snoc, ext_get_or, length-take-le}
use borrow.Author.Tests.{lt-ltb, le-ltb, ltb-true, ltb-false, eqb-true, eqb-false}
use Rattle.words.specs.Places.{next, step}
use Rattle.words.specs.Words.{EachJournal, AreJournals}
use Rattle.words.proofs.Steps.{step_at, step_length}
use Rattle.words.proofs.Test.{test}
use Rattle.records.specs.RowBook.{place_bytes}
use Rattle.states.proofs.Entries.{next_behind}
use Rattle.states.specs.Nexts.{Tabled}
use Rattle.states.specs.Stepped.{next_at, stepped_places, key_of_stepped}

-- the two cases of a place
pub next_lost : (nexts : List ℕ) (i p s : ℕ) → 200 < p → next_at nexts i p s ≡ 255
unfolding next_at
next_lost nexts i p s h = rw (lt-ltb 200 p h)

pub next_read : (nexts : List ℕ) (i p s : ℕ) → p ≤ 200 → next_at nexts i p s ≡ get_or nexts (3216 * i + (16 * p + s)) 0
unfolding next_at
next_read nexts i p s h = rw (le-ltb 200 p h)

module _ (nexts ps : List ℕ) (s : ℕ) where
  length_stepped : (k : ℕ) → length (stepped_places nexts ps s k) ≡ k
  unfolding stepped_places
  length_stepped zero = refl
  length_stepped (suc k) = omega (arith, length-append (stepped_places nexts ps s k) (next_at nexts k (get_or ps k 0) s ∷ []), length_stepped k)

  -- place i of the stepped ones
  stepped_at : (k i : ℕ) → i < k → get_or (stepped_places nexts ps s k) i 0 ≡ next_at nexts i (get_or ps i 0) s
  unfolding stepped_places
  stepped_at zero i h = absurd (omega arith)
  stepped_at (suc k) i h =
      test (eqb i k)
      (λ t. rw (eqb-true i k t) (get_or_at (stepped_places nexts ps s k) (next_at nexts k (get_or ps k 0) s) [] 0 k (length_stepped k)))
      (λ f. let l : i < k = omega (arith, eqb-false i k f) in
      get_or-append (stepped_places nexts ps s k) (next_at nexts k (get_or ps k 0) s ∷ []) 0 i (omega (arith, length_stepped k)) ∙ stepped_at k i l)

  -- nothing is stepped before the first turn
  pub stepped_none : replicate 16 0 ≡ key_of_stepped nexts 0 ps s
  unfolding key_of_stepped stepped_places
  stepped_none = refl

  key_is : (i : ℕ) → key_of_stepped nexts i ps s ≡ stepped_places nexts ps s i ++ replicate (16 - i) 0
  unfolding key_of_stepped
  key_is i = ap (λ (n : ℕ). stepped_places nexts ps s i ++ replicate (16 - n) 0) (length_stepped i)

  -- one place more
  pub stepped_more : (i : ℕ) → i < 16 → set (key_of_stepped nexts i ps s) i (next_at nexts i (get_or ps i 0) s) ≡ key_of_stepped nexts (i + 1) ps s
  unfolding stepped_places
  stepped_more i h =
      let v : ℕ = next_at nexts i (get_or ps i 0) s in
      let z : 16 - i ≡ suc (16 - suc i) = omega arith in
      rw (add-one, key_is i, key_is (suc i), z)
      (set_at (stepped_places nexts ps s i) 0 (replicate (16 - suc i) 0) v i (length_stepped i)
      ∙ sym (append_snoc (stepped_places nexts ps s i) v (replicate (16 - suc i) 0)))

-- no journal has more than 200 steps
short_at : (js : List (List ℕ)) → EachJournal js → (i : ℕ) → length (get_or js i []) ≤ 200
short_at [] h i = omega arith
short_at (j ∷ js) h zero = h.0.0
short_at (j ∷ js) h (suc i) = short_at js h.1 i

module _ (js : List (List ℕ)) (are : AreJournals js) (nexts : List ℕ) (tabled : Tabled js nexts) where
  -- one place in the table is the next place
  next_at_lem : (i p s : ℕ) → i < length js → s < 16 → next_at nexts i p s ≡ next (get_or js i []) p s
  next_at_lem i p s h l =
      test (ltb 200 p) (λ t. next_lost nexts i p s (ltb-true 200 p t) ∙ sym (next_behind (get_or js i []) p s (omega (arith, short_at js are.each i, ltb-true 200 p t))))
      (λ f. let b : p ≤ 200 = ltb-false 200 p f in
      let d : (16 * p + s) / 16 ≡ p = omega arith in
      let m : (16 * p + s) % 16 ≡ s = omega arith in
      next_read nexts i p s b ∙ tabled i (16 * p + s) h (omega arith) ∙ ap₂ (λ (x y : ℕ). next (get_or js i []) x y) d m)

  module _ (key : List ℕ) (s : ℕ) (room : length js ≤ length key) (small : s < 16) where
    width : length (take (length js) key) ≡ length js
    width = length-take-le (length js) key room

    stepped_places_lem : stepped_places nexts key s (length js) ≡ step js (take (length js) key) s
    stepped_places_lem =
        ext_get_or 0 (stepped_places nexts key s (length js)) (step js (take (length js) key) s)
        (length_stepped nexts key s (length js) ∙ sym (step_length js (take (length js) key) s width))
        (λ i h. let b : i < length js = omega (arith, length_stepped nexts key s (length js)) in
        stepped_at nexts key s (length js) i b ∙ next_at_lem i (get_or key i 0) s b small
        ∙ ap (λ (p : ℕ). next (get_or js i []) p s) (sym (get_or-take (length js) key i 0 b)) ∙ sym (step_at js (take (length js) key) s i b width))

    -- a key stepped is the key of the state that the step leads to
    pub stepped_key_lem : key_of_stepped nexts (length js) key s ≡ place_bytes (step js (take (length js) key) s)
    unfolding key_of_stepped
    stepped_key_lem = ap place_bytes stepped_places_lem
