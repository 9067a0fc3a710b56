-- A longer word is in no more journals, since deleting its last steps leaves it in, and a live state that a step reaches stands after the one that it comes from,
-- since places only rise. Assumes nothing.
use Prim.Native.Nat.{ℕ, ◌≤◌, ◌<◌}
use native.Mathlib.Omega.{arith}
use mathlib.Core.Path.{◌≡◌, refl, sym, ◌∙◌}
use mathlib.Core.Logic.{◌⊎◌, inl, inr, ⊎_elim}
use mathlib.Core.Bool.{true, false, false≢true}
use mathlib.Core.List.Sublistᴰ
use mathlib.Core.List.{List, [], ◌∷◌, ◌++◌, append-nil}
use lib.ListN.{length, drop, length-drop}
use lib.Seq.{append_snoc}
use Rattle.words.specs.Limits.{lost}
use Rattle.words.specs.Order.{before}
use Rattle.words.specs.Places.{find, next, place_from, state, step, live}
use Rattle.words.specs.Words.{In, is_in, count}
use Rattle.words.proofs.Members.{state_snoc, live_step}
use Rattle.words.proofs.Order.{less_before, same_before}
use Rattle.words.proofs.Place.{Short, Missed, Hit, find_spec, next_is, in_left, left_in}
use Rattle.words.proofs.Test.{test}

left_front : (w v j : List ℕ) → In (w ++ v) j → In w j
left_front w v j d = Sublistᴰ.trans (rw append-nil at (Sublistᴰ.append (Sublistᴰ.refl w) (Sublistᴰ.nil-sublist v))) d

-- a word's count is no more than that of the word without its last steps
pub count_falls : (js : List (List ℕ)) (w v : List ℕ) → count js (w ++ v) ≤ count js w
count_falls [] w v = omega arith
count_falls (j ∷ js) w v =
    test (is_in (w ++ v) j) (λ t. rw (t, left_in w j (left_front w v j (in_left (w ++ v) j t))) (omega (arith, count_falls js w v)))
    (λ f. test (is_in w j) (λ t. rw (f, t) (omega (arith, count_falls js w v))) (λ g. rw (f, g) (count_falls js w v)))

-- a word that is live nowhere has no live extension
pub dead_stays : (js : List (List ℕ)) (v w : List ℕ) → live (state js v) ≡ false → live (state js (v ++ w)) ≡ false
dead_stays js v [] f = rw append-nil f
dead_stays js v (s ∷ w) f = rw (append_snoc v s w) at (dead_stays js (v ++ (s ∷ [])) w (rw (state_snoc js v s) (dead_step (λ t. live_step js (state js v) s t))))
  where
    dead_step : (live (step js (state js v) s) ≡ true → live (state js v) ≡ true) → live (step js (state js v) s) ≡ false
    dead_step back = test (live (step js (state js v) s)) (λ t. absurd (false≢true (sym f ∙ back t))) (λ n. n)

-- each place is lost or within its journal
abbrev pub Within : List (List ℕ) → List ℕ → Type 0
Within [] ps = ps ≡ []
Within (j ∷ js) [] = ⊥
Within (j ∷ js) (p ∷ ps) = ((p ≡ lost) ⊎ (p ≤ length j)) × Within js ps

next_rises : (j : List ℕ) (p s : ℕ) → length j < lost → p ≤ length j → p < next j p s
next_rises j p s h k = rw (next_is j p s (omega arith)) (⊎_elim (λ (m : Missed s (drop p j) (find s (drop p j) p)). omega (arith, m.0)) (λ (i : Hit s j (drop p j) p (find s (drop p j) p)). i.above) (find_spec s j (drop p j) p refl))

next_within : (j : List ℕ) (p s : ℕ) → length j < lost → (p ≡ lost) ⊎ (p ≤ length j) → (next j p s ≡ lost) ⊎ (next j p s ≤ length j)
next_within j p s h (inl e) = inl (rw e)
next_within j p s h (inr k) =
    rw (next_is j p s (omega arith)) (⊎_elim (λ (m : Missed s (drop p j) (find s (drop p j) p)). inl m.0) (λ (i : Hit s j (drop p j) p (find s (drop p j) p)). inr (omega (arith, i.within, length-drop p j))) (find_spec s j (drop p j) p refl))

-- a step keeps them so
pub step_within : (js : List (List ℕ)) (ps : List ℕ) (s : ℕ) → Short js → Within js ps → Within js (step js ps s)
step_within [] ps s h k = refl
step_within (j ∷ js) [] s h k = k
step_within (j ∷ js) (p ∷ ps) s h k = (next_within j p s h.0 k.0, step_within js ps s h.1 k.1)

place_within : (j w : List ℕ) (p : ℕ) → length j < lost → (p ≡ lost) ⊎ (p ≤ length j) → (place_from j p w ≡ lost) ⊎ (place_from j p w ≤ length j)
place_within j [] p h k = k
place_within j (s ∷ w) p h k = place_within j w (next j p s) h (next_within j p s h k)

-- the places of every state are so
pub state_within : (js : List (List ℕ)) (w : List ℕ) → Short js → Within js (state js w)
state_within [] w h = refl
state_within (j ∷ js) w h = (place_within j w 0 h.0 (inr (omega arith)), state_within js w h.1)

-- a live state that a step leads to stands after the state that it comes from
pub step_after : (js : List (List ℕ)) (ps : List ℕ) (s : ℕ) → Short js → Within js ps → live (step js ps s) ≡ true → before ps (step js ps s) ≡ true
step_after [] ps s h k t = absurd (false≢true t)
step_after (j ∷ js) [] s h k t = absurd k
step_after (j ∷ js) (p ∷ ps) s h k t = go k.0 (λ u. step_after js ps s h.1 k.1 u)
  where
    go : (p ≡ lost) ⊎ (p ≤ length j) → (live (step js ps s) ≡ true → before ps (step js ps s) ≡ true) → before (p ∷ ps) (next j p s ∷ step js ps s) ≡ true
    go (inl e) ih = same_before p (next j p s) ps (step js ps s) (rw e) (ih (rw e at t))
    go (inr b) ih = less_before p (next j p s) ps (step js ps s) (next_rises j p s h.0 b)
