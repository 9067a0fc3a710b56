-- A word moves by its last step: it is its steps before the last one, and the last one. Assumes nothing.
use Prim.Native.Nat.{ℕ, zero, suc, ◌+◌, ◌-◌, ◌≤◌, ◌<◌}
use native.Mathlib.Numerals.{add-one}
use native.Mathlib.Omega.{arith}
use mathlib.Core.Path.{◌≡◌, refl, sym, ap, ◌∙◌}
use mathlib.Core.List.{List, [], ◌∷◌, ◌++◌}
use lib.ListN.{length, take, drop, get_or, length-drop}
use lib.Seq.{take-suc, take-length, length-take-le}
use lib.Dec.{leb}
use borrow.Author.Tests.{leb-true}
use Rattle.std.specs.Prelude.{Some, None}
use Rattle.std.specs.List.{slice_get, slice_index}
use Rattle.std.proofs.lemmas.Option.{slice_get_within, slice_get-get_or, get_or_from_slice_get}
use mathlib.Core.Bool.{true}
use Rattle.records.specs.WordRecord.{word_form, word_of}
use Rattle.records.proofs.StepBytes.{form_steps}
use Rattle.records.proofs.Tests.{both}
use Rattle.words.specs.Listing.{list_of, past, Falling}
use Rattle.words.specs.Words.{IsWord}
use Rattle.words.proofs.Members.{snoc_steps}
use Rattle.next_word.specs.Next.{climbed, from_there}
use Rattle.next_word.proofs.Climb.{climbed_raise, climbed_shorten, climb_after}

-- the first steps of a word are a word
pub take_word : (n : ℕ) (w : List ℕ) → IsWord w → IsWord (take n w)
take_word zero w k = tt
take_word (suc n) [] k = tt
take_word (suc n) (s ∷ w) k = (k.0, take_word n w k.1)

-- and so are they with one more step behind them
pub step_behind : (n : ℕ) (w : List ℕ) (s : ℕ) → IsWord w → s < 16 → IsWord (take n w ++ (s ∷ []))
step_behind n w s k h = snoc_steps (take n w) s (take_word n w k) h

module _ (w : List ℕ) where
  abbrev n : ℕ
  n = length w - 1

  pub last_step : 0 < length w → w ≡ take n w ++ (slice_index w n ∷ [])
  last_step h =
      let e : suc n ≡ length w = omega arith in
      sym (take-length w) ∙ ap (λ (k : ℕ). take k w) (sym e) ∙ take-suc w n 0 (omega arith)

  -- the steps before the last one are a word
  pub front_word : IsWord w → IsWord (take n w)
  front_word k = take_word n w k

  -- and so are they with the last one raised
  pub raised_word : IsWord w → slice_index w n < 15 → IsWord (take n w ++ ((slice_index w n + 1) ∷ []))
  raised_word k h = step_behind n w (slice_index w n + 1) k (omega arith)

  module _ (s : ℕ) (some : Some s ≡ slice_get w n) where
    steps_are : w ≡ take n w ++ (s ∷ [])
    steps_are =
        let h = slice_get_within w n s (sym some) in
        last_step (omega arith) ∙ ap (λ (x : ℕ). take n w ++ (x ∷ [])) (get_or_from_slice_get w n s 0 (sym some))

    -- a word whose last step can be raised climbs by that
    pub raised : s < 15 → climbed w ≡ (take n w ++ ((slice_index w n + 1) ∷ [])) ∷ []
    raised h = ap climbed steps_are ∙ rw (get_or_from_slice_get w n s 0 (sym some), add-one) (climbed_raise (take n w) s h)

    -- another as the word without that step
    pub shortened : 15 ≤ s → climbed w ≡ climbed (take n w)
    shortened h = ap climbed steps_are ∙ climbed_shorten (take n w) s h

-- and one with no last step nowhere
pub nowhere : (w : List ℕ) → None ≡ slice_get w (length w - 1) → climbed w ≡ []
unfolding climbed
nowhere [] e = refl
nowhere (s ∷ w) e =
    let n : length (s ∷ w) - 1 ≡ length w = omega arith in
    let h = slice_get-get_or (s ∷ w) (length w) 0 (omega arith) in
    let k = rw n at e in
    cc

-- after a word that has no room for a further step the list goes on from where it climbs to
pub climbed_past : (count : List ℕ → ℕ) → Falling count → (q n : ℕ) (w : List ℕ) (ds : List (List ℕ)) → n ≤ length w → ds ≡ climbed w
    → past w (list_of count q n) ≡ from_there ds (list_of count q n)
climbed_past count fall q n w ds h to = climb_after count fall q n w h ∙ ap (λ (es : List (List ℕ)). from_there es (list_of count q n)) (sym to)

-- a word record of right form says its word's length, at most 15, and its steps are codes
pub record_word : (r : List ℕ) → length r ≡ 16 → word_form r ≡ true → (get_or r 0 0 ≤ 15) × (length (word_of r) ≡ get_or r 0 0) × IsWord (word_of r)
record_word r l t =
    let f = form_steps 15 15 r l (omega arith) t in
    let h = leb-true (get_or r 0 0) 15 (both (leb (get_or r 0 0) 15) _ t).0 in
    (h, length-take-le (get_or r 0 0) (drop 1 r) (omega (arith, length-drop 1 r)), f.2)
