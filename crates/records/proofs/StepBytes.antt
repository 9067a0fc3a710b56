-- Steps and their bytes: each gives the other back, since the length says where the steps end and the rest is zero. Assumes nothing.
use Prim.Native.Nat.{ℕ, suc, ◌+◌, ◌-◌, ◌≤◌}
use native.Mathlib.Omega.{arith}
use mathlib.Core.Path.{◌≡◌, refl, ap, ◌∙◌}
use mathlib.Core.Logic.{◌↔◌}
use mathlib.Core.Bool.{true, ◌&&◌}
use mathlib.Core.List.{List, [], ◌∷◌, ◌++◌}
use lib.ListN.{length, take, drop, replicate, length-append, length-replicate, length-drop, take-append-drop}
use lib.Seq.{take_at, drop_at, length-take-le}
use lib.Dec.{leb}
use borrow.Author.Tests.{leb-true, le-leb}
use Rattle.records.specs.Bytes.{all_below, all_zero}
use Rattle.records.specs.StepBytes.{steps_of, steps_form, step_bytes}
use Rattle.records.specs.WordRecord.{word_form, word_of, word_record}
use Rattle.words.specs.Words.{IsWord}
use Rattle.records.proofs.Tests.{both, below_word, word_below, zero_eq, eq_zero}

-- the steps of their bytes
pub steps_back : (room : ℕ) (w : List ℕ) → steps_of (step_bytes room w) ≡ w
unfolding step_bytes
steps_back room w = take_at w (replicate (room - length w) 0) (length w) refl

-- what stands behind the length and as many bytes
behind : (n : ℕ) (b : List ℕ) → drop (1 + n) (n ∷ b) ≡ drop n b
behind n b = let e : 1 + n ≡ suc n = omega arith in rw e

-- the bytes of a word have the form
pub step_bytes_form : (room most : ℕ) (w : List ℕ) → IsWord w → length w ≤ most → steps_form most (step_bytes room w) ≡ true
unfolding step_bytes
step_bytes_form room most w k h =
    let z : List ℕ = replicate (room - length w) 0 in
    rw (le-leb (length w) most h, steps_back room w, word_below w k, behind (length w) (w ++ z), drop_at w z (length w) refl) (eq_zero (room - length w))

-- the bytes fill the room and the byte of the length
pub step_bytes_length : (room : ℕ) (w : List ℕ) → length w ≤ room → length (step_bytes room w) ≡ suc room
unfolding step_bytes
step_bytes_length room w h = omega (arith, length-append w (replicate (room - length w) 0), length-replicate {A = ℕ} (room - length w) 0)

-- bytes of the form are the bytes of their steps
pub form_steps : (room most : ℕ) (b : List ℕ) → length b ≡ suc room → most ≤ room → steps_form most b ≡ true
    → (b ≡ step_bytes room (steps_of b)) × (length (steps_of b) ≤ most) × IsWord (steps_of b)
unfolding step_bytes
form_steps room most [] l h t = absurd (omega arith)
form_steps room most (n ∷ b) l h t =
    let p = both (leb n most) (all_below 16 (take n b) && all_zero (drop (1 + n) (n ∷ b))) t in
    let q = both (all_below 16 (take n b)) (all_zero (drop (1 + n) (n ∷ b))) p.1 in
    let m = leb-true n most p.0 in
    let e : length (take n b) ≡ n = length-take-le n b (omega arith) in
    let z : length (drop n b) ≡ room - n = omega (arith, length-drop n b) in
    let zeros : drop n b ≡ replicate (room - n) 0 = zero_eq (drop n b) (rw behind at q.1) ∙ ap (λ (k : ℕ). replicate k 0) z in
    (rw (e, ← zeros, take-append-drop n b), omega arith, below_word (take n b) q.0)

-- 16 bytes have the form exactly when they are a word's record
pub word_record_form : (r : List ℕ) → length r ≡ 16 → (word_form r ≡ true) ↔ ((w : List ℕ) × IsWord w × (length w ≤ 15) × (r ≡ word_record w))
word_record_form r l = (there, back)
  where
    there : word_form r ≡ true → (w : List ℕ) × IsWord w × (length w ≤ 15) × (r ≡ word_record w)
    there t = let f = form_steps 15 15 r l (omega arith) t in (word_of r, f.2, f.1, f.0)

    back : (w : List ℕ) × IsWord w × (length w ≤ 15) × (r ≡ word_record w) → word_form r ≡ true
    back p = rw p.3 (step_bytes_form 15 15 p.0 p.1 p.2)

-- the word of its record
pub word_of_record : (w : List ℕ) → word_of (word_record w) ≡ w
word_of_record w = steps_back 15 w
