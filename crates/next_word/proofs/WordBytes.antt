-- A word moves in its word record: byte 0 says how many steps it has, the steps stand behind that byte, and zeros behind them. Assumes nothing.
use Prim.Native.Nat.{ℕ, zero, suc, ◌+◌, ◌-◌, ◌≤◌, ◌<◌}
use native.Mathlib.Omega.{arith}
use mathlib.Core.Path.{◌≡◌, refl, sym, ap, ◌∙◌}
use mathlib.Core.Bool.{true}
use mathlib.Core.List.{List, [], ◌∷◌, ◌++◌}
use lib.ListN.{length, take, get_or, set, replicate, length-append, length-take}
use lib.Seq.{append_snoc, set-append_seam, get_or-take}
use Rattle.std.specs.List.{slice_index}
use Rattle.records.specs.StepBytes.{step_bytes}
use Rattle.records.specs.WordRecord.{word_form, word_of, word_record}
use Rattle.records.proofs.StepBytes.{form_steps, step_bytes_form, step_bytes_length, word_of_record}
use Rattle.words.specs.Words.{IsWord}
use Rattle.next_word.proofs.WordMoves.{last_step, front_word, raised_word, record_word}
use Rattle.words.proofs.Members.{snoc_steps}

-- a record of right form is the record of its word
pub record_back : (r : List ℕ) → length r ≡ 16 → word_form r ≡ true → word_record (word_of r) ≡ r
record_back r l t = sym (form_steps 15 15 r l (omega arith) t).0

-- r is a word record of right form, and w its word
pub record Holds (r w : List ℕ) : Type 0 where
  pub size : length r ≡ 16
  pub form : word_form r ≡ true
  pub word : word_of r ≡ w

holds : (r w : List ℕ) → r ≡ word_record w → IsWord w → length w ≤ 15 → Holds r w
holds r w e k h = rw e (record { size = step_bytes_length 15 w h; form = step_bytes_form 15 15 w k h; word = word_of_record w })

-- a length of one more makes a step of the first zero
set_longer : (w : List ℕ) → length w < 15 → set (word_record w) 0 (length w + 1) ≡ word_record (w ++ (0 ∷ []))
unfolding step_bytes
set_longer w h =
    let z : 15 - length w ≡ suc (15 - (length w + 1)) = omega arith in
    rw (length-append w (0 ∷ []), append_snoc w 0 (replicate (15 - (length w + 1)) 0), z)

module _ (u : List ℕ) (x : ℕ) where
  -- a store at the last step
  set_last : (s : ℕ) → set (word_record (u ++ (x ∷ []))) (suc (length u)) s ≡ word_record (u ++ (s ∷ []))
  unfolding step_bytes
  set_last s =
      let z : List ℕ = replicate (15 - (length u + 1)) 0 in
      rw (length-append u (x ∷ []), length-append u (s ∷ []), append_snoc u x z, append_snoc u s z, set-append_seam u x z s)

  -- a zero there, and a length of one less, drop it
  set_shorter : length u < 15 → set (set (word_record (u ++ (x ∷ []))) (suc (length u)) 0) 0 (length u) ≡ word_record u
  unfolding step_bytes
  set_shorter h = ap (λ (r : List ℕ). set r 0 (length u)) (set_last 0 ∙ sym (set_longer u h))

-- byte n of a word of n steps is its last one
last_byte : (r : List ℕ) (n : ℕ) → n ≡ get_or r 0 0 → 0 < n → get_or r n 0 ≡ slice_index (word_of r) (n - 1)
last_byte [] n e h = absurd (omega arith)
last_byte (m ∷ b) zero e h = absurd (omega arith)
last_byte (m ∷ b) (suc k) e h = let d : suc k - 1 ≡ k = omega arith in rw d (sym (get_or-take m b k 0 (omega arith)))

-- where there is none, a zero there and no length change nothing
no_byte : (r : List ℕ) (n : ℕ) → n ≡ get_or r 0 0 → n ≡ 0 → set (set r n 0) 0 (n - 1) ≡ r
no_byte [] n e z = refl
no_byte (m ∷ b) n e z = let y : m ≡ 0 = sym e ∙ z in rw (z, y)

no_step : (w : List ℕ) → length w ≡ 0 → w ≡ take (length w - 1) w
no_step [] e = refl
no_step (s ∷ w) e = absurd (omega arith)

stored : (r r' : List ℕ) (n n' s s' : ℕ) → r ≡ r' → n ≡ n' → s ≡ s' → set r n s ≡ set r' n' s'
stored r r' n n' s s' e f g = rw (e, f, g)

module _ (r : List ℕ) (l : length r ≡ 16) (t : word_form r ≡ true) where
  abbrev w : List ℕ
  w = word_of r

  abbrev n : ℕ
  n = get_or r 0 0

  abbrev front : List ℕ
  front = take (length w - 1) w

  abbrev last : ℕ
  last = slice_index w (length w - 1)

  -- byte 0 is raised
  pub longer : length w < 15 → Holds (set r 0 (n + 1)) (w ++ (0 ∷ []))
  longer h =
      let k = record_word r l t in
      holds (set r 0 (n + 1)) (w ++ (0 ∷ []))
      (stored r (word_record w) 0 0 (n + 1) (length w + 1) (sym (record_back r l t)) refl (omega (arith, k.1)) ∙ set_longer w h)
      (snoc_steps w 0 k.2 (omega arith)) (omega (arith, k.1, length-append w (0 ∷ [])))

  module _ (some : 0 < length w) where
    split : r ≡ word_record (front ++ (last ∷ []))
    split = sym (record_back r l t) ∙ ap word_record (last_step w some)

    behind : n ≡ suc (length front)
    behind = omega (arith, (record_word r l t).1, length-take (length w - 1) w)

    -- byte n is raised
    pub higher : last < 15 → Holds (set r n (get_or r n 0 + 1)) (front ++ ((last + 1) ∷ []))
    higher h =
        let k = record_word r l t in
        let b : get_or r n 0 ≡ last = ap (λ (m : ℕ). get_or r m 0) (sym k.1) ∙ last_byte r (length w) k.1 some in
        holds (set r n (get_or r n 0 + 1)) (front ++ ((last + 1) ∷ []))
        (stored r (word_record (front ++ (last ∷ []))) n (suc (length front)) (get_or r n 0 + 1) (last + 1) split behind (omega (arith, b)) ∙ set_last front last (last + 1))
        (raised_word w k.2 h) (omega (arith, behind, k.0, length-append front ((last + 1) ∷ [])))

    -- byte n is zero again, and byte 0 lowered
    dropped : Holds (set (set r n 0) 0 (n - 1)) front
    dropped =
        let k = record_word r l t in
        let long : List ℕ = word_record (front ++ (last ∷ [])) in
        let b : set r n 0 ≡ set long (suc (length front)) 0 = stored r long n (suc (length front)) 0 0 split behind refl in
        holds (set (set r n 0) 0 (n - 1)) front
        (stored (set r n 0) (set long (suc (length front)) 0) 0 0 (n - 1) (length front) b refl (omega (arith, behind)) ∙ set_shorter front last (omega (arith, behind, k.0)))
        (front_word w k.2) (omega (arith, behind, k.0))

  -- and where there is no step, nothing changes
  pub shorter : Holds (set (set r n 0) 0 (n - 1)) front
  shorter = go (length w) refl
    where
      go : (m : ℕ) → length w ≡ m → Holds (set (set r n 0) 0 (n - 1)) front
      go zero e = rw (no_byte r n refl (omega (arith, (record_word r l t).1))) (record { size = l; form = t; word = no_step w e })
      go (suc m) e = dropped (omega arith)
