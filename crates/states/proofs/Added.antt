-- A key put among keys if it is live: the two cases, and that on the keys of states it is the state put among the states. Assumes nothing.
use Prim.Native.Nat.{ℕ, suc, ◌≤◌}
use native.Mathlib.Omega.{arith}
use mathlib.Core.Path.{◌≡◌, refl, ap₂}
use mathlib.Core.Bool.{true, false}
use mathlib.Core.List.Memᴰ
use mathlib.Core.List.{List, [], ◌∷◌, map}
use lib.ListN.{length, take}
use Rattle.words.specs.Order.{before, Ascending}
use Rattle.words.specs.Places.{live}
use Rattle.words.specs.Picture.{insert, keep}
use Rattle.words.proofs.Order.{insert_ascending}
use Rattle.words.proofs.Sweep.{length_insert}
use Rattle.words.proofs.Test.{test}
use Rattle.records.specs.RowBook.{place_bytes}
use Rattle.records.proofs.Keys.{Widths, key_back, insert_keys}
use Rattle.states.specs.Stepped.{with_key}

-- a live key goes in, another does not
module _ (k : ℕ) (to key : List ℕ) (keys : List (List ℕ)) (e : to ≡ key) where
  pub goes_in : live (take k to) ≡ true → insert to keys ≡ with_key k key keys
  unfolding with_key
  goes_in t = rw (← e, t)

  pub stays_out : live (take k to) ≡ false → keys ≡ with_key k key keys
  unfolding with_key
  stays_out f = rw (← e, f)

-- keys that ascend ascend with it
pub with_ascending : (k : ℕ) (key : List ℕ) (keys : List (List ℕ)) → Ascending keys → Ascending (with_key k key keys)
unfolding with_key
with_ascending k key keys h = test (live (take k key)) (λ t. rw t (insert_ascending key keys h)) (λ f. rw f h)

-- an insertion adds at most one
insert_most : (q : List ℕ) (l : List (List ℕ)) → length (insert q l) ≤ suc (length l)
insert_most q [] = omega arith
insert_most q (a ∷ l) =
    test (before q a) (λ t. rw t (omega arith)) (λ f. test (before a q) (λ t. rw (f, t) (omega (arith, insert_most q l))) (λ g. rw (f, g) (omega arith)))

-- a state kept if it is live adds at most one, and takes none away
pub keep_most : (q : List ℕ) (l : List (List ℕ)) → length (keep q l) ≤ suc (length l)
keep_most q l = test (live q) (λ t. rw t (insert_most q l)) (λ f. rw f (omega arith))

pub keep_least : (q : List ℕ) (l : List (List ℕ)) → length l ≤ length (keep q l)
keep_least q l = test (live q) (λ t. rw t (length_insert q l)) (λ f. rw f (omega arith))

module _ (k : ℕ) where
  pub state_back : (q : List ℕ) → length q ≡ k → take k (place_bytes q) ≡ q
  state_back q e = rw (← e) (key_back q)

  -- keys give their states back
  pub states_back : (l : List (List ℕ)) → Widths k l → map (take k) (map place_bytes l) ≡ l
  states_back [] w = refl
  states_back (a ∷ l) w =
      ap₂ (λ (x : List ℕ) (y : List (List ℕ)). x ∷ y) (state_back a (w a (Memᴰ.head refl))) (states_back l (λ b m. w b (Memᴰ.tail m)))

  -- a state's key put among keys is the state put among their states
  pub with_keys : (q : List ℕ) (l : List (List ℕ)) → length q ≡ k → Widths k l → with_key k (place_bytes q) (map place_bytes l) ≡ map place_bytes (keep q l)
  unfolding with_key
  with_keys q l e w = rw (state_back q e, insert_keys k q l e w) (test (live q) (λ t. rw t) (λ f. rw f))
