-- The keys of states: states of one width are padded alike, so their keys stand in the order of the states, and what is done to the ascending keys
-- is done to the ascending states. Assumes nothing.
use Prim.Native.Nat.{ℕ, zero, suc, ◌-◌, ◌≤◌, ◌<◌}
use native.Mathlib.Omega.{arith}
use mathlib.Core.Path.{◌≡◌, refl, sym, ◌∙◌}
use mathlib.Core.List.{List, [], ◌∷◌, ◌++◌, map, Memᴰ}
use lib.ListN.{length, take, get_or, replicate, length-append, length-replicate}
use lib.Seq.{take_at}
use Rattle.words.specs.Order.{before, Ascending}
use Rattle.words.specs.Picture.{insert, row_of}
use Rattle.words.proofs.Opening.{map_ascending}
use Rattle.words.proofs.Order.{before_irrefl}
use Rattle.words.proofs.Test.{test}
use Rattle.records.specs.RowBook.{place_bytes}

-- what stands alike behind both leaves their order
pad_order : (a b z : List ℕ) → length a ≡ length b → before (a ++ z) (b ++ z) ≡ before a b
pad_order [] [] z e = before_irrefl z
pad_order [] (y ∷ b) z e = absurd (omega arith)
pad_order (x ∷ a) [] z e = absurd (omega arith)
pad_order (x ∷ a) (y ∷ b) z e = rw (pad_order a b z (omega arith))

-- keys stand in the order of their states
pub place_order : (a b : List ℕ) → length a ≡ length b → before (place_bytes a) (place_bytes b) ≡ before a b
place_order a b e = rw e (pad_order a b (replicate (16 - length b) 0) e)

-- a key gives its state back
pub key_back : (a : List ℕ) → take (length a) (place_bytes a) ≡ a
key_back a = take_at a (replicate (16 - length a) 0) (length a) refl

-- a key has 16 bytes
pub key_length : (a : List ℕ) → length a ≤ 16 → length (place_bytes a) ≡ 16
key_length a h = omega (arith, length-append a (replicate (16 - length a) 0), length-replicate {A = ℕ} (16 - length a) 0)

-- every state of l has k places
abbrev pub Widths : ℕ → List (List ℕ) → Type 0
Widths k l = (a : List ℕ) → Memᴰ a l → length a ≡ k

-- the key at a number is the key of the state there
pub key_at : (l : List (List ℕ)) (i : ℕ) (d : List ℕ) → i < length l → get_or (map place_bytes l) i d ≡ place_bytes (get_or l i [])
key_at [] i d b = absurd (omega arith)
key_at (a ∷ l) zero d b = refl
key_at (a ∷ l) (suc i) d b = key_at l i d (omega arith)

module _ (k : ℕ) where
  -- the keys of ascending states ascend
  pub keys_ascending : (l : List (List ℕ)) → Widths k l → Ascending l → Ascending (map place_bytes l)
  keys_ascending l w h = map_ascending place_bytes l (λ a b m n t. place_order a b (w a m ∙ sym (w b n)) ∙ t) h

  -- a key inserted among keys is its state inserted among their states
  pub insert_keys : (q : List ℕ) (l : List (List ℕ)) → length q ≡ k → Widths k l → insert (place_bytes q) (map place_bytes l) ≡ map place_bytes (insert q l)
  insert_keys q [] e w = refl
  insert_keys q (b ∷ l) e w =
      let f : length q ≡ length b = e ∙ sym (w b (Memᴰ.head refl)) in
      rw (place_order q b f, place_order b q (sym f), insert_keys q l e (λ a m. w a (Memᴰ.tail m)))
      (test (before q b) (λ t. rw t) (λ n. test (before b q) (λ t. rw (n, t)) (λ m. rw (n, m))))

  -- the row number of a key is that of its state
  pub row_keys : (a : List ℕ) (l : List (List ℕ)) → length a ≡ k → Widths k l → (i : ℕ) → row_of (place_bytes a) i (map place_bytes l) ≡ row_of a i l
  row_keys a [] e w i = refl
  row_keys a (b ∷ l) e w i =
      let f : length a ≡ length b = e ∙ sym (w b (Memᴰ.head refl)) in
      rw (place_order a b f, place_order b a (sym f), row_keys a l e (λ c m. w c (Memᴰ.tail m)) (suc i))
