-- Rows laid one after the other in a book of zeros: the places of row i take the first 16 bytes of its record, and the other 48 stay zero. Assumes nothing.
use Prim.Native.Nat.{ℕ, ◌+◌, ◌*◌, ◌-◌, ◌≤◌, ◌<◌}
use native.Mathlib.Omega.{arith}
use mathlib.Core.Path.{◌≡◌, refl, sym, ap, ◌∙◌}
use mathlib.Core.List.{List, [], ◌++◌, append_assoc}
use lib.ListN.{length, take, drop, get_or, replicate, replicate-append-replicate}
use lib.Seq.{take_at}
use Rattle.words.proofs.Rows.{at_mem}
use Rattle.records.specs.Sizes.{row_book_size}
use Rattle.records.specs.RowBook.{record_of_row, behind_count, unused}
use Rattle.records.proofs.Flat.{Wide, flat_zeros}
use Rattle.records.proofs.RowRecord.{record_length}
use Rattle.records.proofs.Replaced.{replaced, replaced_none, replaced_on, from_item, behind}
use Rattle.picture.specs.Laid.{laid}

-- a record of zeros
abbrev pub blank : List ℕ → List ℕ
blank key = replicate 64 0

-- a laid record is its places, and zeros behind them
laid_zeros : (key : List ℕ) → laid key ≡ key ++ replicate 48 0
unfolding record_of_row
laid_zeros key = append_assoc key (replicate 32 0) (replicate 16 0)

-- the book of these keys with the rows from r on laid
abbrev pub laid_from : List (List ℕ) → ℕ → List ℕ
laid_from keys r = replaced blank laid keys (unused (length keys)) r

-- every key has 16 bytes
abbrev pub Sixteen : List (List ℕ) → Type 0
Sixteen keys = Wide (λ a. a) 16 keys

module _ (keys : List (List ℕ)) where
  -- no row is laid yet
  pub laid_start : length keys ≤ 1000 → replicate row_book_size 0 ≡ replaced blank laid keys (unused (length keys)) (length keys)
  laid_start h =
      let e : 64000 ≡ 64 * length keys + 64 * (1000 - length keys) = omega arith in
      ap (λ (m : ℕ). replicate m 0) e
      ∙ sym (replicate-append-replicate (64 * length keys) (64 * (1000 - length keys)) 0)
      ∙ ap (λ (l : List ℕ). l ++ unused (length keys)) (sym (flat_zeros 64 keys))
      ∙ replaced_none blank laid keys (unused (length keys))

  module _ (sixteen : Sixteen keys) where
    -- a laid record has 64 bytes
    pub laid_wide : Wide laid 64 keys
    laid_wide a m = record_length a (replicate 16 0) 0 behind_count (sixteen a m) refl refl

    module _ (z : List ℕ) (i : ℕ) (b : i < length keys) where
      abbrev Key : List ℕ
      Key = get_or keys i []

      key_sixteen : length Key ≡ 16
      key_sixteen = sixteen Key (at_mem keys i b)

      blank_wide : Wide blank 64 keys
      blank_wide a m = refl

      -- row i is laid
      pub lays : (rows : List ℕ) → rows ≡ replaced blank laid keys z (i + 1) → take (64 * i) rows ++ (Key ++ drop 16 (drop (64 * i) rows)) ≡ replaced blank laid keys z i
      lays rows e =
          let Book = replaced blank laid keys z (i + 1) in
          let rest : drop 16 (drop (64 * i) Book) ≡ replicate 48 0 ++ drop (64 * i + 64) Book
          = ap (drop 16) (from_item blank laid keys z 64 blank_wide i b)
          ∙ ap (λ (r : List ℕ). replicate 48 0 ++ r) (sym (behind blank laid keys z 64 blank_wide i b)) in
          rw (e, rest)
          (ap (λ (r : List ℕ). take (64 * i) Book ++ r) (sym (append_assoc Key (replicate 48 0) (drop (64 * i + 64) Book)))
          ∙ ap (λ (r : List ℕ). take (64 * i) Book ++ (r ++ drop (64 * i + 64) Book)) (sym (laid_zeros Key))
          ∙ replaced_on blank laid keys z 64 blank_wide i b)

      -- a laid row is read: its places are the key
      pub laid_places : (new : List ℕ → List ℕ) → take 16 (drop (64 * i) (replaced laid new keys z (i + 1))) ≡ Key
      laid_places new =
          ap (take 16) (from_item laid new keys z 64 laid_wide i b)
          ∙ rw (laid_zeros Key, append_assoc) (take_at Key _ 16 key_sixteen)
