-- Where each byte of a row record stands: its parts stand one after the other, each of its own width. Assumes nothing.
use Prim.Native.Nat.{ℕ, zero, suc, ◌+◌, ◌-◌, ◌*◌, ◌/◌, ◌%◌, ◌≤◌, ◌<◌}
use native.Mathlib.Omega.{arith}
use mathlib.Core.Path.{◌≡◌, refl, sym, ap, ◌∙◌}
use mathlib.Core.List.{List, [], ◌∷◌, ◌++◌}
use lib.ListN.{length, get_or, length-append, get_or-append}
use lib.Seq.{get_or-append-add, get_or_at}
use Rattle.records.specs.Bytes.{two_bytes}
use Rattle.records.specs.RowBook.{record_of_row}

-- two bytes for each number
length_two : (ns : List ℕ) → length (two_bytes ns) ≡ 2 * length ns
length_two [] = refl
length_two (n ∷ ns) = omega (arith, length_two ns)

two_low : (ns : List ℕ) (k : ℕ) → k < length ns → get_or (two_bytes ns) (2 * k) 0 ≡ get_or ns k 0 % 256
two_low [] k h = absurd (omega arith)
two_low (n ∷ ns) zero h = refl
two_low (n ∷ ns) (suc k) h = let e : 2 * suc k ≡ suc (suc (2 * k)) = omega arith in rw e (two_low ns k (omega arith))

two_high : (ns : List ℕ) (k : ℕ) → k < length ns → get_or (two_bytes ns) (1 + 2 * k) 0 ≡ get_or ns k 0 / 256
two_high [] k h = absurd (omega arith)
two_high (n ∷ ns) zero h = refl
two_high (n ∷ ns) (suc k) h = let e : 1 + 2 * suc k ≡ suc (suc (1 + 2 * k)) = omega arith in rw e (two_high ns k (omega arith))

module _ (places arcs : List ℕ) (count : ℕ) (behind : List ℕ) (p : length places ≡ 16) (a : length arcs ≡ 16) where
  abbrev Bytes : List ℕ
  Bytes = record_of_row places arcs count behind

  abbrev Front : List ℕ
  Front = places ++ two_bytes arcs

  length_front : length Front ≡ 48
  length_front = omega (arith, length-append places (two_bytes arcs), length_two arcs)

  -- a record has 64 bytes
  pub record_length : length behind ≡ 15 → length Bytes ≡ 64
  unfolding record_of_row
  record_length h = omega (arith, length-append Front (count ∷ behind), length_front)

  in_front : (c : ℕ) → c < 48 → get_or Bytes c 0 ≡ get_or Front c 0
  unfolding record_of_row
  in_front c h = get_or-append Front (count ∷ behind) 0 c (omega (arith, length_front))

  -- bytes 0 to 15 are the places
  pub byte_place : (c : ℕ) → c < 16 → get_or Bytes c 0 ≡ get_or places c 0
  byte_place c h = in_front c (omega arith) ∙ get_or-append places (two_bytes arcs) 0 c (omega arith)

  in_arcs : (c i : ℕ) → i < 32 → c ≡ length places + i → get_or Bytes c 0 ≡ get_or (two_bytes arcs) i 0
  in_arcs c i h e = in_front c (omega arith) ∙ rw e (get_or-append-add places (two_bytes arcs) i 0)

  -- of bytes 16 to 47 the even ones are the arcs' low bytes
  pub byte_low : (c : ℕ) → 16 ≤ c → c < 48 → c % 2 ≡ 0 → get_or Bytes c 0 ≡ get_or arcs ((c - 16) / 2) 0 % 256
  byte_low c l h e = in_arcs c (2 * ((c - 16) / 2)) (omega arith) (omega arith) ∙ two_low arcs ((c - 16) / 2) (omega arith)

  -- the odd ones are their high bytes
  pub byte_high : (c : ℕ) → 16 ≤ c → c < 48 → (c % 2 ≡ 0 → ⊥) → get_or Bytes c 0 ≡ get_or arcs ((c - 16) / 2) 0 / 256
  byte_high c l h n = in_arcs c (1 + 2 * ((c - 16) / 2)) (omega arith) (omega arith) ∙ two_high arcs ((c - 16) / 2) (omega arith)

  -- so the two bytes of a step are its arc
  pub bytes_arc : (s : ℕ) → s < 16 → get_or Bytes (16 + 2 * s) 0 + 256 * get_or Bytes (17 + 2 * s) 0 ≡ get_or arcs s 0
  bytes_arc s h =
      let low = in_arcs (16 + 2 * s) (2 * s) (omega arith) (omega arith) ∙ two_low arcs s (omega arith) in
      let high = in_arcs (17 + 2 * s) (1 + 2 * s) (omega arith) (omega arith) ∙ two_high arcs s (omega arith) in
      omega (arith, low, high)

  -- byte 48 is the count
  pub byte_count : (c : ℕ) → c ≡ 48 → get_or Bytes c 0 ≡ count
  unfolding record_of_row
  byte_count c e = get_or_at Front count behind 0 c (length_front ∙ sym e)

  -- the bytes from 49 on stand behind it
  pub byte_behind : (c : ℕ) → 48 < c → get_or Bytes c 0 ≡ get_or behind (c - 49) 0
  unfolding record_of_row
  byte_behind c l =
      let e : c ≡ length Front + suc (c - 49) = omega (arith, length_front) in
      ap (λ (m : ℕ). get_or (Front ++ count ∷ behind) m 0) e ∙ get_or-append-add Front (count ∷ behind) (suc (c - 49)) 0
