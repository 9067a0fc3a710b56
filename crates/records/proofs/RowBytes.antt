-- Where each byte of a row book stands: records have one width, so record r begins at r widths. Each row's count byte is the count of every word that
-- leads there. Assumes nothing.
use Prim.Native.Nat.{ℕ, ◌+◌, ◌-◌, ◌*◌, ◌≤◌, ◌<◌}
use native.Mathlib.Omega.{arith}
use mathlib.Core.Path.{◌≡◌, refl, ap, ◌∙◌}
use mathlib.Core.Bool.{true}
use mathlib.Core.List.{List, Memᴰ}
use lib.ListN.{length, get_or, replicate, length-append, length-replicate}
use Rattle.records.specs.Bytes.{flat}
use Rattle.records.specs.RowBook.{place_bytes, count_byte, behind_count, row_bytes, row_book, count_at, arc_at}
use Rattle.words.specs.Picture.{row_of, arc, arcs, picture}
use Rattle.words.specs.Places.{state, live}
use Rattle.words.specs.Words.{IsWord, AreJournals, count}
use Rattle.records.proofs.Flat.{Wide, flat_at, length_flat}
use Rattle.records.proofs.Keys.{key_length}
use Rattle.records.proofs.RowRecord.{record_length, byte_place, bytes_arc, byte_count}
use Rattle.words.proofs.Codes.{at_step}
use Rattle.words.proofs.Members.{picture_ascending, picture_members}
use Rattle.words.proofs.Place.{Short, short, held_count, live_held, held_most}
use Rattle.words.proofs.Rows.{row_is, row_width}

module _ (js : List (List ℕ)) (h : Short js) (few : length js ≤ 16) where
  fits : (a : List ℕ) → Memᴰ a (picture js) → length (place_bytes a) ≡ 16
  fits a m = key_length a (omega (arith, row_width js h a m))

  -- each row of the picture has 64 bytes
  pub wide : Wide (row_bytes js) 64 (picture js)
  wide a m = record_length (place_bytes a) (arcs js (picture js) a) (count_byte a) behind_count (fits a m) refl refl

  -- a row book has its size
  pub length_book : length (picture js) ≤ 1000 → length (row_book js) ≡ 64000
  unfolding row_book
  length_book most =
      omega (arith, length-append (flat (row_bytes js) (picture js)) (replicate (64 * (1000 - length (picture js))) 0), length_flat (row_bytes js) 64 (picture js) wide, length-replicate {A = ℕ} (64 * (1000 - length (picture js))) 0)

  module _ (a : List ℕ) (m : Memᴰ a (picture js)) where
    abbrev Row : ℕ
    Row = row_of a 0 (picture js)

    abbrev Arcs : List ℕ
    Arcs = arcs js (picture js) a

    -- byte i of the row of a state
    pub byte_at : (i : ℕ) → i < 64 → get_or (row_book js) (64 * Row + i) 0 ≡ get_or (row_bytes js a) i 0
    unfolding row_book
    byte_at i b =
        let t = row_is a (picture js) (picture_ascending js) m in
        flat_at (row_bytes js) 64 (picture js) (replicate (64 * (1000 - length (picture js))) 0) wide Row i t.0 b
        ∙ ap (λ (c : List ℕ). get_or (row_bytes js c) i 0) t.1

    -- the places of the row of a state
    pub place_bytes_lem : (i : ℕ) → i < 16 → get_or (row_book js) (64 * Row + i) 0 ≡ get_or (place_bytes a) i 0
    place_bytes_lem i b = byte_at i (omega arith) ∙ byte_place (place_bytes a) Arcs (count_byte a) behind_count (fits a m) refl i b

    -- its arcs
    pub arc_bytes : (s : ℕ) → s < 16 → arc_at (row_book js) Row s ≡ arc js (picture js) a s
    arc_bytes s b =
        rw (byte_at (16 + 2 * s) (omega arith), byte_at (17 + 2 * s) (omega arith))
        (bytes_arc (place_bytes a) Arcs (count_byte a) behind_count (fits a m) refl s b ∙ at_step (arc js (picture js) a) s b)

    -- its count byte
    pub count_byte_lem : count_at (row_book js) Row ≡ count_byte a
    count_byte_lem = byte_at 48 (omega arith) ∙ byte_count (place_bytes a) Arcs (count_byte a) behind_count (fits a m) refl 48 refl

    -- which is 1 to 16
    pub count_least : 1 ≤ count_at (row_book js) Row
    count_least = omega (arith, count_byte_lem, live_held a ((picture_members js h a).0 m).0)

    pub count_most : count_at (row_book js) Row ≤ 16
    count_most = omega (arith, count_byte_lem, held_most a, row_width js h a m)

-- the count byte of a row is the count of every word that leads there
pub row_counts : (js : List (List ℕ)) → AreJournals js → (w : List ℕ) → IsWord w → live (state js w) ≡ true
    → count_at (row_book js) (row_of (state js w) 0 (picture js)) ≡ count js w
row_counts js k w i t =
    let h = short js k.each in
    count_byte_lem js h k.few (state js w) ((picture_members js h (state js w)).1 (t, (w, i, refl))) ∙ held_count js w h
