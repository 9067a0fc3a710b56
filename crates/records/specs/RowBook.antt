-- The row book: 1,000 records of 64 bytes each. Assumes nothing.
use Rattle.std.specs.Prelude.{ℕ, ◌+◌, ◌-◌, ◌*◌, List, ◌∷◌, ◌++◌, map, length, take, drop, replicate, get_or}
use Rattle.words.specs.Limits.{most_journals}
use Rattle.words.specs.Places.{held}
use Rattle.words.specs.Picture.{picture, arcs, steps}
use Rattle.records.specs.Sizes.{row_record_size, most_rows}
use Rattle.records.specs.Bytes.{flat, two_bytes}

-- a row's 64 bytes: 16 places, 16 arcs of two bytes each, low byte first, the count in byte 48, and what stands behind it
unfoldable pub record_of_row : List ℕ → List ℕ → ℕ → List ℕ → List ℕ
record_of_row places arcs count behind = places ++ two_bytes arcs ++ (count ∷ behind)

-- a state's places as bytes: a journal that isn't open has 0
abbrev pub place_bytes : List ℕ → List ℕ
place_bytes a = a ++ replicate (most_journals - length a) 0

-- what a row's count counts: the open journals in which the state's place isn't lost
abbrev pub count_byte : List ℕ → ℕ
count_byte a = held a

-- what stands behind the count: 15 zeros
abbrev pub behind_count : List ℕ
behind_count = replicate 15 0

-- the row of a state in the picture
abbrev pub row_bytes : List (List ℕ) → List ℕ → List ℕ
row_bytes js a = record_of_row (place_bytes a) (arcs js (picture js) a) (count_byte a) behind_count

-- the records behind the first n, all zero
abbrev pub unused : ℕ → List ℕ
unused n = replicate (row_record_size * (most_rows - n)) 0

-- a row book with the record that f makes of each of l, in their order
abbrev pub book_of : (List ℕ → List ℕ) → List (List ℕ) → List ℕ
book_of f l = flat f l ++ unused (length l)

-- the picture as a book: a record for each live state
unfoldable pub row_book : List (List ℕ) → List ℕ
row_book js = book_of (row_bytes js) (picture js)

-- a row's places, in any book
abbrev pub places_at : List ℕ → ℕ → List ℕ
places_at b r = take most_journals (drop (row_record_size * r) b)

-- a row's count byte, in any book
abbrev pub count_at : List ℕ → ℕ → ℕ
count_at b r = get_or b (row_record_size * r + 48) 0

-- a row's arc under step s, in any book
abbrev pub arc_at : List ℕ → ℕ → ℕ → ℕ
arc_at b r s = get_or b (row_record_size * r + (16 + 2 * s)) 0 + 256 * get_or b (row_record_size * r + (17 + 2 * s)) 0

-- a row's arcs by step, in any book
abbrev pub arcs_at : List ℕ → ℕ → List ℕ
arcs_at b r = map (arc_at b r) steps
