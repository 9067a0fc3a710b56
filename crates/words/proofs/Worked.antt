-- P1 to P10 of document 01, as one table: what the definitions compute, beside what the document says. Assumes nothing.
use Prim.Native.Nat.{ℕ}
use mathlib.Core.Path.{◌≡◌, refl}
use mathlib.Core.List.{List, [], ◌∷◌, map}
use lib.ListN.{length}
use Rattle.words.specs.Journals.{appended}
use Rattle.words.specs.Limits.{lost}
use Rattle.words.specs.Listing.{list_of}
use Rattle.words.specs.Picture.{picture, arcs}
use Rattle.words.specs.Places.{held}
use Rattle.words.specs.Words.{count}

pub record Line : Type 0 where
  pub computed : List (List ℕ)
  pub said : List (List ℕ)

-- Journals 1 2 1 and 1 1 2.
abbrev pub two : List (List ℕ)
two = (1 ∷ 2 ∷ 1 ∷ []) ∷ (1 ∷ 1 ∷ 2 ∷ []) ∷ []

-- Journals 1 1 and empty.
abbrev pub ten : List (List ℕ)
ten = (1 ∷ 1 ∷ []) ∷ [] ∷ []

abbrev pub numbers : List ℕ → List (List ℕ)
numbers l = l ∷ []

abbrev pub table : List Line
table =
    -- P1 rows in order: (0,0) (1,1) (2,3) (3,2) (3,lost) (lost,3).
    record {
      computed = picture two;
      said = (0 ∷ 0 ∷ []) ∷ (1 ∷ 1 ∷ []) ∷ (2 ∷ 3 ∷ []) ∷ (3 ∷ 2 ∷ []) ∷ (3 ∷ lost ∷ []) ∷ (lost ∷ 3 ∷ []) ∷ [];
    }
    -- P2 counts 2 2 2 2 1 1.
    ∷ record { computed = numbers (map held (picture two)); said = numbers (2 ∷ 2 ∷ 2 ∷ 2 ∷ 1 ∷ 1 ∷ []) }
    -- P3 arcs: row 0 by 1 to 1, by 2 to 2; row 1 by 1 to 3, by 2 to 2; row 2 by 1 to 4; row 3 by 2 to 5; no others.
    ∷ record {
      computed = map (λ a. arcs two (picture two) a) (picture two);
      said =
          (0 ∷ 1 ∷ 2 ∷ 0 ∷ 0 ∷ 0 ∷ 0 ∷ 0 ∷ 0 ∷ 0 ∷ 0 ∷ 0 ∷ 0 ∷ 0 ∷ 0 ∷ 0 ∷ [])
          ∷ (0 ∷ 3 ∷ 2 ∷ 0 ∷ 0 ∷ 0 ∷ 0 ∷ 0 ∷ 0 ∷ 0 ∷ 0 ∷ 0 ∷ 0 ∷ 0 ∷ 0 ∷ 0 ∷ [])
          ∷ (0 ∷ 4 ∷ 0 ∷ 0 ∷ 0 ∷ 0 ∷ 0 ∷ 0 ∷ 0 ∷ 0 ∷ 0 ∷ 0 ∷ 0 ∷ 0 ∷ 0 ∷ 0 ∷ [])
          ∷ (0 ∷ 0 ∷ 5 ∷ 0 ∷ 0 ∷ 0 ∷ 0 ∷ 0 ∷ 0 ∷ 0 ∷ 0 ∷ 0 ∷ 0 ∷ 0 ∷ 0 ∷ 0 ∷ [])
          ∷ (0 ∷ 0 ∷ 0 ∷ 0 ∷ 0 ∷ 0 ∷ 0 ∷ 0 ∷ 0 ∷ 0 ∷ 0 ∷ 0 ∷ 0 ∷ 0 ∷ 0 ∷ 0 ∷ [])
          ∷ (0 ∷ 0 ∷ 0 ∷ 0 ∷ 0 ∷ 0 ∷ 0 ∷ 0 ∷ 0 ∷ 0 ∷ 0 ∷ 0 ∷ 0 ∷ 0 ∷ 0 ∷ 0 ∷ [])
          ∷ [];
    }
    -- P4 the empty word: 2. P5 word 1 2 1: 1. P6 word 2 2: 0.
    ∷ record { computed = numbers (count two [] ∷ []); said = numbers (2 ∷ []) }
    ∷ record { computed = numbers (count two (1 ∷ 2 ∷ 1 ∷ []) ∷ []); said = numbers (1 ∷ []) }
    ∷ record { computed = numbers (count two (2 ∷ 2 ∷ []) ∷ []); said = numbers (0 ∷ []) }
    -- P7 list, quorum 1, length 3: empty, 1, 1 1, 1 1 2, 1 2, 1 2 1, 2, 2 1.
    ∷ record {
      computed = list_of (count two) 1 3;
      said =
          []
          ∷ (1 ∷ [])
          ∷ (1 ∷ 1 ∷ [])
          ∷ (1 ∷ 1 ∷ 2 ∷ [])
          ∷ (1 ∷ 2 ∷ [])
          ∷ (1 ∷ 2 ∷ 1 ∷ [])
          ∷ (2 ∷ [])
          ∷ (2 ∷ 1 ∷ [])
          ∷ [];
    }
    -- P8 no journal: empty word 0, no row.
    ∷ record { computed = numbers (count [] [] ∷ length (picture []) ∷ []); said = numbers (0 ∷ 0 ∷ []) }
    -- P9 one empty journal: one row, count 1.
    ∷ record { computed = numbers (length (picture ([] ∷ [])) ∷ map held (picture ([] ∷ []))); said = numbers (1 ∷ 1 ∷ []) }
    -- P10 journals 1 1 and empty, then append 1: still 3 rows.
    ∷ record { computed = numbers (length (picture ten) ∷ length (picture (appended 1 ten)) ∷ []); said = numbers (3 ∷ 3 ∷ []) }
    ∷ []

pub worked : map (λ (l : Line). l.computed) table ≡ map (λ (l : Line). l.said) table
unfolding picture list_of appended
worked = refl
