-- Rows of entries worked: what each leads to by the definitions, beside what document 01 says of it. Assumes nothing.
use Prim.Native.Nat.{ℕ}
use mathlib.Core.Path.{◌≡◌, refl}
use mathlib.Core.List.{List, [], ◌∷◌, map}
use lib.ListN.{replicate}
use Rattle.words.specs.Journals.{opened, appended}
use Rattle.words.specs.Picture.{picture}
use Rattle.entries.specs.Entry.{entry_of}
use Rattle.entries.specs.Meaning.{entry_number, Meant, meant, meant_from, entries_mean}

pub record Line : Type 0 where
  pub from : List (List ℕ)
  pub entries : List ℕ
  pub said : Meant

-- one journal of 200 steps, and sixteen empty ones
abbrev long : List (List ℕ)
long = replicate 200 1 ∷ []

abbrev sixteen : List (List ℕ)
sixteen = replicate 16 []

abbrev pub table : List Line
table =
    -- the program's example: journals 1 2 1 and 1 1 2
    record {
      from = [];
      entries = 0 ∷ 1 ∷ 0 ∷ 2 ∷ 0 ∷ 1 ∷ 1 ∷ 1 ∷ 1 ∷ 1 ∷ 1 ∷ 2 ∷ [];
      said = meant 0 6 ((1 ∷ 2 ∷ 1 ∷ []) ∷ (1 ∷ 1 ∷ 2 ∷ []) ∷ []);
    }
    -- a journal that is only opened
    ∷ record { from = []; entries = 0 ∷ 255 ∷ []; said = meant 0 1 ([] ∷ []) }
    -- a refused entry ends the row, though the next one could be taken
    ∷ record { from = []; entries = 0 ∷ 1 ∷ 2 ∷ 1 ∷ 0 ∷ 2 ∷ []; said = meant 11 1 ((1 ∷ []) ∷ []) }
    -- a lone last byte
    ∷ record { from = []; entries = 0 ∷ 1 ∷ 0 ∷ []; said = meant 11 1 ((1 ∷ []) ∷ []) }
    -- a journal of 200 steps
    ∷ record { from = long; entries = 0 ∷ 1 ∷ []; said = meant 5 0 long }
    -- number 16 with 16 open: 7, but 11 where the step is broken
    ∷ record { from = sixteen; entries = 16 ∷ 1 ∷ []; said = meant 7 0 sixteen }
    ∷ record { from = sixteen; entries = 16 ∷ 16 ∷ []; said = meant 11 0 sixteen }
    ∷ []

pub worked : map (λ (l : Line). entries_mean l.from l.entries) table ≡ map (λ (l : Line). l.said) table
unfolding entries_mean meant_from entry_number entry_of opened appended picture
worked = refl
