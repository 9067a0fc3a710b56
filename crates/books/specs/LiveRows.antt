-- How many live rows sound books have. Assumes nothing.
use Rattle.std.specs.Prelude.{ℕ, not, List, [], ◌∷◌, length}
use Rattle.words.specs.Picture.{picture}
use Rattle.records.specs.JournalBook.{journals_of}
use Rattle.records.specs.Sound.{right_sizes, sound}
use Rattle.books.specs.Numbers.{Refusal, first, wrong_size, damaged, unless}

-- Live rows: 1, 2, by the sizes of both books and their soundness.
abbrev pub live_rows_refusals : List ℕ → List ℕ → List Refusal
live_rows_refusals jb rb =
    record { holds = not (right_sizes jb rb); number = wrong_size }
    ∷ record { holds = not (sound jb rb); number = damaged }
    ∷ []

-- what is answered: a number, and how many live rows there are
pub record LiveRows : Type 0 where
  pub number : ℕ
  pub rows : ℕ

-- a number, and how many live rows there are where it is 0
abbrev pub live_rows_answer : ℕ → ℕ → LiveRows
live_rows_answer n r = record { number = n; rows = unless n r 0 }

-- The live rows are those of the journals' picture, whatever their bytes say.
unfoldable pub live_rows_call : List ℕ → List ℕ → LiveRows
live_rows_call jb rb = live_rows_answer (first (live_rows_refusals jb rb)) (length (picture (journals_of jb)))
