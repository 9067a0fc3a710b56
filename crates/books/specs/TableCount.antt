-- Table count: what is read at the end of a walk along the arcs of a row book. Assumes nothing.
use Rattle.std.specs.Prelude.{ℕ, Bool, not, List, [], ◌∷◌, length, eqb, Some, None, Ok, Err, is_err}
use Rattle.words.specs.Limits.{step_codes}
use Rattle.records.specs.Sizes.{row_book_size}
use Rattle.books.specs.Numbers.{Refusal, first, wrong_size, damaged, wrong_step, unless}
use Rattle.records.specs.Bytes.{all_below}
use Rattle.records.specs.RowBook.{count_at}
use Rattle.rows.specs.Walk.{Walked, walk}

abbrev pub is_damage : Walked → Bool
is_damage w = is_err w

-- the count byte of the row where the walk ended
abbrev pub count_of : List ℕ → Walked → ℕ
count_of b (Ok (Some r)) = count_at b r
count_of b (Ok None) = 0
count_of b (Err d) = 0

-- Table count: 1, 3, 2. All steps are tested first.
abbrev pub table_count_refusals : List ℕ → List ℕ → List Refusal
table_count_refusals b w =
    record { holds = not (eqb (length b) row_book_size); number = wrong_size }
    ∷ record { holds = not (all_below step_codes w); number = wrong_step }
    ∷ record { holds = is_damage (walk b w); number = damaged }
    ∷ []

-- what a count answers: a number, and the count
pub record Counted : Type 0 where
  pub number : ℕ
  pub count : ℕ

-- with a refusal the count is 0
abbrev pub counted : ℕ → ℕ → Counted
counted n c = record { number = n; count = unless n c 0 }

unfoldable pub table_count_call : List ℕ → List ℕ → Counted
table_count_call b w = counted (first (table_count_refusals b w)) (count_of b (walk b w))
