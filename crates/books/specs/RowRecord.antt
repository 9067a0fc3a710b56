-- Row record, and its number. Assumes nothing.
use Rattle.std.specs.Prelude.{ℕ, ◌*◌, not, List, [], ◌∷◌, length, take, drop, eqb, leb}
use Rattle.records.specs.Sizes.{row_book_size, row_record_size, most_rows}
use Rattle.books.specs.Numbers.{Refusal, first, wrong_size, wrong_row, unless}

-- Row record: 1, 13.
abbrev pub row_record_refusals : List ℕ → ℕ → List Refusal
row_record_refusals b r =
    record { holds = not (eqb (length b) row_book_size); number = wrong_size }
    ∷ record { holds = leb most_rows r; number = wrong_row }
    ∷ []

-- its number, which a second call answers
unfoldable pub row_record_number_call : List ℕ → ℕ → ℕ
row_record_number_call b r = first (row_record_refusals b r)

-- Row record: the row's 64 bytes, as they stand in the lent book; nothing where it is refused.
unfoldable pub row_record_call : List ℕ → ℕ → List ℕ
row_record_call b r = unless (row_record_number_call b r) (take row_record_size (drop (row_record_size * r) b)) []
