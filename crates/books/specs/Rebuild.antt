-- Rebuild: the row book drawn anew from the journal book alone. Assumes nothing.
use Rattle.std.specs.Prelude.{ℕ, not, List, [], ◌∷◌}
use Rattle.records.specs.JournalBook.{journal_form, journals_of}
use Rattle.records.specs.RowBook.{row_book}
use Rattle.records.specs.Sound.{right_sizes}
use Rattle.books.specs.Numbers.{Refusal, first, wrong_size, damaged, unless}
use Rattle.books.specs.Clear.{After, after}
use Rattle.books.specs.Write.{rows_refusal}

-- Rebuild: 1, 2, 6. Of the row book only the size is looked at.
abbrev pub rebuild_refusals : List ℕ → List ℕ → List Refusal
rebuild_refusals jb rb =
    record { holds = not (right_sizes jb rb); number = wrong_size }
    ∷ record { holds = not (journal_form jb); number = damaged }
    ∷ rows_refusal (journals_of jb)
    ∷ []

-- a number, the journal book as it is, and the row book: with 0 the picture of the journals js, with any other what it was
abbrev pub redrawn : ℕ → List (List ℕ) → List ℕ → List ℕ → After
redrawn n js jb rb = after n jb (unless n (row_book js) rb)

-- the picture of the journals that the journal book holds
unfoldable pub rebuild_call : List ℕ → List ℕ → After
rebuild_call jb rb = redrawn (first (rebuild_refusals jb rb)) (journals_of jb) jb rb
