-- The conditions of the numbers of a row of entries. Assumes nothing.
use Rattle.std.specs.Prelude.{ℕ, true, List, [], ◌∷◌, ◌++◌}
use Rattle.books.specs.Clear.{After}
use Rattle.books.specs.Numbers.{Refusal, broken_entry}
use Rattle.feed.specs.Entry.{entry_call_refusals, entry_call}

-- those of each entry in turn, on the books that the entries before it leave; a lone last byte is broken
abbrev pub entries_refusals : List ℕ → List ℕ → List ℕ → List Refusal
entries_refusals jb rb [] = []
entries_refusals jb rb (n ∷ []) = record { holds = true; number = broken_entry } ∷ []
entries_refusals jb rb (n ∷ s ∷ rest) =
    let a : After = entry_call jb rb n s in
    entry_call_refusals jb rb n s ++ entries_refusals a.journals a.rows rest
