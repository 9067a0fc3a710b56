-- Open: what it answers and leaves. Assumes nothing.
use Rattle.std.specs.Prelude.{ℕ, not, List, [], ◌∷◌, length, leb}
use Rattle.words.specs.Limits.{most_journals}
use Rattle.words.specs.Journals.{opened}
use Rattle.books.specs.Numbers.{Refusal, first, wrong_size, damaged, journals_full}
use Rattle.records.specs.JournalBook.{journals_of}
use Rattle.records.specs.Sound.{right_sizes, sound}
use Rattle.books.specs.Clear.{After}
use Rattle.books.specs.Write.{written}

-- Open: 1, 2, 7.
abbrev pub open_refusals : List ℕ → List ℕ → List Refusal
open_refusals jb rb =
    record { holds = not (right_sizes jb rb); number = wrong_size }
    ∷ record { holds = not (sound jb rb); number = damaged }
    ∷ record { holds = leb most_journals (length (journals_of jb)); number = journals_full }
    ∷ []

-- the books of one journal more, an empty one at the end
unfoldable pub open_call : List ℕ → List ℕ → After
open_call jb rb = written (first (open_refusals jb rb)) (opened (journals_of jb)) jb rb
