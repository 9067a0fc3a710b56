-- Append: what it answers and leaves. Assumes nothing.
use Rattle.std.specs.Prelude.{ℕ, not, List, [], ◌∷◌, ◌++◌, length, leb}
use Rattle.words.specs.Limits.{step_codes, longest_journal}
use Rattle.words.specs.Journals.{appended_at, last_of, steps_at}
use Rattle.books.specs.Numbers.{Refusal, first, wrong_size, damaged, wrong_step, no_journal, journal_full}
use Rattle.records.specs.JournalBook.{journals_of}
use Rattle.records.specs.Sound.{right_sizes, sound}
use Rattle.books.specs.Clear.{After}
use Rattle.books.specs.Write.{written, rows_refusal}

-- Append at journal i: 1, 2, 3, 4, 5, 6. The first five are seen before anything is drawn; 4 says that journal i isn't open.
abbrev pub early_refusals : List ℕ → List ℕ → ℕ → ℕ → List Refusal
early_refusals jb rb i s =
    record { holds = not (right_sizes jb rb); number = wrong_size }
    ∷ record { holds = not (sound jb rb); number = damaged }
    ∷ record { holds = leb step_codes s; number = wrong_step }
    ∷ record { holds = leb (length (journals_of jb)) i; number = no_journal }
    ∷ record { holds = leb longest_journal (steps_at i (journals_of jb)); number = journal_full }
    ∷ []

-- the sixth is seen by drawing
abbrev pub append_refusals : List ℕ → List ℕ → ℕ → ℕ → List Refusal
append_refusals jb rb i s = early_refusals jb rb i s ++ (rows_refusal (appended_at i s (journals_of jb)) ∷ [])

-- one step more at the end of journal i
unfoldable pub append_at_call : List ℕ → List ℕ → ℕ → ℕ → After
append_at_call jb rb i s = written (first (append_refusals jb rb i s)) (appended_at i s (journals_of jb)) jb rb

-- Append is that at the last journal; with none, journal 0 isn't open.
unfoldable pub append_call : List ℕ → List ℕ → ℕ → After
append_call jb rb s = append_at_call jb rb (last_of (journals_of jb)) s
