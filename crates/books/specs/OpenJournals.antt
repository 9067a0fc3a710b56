-- How many journals are open: from the journal book alone. Assumes nothing.
use Rattle.std.specs.Prelude.{ℕ, not, List, [], ◌∷◌, length, eqb}
use Rattle.records.specs.Sizes.{journal_book_size}
use Rattle.records.specs.JournalBook.{journal_form, journals_of}
use Rattle.books.specs.Numbers.{Refusal, first, wrong_size, damaged, unless}

-- Open journals: 1, 2, by the journal book's size and form.
abbrev pub open_journals_refusals : List ℕ → List Refusal
open_journals_refusals jb =
    record { holds = not (eqb (length jb) journal_book_size); number = wrong_size }
    ∷ record { holds = not (journal_form jb); number = damaged }
    ∷ []

-- what is answered: a number, and how many journals are open
pub record OpenJournals : Type 0 where
  pub number : ℕ
  pub journals : ℕ

-- a number, and how many journals there are where it is 0
abbrev pub open_journals_answer : ℕ → ℕ → OpenJournals
open_journals_answer n k = record { number = n; journals = unless n k 0 }

-- k is the number of the book's journals.
unfoldable pub open_journals_call : List ℕ → OpenJournals
open_journals_call jb = open_journals_answer (first (open_journals_refusals jb)) (length (journals_of jb))
