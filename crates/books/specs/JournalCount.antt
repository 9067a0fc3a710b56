-- Journal count: from the journal book alone. Assumes nothing.
use Rattle.std.specs.Prelude.{ℕ, not, ◌&&◌, List, [], ◌∷◌, length, eqb}
use Rattle.words.specs.Words.{count}
use Rattle.records.specs.Sizes.{journal_book_size, word_record_size}
use Rattle.books.specs.Numbers.{Refusal, first, wrong_size, damaged, wrong_word}
use Rattle.records.specs.JournalBook.{journal_form, journals_of}
use Rattle.records.specs.WordRecord.{word_form, word_of}
use Rattle.books.specs.TableCount.{Counted, counted}

-- Journal count: 1, 10, 2.
abbrev pub journal_count_refusals : List ℕ → List ℕ → List Refusal
journal_count_refusals jb r =
    record { holds = not (eqb (length jb) journal_book_size && eqb (length r) word_record_size); number = wrong_size }
    ∷ record { holds = not (word_form r); number = wrong_word }
    ∷ record { holds = not (journal_form jb); number = damaged }
    ∷ []

-- Journal count takes a word record: it counts the journals that the word is in.
unfoldable pub journal_count_call : List ℕ → List ℕ → Counted
journal_count_call jb r = counted (first (journal_count_refusals jb r)) (count (journals_of jb) (word_of r))
