-- The example of document 01, computed from the definitions: the text that is printed. Assumes nothing.
use mathlib.Core.Path.{◌≡◌, refl}
use mathlib.Core.List.{[], ◌∷◌}
use Rattle.words.specs.Picture.{picture}
use Rattle.words.specs.Journals.{opened}
use Rattle.words.specs.Listing.{list_of}
use Rattle.records.specs.StepBytes.{step_bytes}
use Rattle.records.specs.JournalBook.{first_wrong_record, journal_form, journals_of, journal_record, journal_book}
use Rattle.records.specs.RowBook.{row_book, record_of_row}
use Rattle.records.specs.Sound.{sound}
use Rattle.books.specs.Open.{open_call}
use Rattle.books.specs.Append.{append_at_call, append_call}
use Rattle.entries.specs.Entry.{entry_of}
use Rattle.feed.specs.Entry.{open_append, open_append_whole, enter, entry_call, feed_from, feed_call}
use Rattle.ask.specs.Ask.{ask_call}
use Rattle.text.specs.Text.{decimal, first_line, word_line, last_line}
use Rattle.load.specs.Program.{printed}

-- The worked example of the loading program: its text, line by line.
example : printed (0 ∷ 1 ∷ 0 ∷ 2 ∷ 0 ∷ 1 ∷ 1 ∷ 1 ∷ 1 ∷ 1 ∷ 1 ∷ 2 ∷ []) (2 ∷ 3 ∷ []) ≡
    -- texts 2 rows 6
    116 ∷ 101 ∷ 120 ∷ 116 ∷ 115 ∷ 32 ∷ 50 ∷ 32 ∷ 114 ∷ 111 ∷ 119 ∷ 115 ∷ 32 ∷ 54 ∷ 10 ∷
    -- 0 2
    48 ∷ 32 ∷ 50 ∷ 10 ∷
    -- 1 2 1
    49 ∷ 32 ∷ 50 ∷ 32 ∷ 49 ∷ 10 ∷
    -- 2 2 1 1
    50 ∷ 32 ∷ 50 ∷ 32 ∷ 49 ∷ 32 ∷ 49 ∷ 10 ∷
    -- 2 2 1 2
    50 ∷ 32 ∷ 50 ∷ 32 ∷ 49 ∷ 32 ∷ 50 ∷ 10 ∷
    -- 1 2 2
    49 ∷ 32 ∷ 50 ∷ 32 ∷ 50 ∷ 10 ∷
    -- end 5
    101 ∷ 110 ∷ 100 ∷ 32 ∷ 53 ∷ 10 ∷
    []
unfolding printed feed_call feed_from entry_call enter open_append open_append_whole entry_of ask_call first_line word_line last_line decimal open_call append_at_call append_call sound journal_form first_wrong_record journals_of journal_book journal_record step_bytes row_book record_of_row picture opened list_of
example = refl
