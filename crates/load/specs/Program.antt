-- What the loading program prints, for every input. Assumes nothing.
use Rattle.std.specs.Prelude.{ℕ, cond, List, ◌++◌, length, replicate, eqb}
use Rattle.words.specs.Words.{count}
use Rattle.words.specs.Picture.{picture}
use Rattle.words.specs.Listing.{list_of}
use Rattle.records.specs.Bytes.{flat}
use Rattle.records.specs.Sizes.{journal_book_size, row_book_size}
use Rattle.books.specs.Numbers.{done}
use Rattle.records.specs.JournalBook.{journals_of}
use Rattle.feed.specs.Entry.{AfterFeeding, feed_call}
use Rattle.ask.specs.Ask.{Answer, ask_call}
use Rattle.text.specs.Text.{first_line, word_line, last_line, refused_entry_line, refused_ask_line}

-- a word's line, by a count of words
abbrev pub line_by : (List ℕ → ℕ) → List ℕ → List ℕ
line_by c w = word_line (c w) w

-- a line for each word
abbrev pub word_lines : (List ℕ → ℕ) → List (List ℕ) → List ℕ
word_lines c ws = flat (line_by c) ws

-- the journals' lines: k and the live rows, the list by the ask's quorum and length, the number of words
abbrev pub report : List (List ℕ) → Answer → List ℕ
report js a =
    let ws : List (List ℕ) = list_of (count js) a.quorum a.limit in
    first_line (length js) (length (picture js)) ++ word_lines (count js) ws ++ last_line (length ws)

-- The ask is looked at only after every entry was taken.
abbrev pub answered : List (List ℕ) → Answer → List ℕ
answered js a = let lines = report js a in cond (eqb a.number done) lines (refused_ask_line a.number)

-- It reads the entries into cleared books, then the ask, and prints.
unfoldable pub printed : List ℕ → List ℕ → List ℕ
printed entries ask =
    let fed : AfterFeeding = feed_call (replicate journal_book_size 0) (replicate row_book_size 0) entries in
    let js : List (List ℕ) = journals_of fed.journals in
    let lines = answered js (ask_call (length js) ask) in
    cond (eqb fed.number done) lines (refused_entry_line fed.number fed.taken)
