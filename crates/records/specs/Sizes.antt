-- The sizes of document 01, in bytes and in records. Assumes nothing.
use Rattle.std.specs.Prelude.{ℕ}

-- Journal book: its bytes, and those of one record.
abbrev pub journal_book_size : ℕ
journal_book_size = 4096

abbrev pub journal_record_size : ℕ
journal_record_size = 256

-- Row book: its bytes, those of one record, and how many there are.
abbrev pub row_book_size : ℕ
row_book_size = 64000

abbrev pub row_record_size : ℕ
row_record_size = 64

abbrev pub most_rows : ℕ
most_rows = 1000

-- Word record: its bytes, and the most steps of its word.
abbrev pub word_record_size : ℕ
word_record_size = 16

abbrev pub longest_word : ℕ
longest_word = 15
