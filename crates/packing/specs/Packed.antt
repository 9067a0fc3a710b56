-- Answers packed into one number, for callers in C or Rust. Assumes nothing.
use Rattle.std.specs.Prelude.{ℕ, ◌+◌, ◌*◌, Bool, cond}
use Rattle.books.specs.TableCount.{Counted}
use Rattle.books.specs.Check.{Checked}
use Rattle.books.specs.OpenJournals.{OpenJournals}
use Rattle.books.specs.LiveRows.{LiveRows}

-- the most words of one output
abbrev pub most_words : ℕ
most_words = 4096

-- number + 2^8 · count
abbrev pub packed_count : Counted → ℕ
packed_count c = c.number + 256 * c.count

-- number + 2^8 · book + 2^16 · record + 2^32 · byte
abbrev pub packed_check : Checked → ℕ
packed_check c = c.number + 256 * c.book + 65536 * c.at + 4294967296 * c.byte

-- 1 for yes, 0 for no
abbrev pub flagged : Bool → ℕ
flagged b = cond b 1 0

-- number + 2^8 · more + 2^16 · written
abbrev pub packed_page : ℕ → Bool → ℕ → ℕ
packed_page number more written = number + 256 * flagged more + 65536 * written

-- number + 2^8 · journals
abbrev pub packed_journals : OpenJournals → ℕ
packed_journals o = o.number + 256 * o.journals

-- number + 2^8 · rows
abbrev pub packed_rows : LiveRows → ℕ
packed_rows l = l.number + 256 * l.rows
