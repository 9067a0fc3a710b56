-- Packed answers unpack: for every input of a call its fields come back as the header takes them out. A shift by 8, 16 or 32 bits is
-- a division by 256, 65536 or 4294967296, and a mask of 255 or 65535 a remainder by 256 or 65536. Assumes nothing.
use Prim.Native.Nat.{ℕ, ◌/◌, ◌%◌, ◌≤◌, ◌<◌}
use native.Mathlib.Omega.{arith}
use mathlib.Core.Path.{◌≡◌, refl}
use mathlib.Core.List.{List}
use Rattle.books.specs.TableCount.{table_count_refusals, table_count_call, Counted}
use Rattle.books.specs.JournalCount.{journal_count_refusals, journal_count_call}
use Rattle.books.specs.Check.{check_call, Checked}
use Rattle.books.specs.OpenJournals.{open_journals_refusals, open_journals_call, OpenJournals}
use Rattle.books.specs.LiveRows.{live_rows_refusals, live_rows_call, LiveRows}
use Rattle.books.proofs.JournalCountCases.{journal_few}
use Rattle.books.proofs.Refusals.{first_each}
use Rattle.books.proofs.TableCountCases.{table_few}
use Rattle.list.specs.ListCall.{Asked, list_refusals, list_call, Listed}
use Rattle.selquorin.specs.PackedList.{packed_list}
use Rattle.packing.specs.Packed.{flagged, packed_count, packed_check, packed_journals, packed_rows}
use Rattle.packing.proofs.Flags.{flag_small}
use Rattle.selquorin.proofs.Bounds.{Small, small, call_few}

-- a number fits into one byte
abbrev Byte : ℕ → Type 0
Byte n = n < 256

-- a count: the number, and the count
abbrev pub CountUnpacked : Counted → Type 0
CountUnpacked c = (packed_count c % 256 ≡ c.number) × (packed_count c / 256 % 256 ≡ c.count)

count_unpacked : (c : Counted) → Byte c.number → c.count ≤ 16 → CountUnpacked c
count_unpacked c n h = (omega arith, omega arith)

table_number : (rb w : List ℕ) → Byte (table_count_call rb w).number
unfolding table_count_call
table_number rb w = first_each Byte (table_count_refusals rb w) (omega arith, (omega arith, (omega arith, omega arith)))

pub table_count_unpacked : (rb w : List ℕ) → CountUnpacked (table_count_call rb w)
table_count_unpacked rb w = count_unpacked (table_count_call rb w) (table_number rb w) (table_few rb w)

journal_number : (jb r : List ℕ) → Byte (journal_count_call jb r).number
unfolding journal_count_call
journal_number jb r = first_each Byte (journal_count_refusals jb r) (omega arith, (omega arith, (omega arith, omega arith)))

pub journal_count_unpacked : (jb r : List ℕ) → CountUnpacked (journal_count_call jb r)
journal_count_unpacked jb r = count_unpacked (journal_count_call jb r) (journal_number jb r) (journal_few jb r)

-- a check: the number, the book, the record and the byte
abbrev pub CheckUnpacked : Checked → Type 0
CheckUnpacked c =
    (packed_check c % 256 ≡ c.number) × (packed_check c / 256 % 256 ≡ c.book) × (packed_check c / 65536 % 65536 ≡ c.at)
    × (packed_check c / 4294967296 ≡ c.byte)

small_unpacked : (c : Checked) → Small c → CheckUnpacked c
small_unpacked c s = let at = s.0 in let byte = s.1 in let number = s.2 in let book = s.3 in (omega arith, omega arith, omega arith, omega arith)

pub check_unpacked : (jb rb : List ℕ) → CheckUnpacked (check_call jb rb)
check_unpacked jb rb = small_unpacked (check_call jb rb) (small jb rb refl)

-- a list: the number, whether there is more, and how many words were written
abbrev pub ListUnpacked : Listed → Type 0
ListUnpacked l =
    (packed_list l % 256 ≡ l.number) × (packed_list l / 256 % 256 ≡ flagged l.more) × (packed_list l / 65536 ≡ l.written)

listed_unpacked : (l : Listed) → Byte l.number → l.written ≤ 4096 → ListUnpacked l
listed_unpacked l n h = let f = flag_small l.more refl in (omega (arith, f), omega (arith, f), omega (arith, f))

list_number : (a : Asked) → Byte (list_call a).answer.number
unfolding list_call
list_number a = first_each Byte (list_refusals a) (omega arith, (omega arith, (omega arith, (omega arith, (omega arith, omega arith)))))

pub list_unpacked : (a : Asked) → ListUnpacked (list_call a).answer
list_unpacked a = listed_unpacked (list_call a).answer (list_number a) (call_few a)

-- the open journals: the number, and how many
abbrev pub JournalsUnpacked : OpenJournals → Type 0
JournalsUnpacked o = (packed_journals o % 256 ≡ o.number) × (packed_journals o / 256 ≡ o.journals)

told_unpacked : (o : OpenJournals) → Byte o.number → JournalsUnpacked o
told_unpacked o n = (omega arith, omega arith)

open_number : (jb : List ℕ) → Byte (open_journals_call jb).number
unfolding open_journals_call
open_number jb = first_each Byte (open_journals_refusals jb) (omega arith, (omega arith, omega arith))

pub journals_unpacked : (jb : List ℕ) → JournalsUnpacked (open_journals_call jb)
journals_unpacked jb = told_unpacked (open_journals_call jb) (open_number jb)

-- the live rows: the number, and how many
abbrev pub RowsUnpacked : LiveRows → Type 0
RowsUnpacked l = (packed_rows l % 256 ≡ l.number) × (packed_rows l / 256 ≡ l.rows)

live_unpacked : (l : LiveRows) → Byte l.number → RowsUnpacked l
live_unpacked l n = (omega arith, omega arith)

live_number : (jb rb : List ℕ) → Byte (live_rows_call jb rb).number
unfolding live_rows_call
live_number jb rb = first_each Byte (live_rows_refusals jb rb) (omega arith, (omega arith, omega arith))

pub rows_unpacked : (jb rb : List ℕ) → RowsUnpacked (live_rows_call jb rb)
rows_unpacked jb rb = live_unpacked (live_rows_call jb rb) (live_number jb rb)
