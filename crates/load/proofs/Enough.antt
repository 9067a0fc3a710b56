-- What the program reads is enough: 6,434 bytes of the entries and three of the ask decide all that it prints. Assumes nothing.
use Prim.Native.Nat.{ℕ}
use mathlib.Core.Path.{◌≡◌}
use mathlib.Core.List.{List}
use lib.ListN.{length, take, replicate}
use Rattle.records.specs.JournalBook.{journals_of}
use Rattle.records.specs.Sizes.{journal_book_size, row_book_size}
use Rattle.feed.specs.Entry.{feed_call}
use Rattle.ask.proofs.AskCases.{ask_enough}
use Rattle.feed.proofs.Enough.{bytes_enough}
use Rattle.load.specs.Program.{printed}

pub enough_read : (entries ask : List ℕ) → printed (take 6434 entries) (take 3 ask) ≡ printed entries ask
unfolding printed
enough_read entries ask =
    rw (bytes_enough entries, ask_enough (length (journals_of (feed_call (replicate journal_book_size 0) (replicate row_book_size 0) entries).journals)) ask)
