-- Reading one entry and taking it. Assumes nothing.
use Rattle.std.specs.Prelude.{ℕ, zero, suc, List}
use Rattle.books.specs.Numbers.{broken_entry}
use Rattle.books.specs.Clear.{After}
use Rattle.entries.specs.declared.read.Read.{Read}
use Rattle.entries.specs.declared.read.Read.TheVariants.{Entry, Lone, End}
use Rattle.feed.specs.Entry.{entry_call}
use Rattle.entries.specs.Reading.{read_at}

-- what came of looking for an entry: one was taken and the next stands at a byte, one was refused with a number, or all are taken
pub data Taken : Type 0 where
  Next : ℕ → Taken
  Refused : ℕ → Taken
  All : Taken

-- what looking for an entry leaves: what came of it, and both books
pub record AfterTaking : Type 0 where
  pub came : Taken
  pub journals : List ℕ
  pub rows : List ℕ

abbrev pub took : Taken → List ℕ → List ℕ → AfterTaking
took t jb rb = record { came = t; journals = jb; rows = rb }

-- an entry that ends with a number, where the next one stands at a byte
abbrev pub came_of : ℕ → ℕ → Taken
came_of zero next = Next next
came_of (suc n) next = Refused (suc n)

-- what was read is taken or refused; a lone last byte is broken
abbrev pub take_read : List ℕ → List ℕ → Read → AfterTaking
take_read jb rb (Entry n s next) = let a : After = entry_call jb rb n s in took (came_of a.number next) a.journals a.rows
take_read jb rb Lone = took (Refused broken_entry) jb rb
take_read jb rb End = took All jb rb

-- taking the entry at a byte of the entries
unfoldable pub take_at : List ℕ → List ℕ → List ℕ → ℕ → AfterTaking
take_at jb rb entries at = take_read jb rb (read_at entries at)
