-- What a row of entries keeps. Assumes nothing.
use Rattle.std.specs.Prelude.{ℕ, ◌*◌, ◌≡◌, List, take, drop}
use Rattle.books.specs.Numbers.{done}
use Rattle.feed.specs.Entry.{AfterFeeding, feed_call}

-- what a row of entries answers and leaves, as one value
abbrev pub fed_to : ℕ → ℕ → List ℕ → List ℕ → AfterFeeding
fed_to n t jb rb = record { number = n; taken = t; journals = jb; rows = rb }

-- A row of entries keeps those taken and answers how many: the books are those that these lead to by themselves, and the entry
-- behind them is refused there at once, with the number.
pub record KeepsTaken (jb rb bytes : List ℕ) (o : AfterFeeding) : Type 0 where
  pub taken : feed_call jb rb (take (2 * o.taken) bytes) ≡ fed_to done o.taken o.journals o.rows
  pub refused : feed_call o.journals o.rows (drop (2 * o.taken) bytes) ≡ fed_to o.number 0 o.journals o.rows
