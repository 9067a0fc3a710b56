-- `states::Nexts::tabulate` meets its contract. The invariant: there are as many journals as the table says, at most 16, so that the part of journal i is within the table, and the entries
-- of the journals before it are right. Assumes nothing.
use Prim.Native.Nat.{◌≤◌}
use mathlib.Core.Path.{◌≡◌}
use lib.ListN.{length}
use Rattle.records.specs.JournalBook.{journals_of}
use Rattle.states.proofs.Entries.{RightBelow}
use Rattle.states.proofs.nexts.Nexts.tabulate.Given as goal

abbrev pub invariant-loop-i : goal.invariant-loop-i
invariant-loop-i l = record { few : l.self.k ≤ 16; many : l.self.k ≡ length (journals_of l.journals.bytes.now); right : RightBelow (journals_of l.journals.bytes.now) l.i l.self.entries }
