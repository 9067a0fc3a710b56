-- `page::write_page` meets its contract. What is to be written is an end of the list. The invariant: i of its words stand in the output, and the
-- word at hand is the next one, if there is one (`PageAt`), and no longer than the list allows. Assumes nothing.
use Prim.Native.Nat.{◌≤◌}
use lib.ListN.{length}
use Rattle.std.specs.Prelude.{IfSome}
use Rattle.page.specs.WordsFrom.{words_from}
use Rattle.page.proofs.Paging.{PageAt}
use Rattle.page.proofs.write_page.Given as goal

abbrev pub invariant-loop-i : goal.invariant-loop-i
invariant-loop-i l =
    PageAt (words_from l.search l.initial.at) l.initial.out l.out l.at l.i × IfSome l.at (λ w. length w ≤ l.search.limit)
