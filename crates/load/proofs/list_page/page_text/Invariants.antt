-- `list_page::page_text` meets its contract. The invariant: the text is the lines of the words so far, of at most 96 bytes each.
use Prim.Native.Nat.{◌*◌, ◌≤◌}
use mathlib.Core.Path.{◌≡◌}
use lib.ListN.{length}
use Rattle.load.specs.Page.{page_lines}
use Rattle.load.proofs.list_page.page_text.Given as goal

abbrev pub invariant-loop-word_record : goal.invariant-loop-word_record
invariant-loop-word_record l =
    let i = l.word_record-index in (length l.text.items ≤ 96 * i) × (l.text.items ≡ page_lines l.rows i l.page)
