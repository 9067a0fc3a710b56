use Prim.Native.Nat.{ℕ, ◌*◌, ◌/◌}
use mathlib.Core.Path.{◌≡◌, ◌∙◌}
use mathlib.Core.List.{[], ◌++◌}
use lib.ListN.{length, take, drop, get_or, length-take}
use borrow.Author.Rules.{rules}
use native.Mathlib.Omega.{arith}
use Rattle.std.specs.Simd.{first_chunks}
use Rattle.records.specs.WordRecord.{word_of}
use Rattle.next_word.specs.Next.{table_of}
use Rattle.text.proofs.TextOf.{line_text}
use Rattle.load.specs.Page.{page_lines}
use Rattle.load.specs.Program.{line_by}
use Rattle.load.proofs.PageLines.{lines_more, record_at}
use Rattle.load.proofs.list_page.page_text.Goals as goal

pub loop-word_record-init : goal.loop-word_record-init
unfolding page_lines
loop-word_record-init c = (grind arith, c.clear.ensures)

pub loop-word_record-preserved : goal.loop-word_record-preserved
loop-word_record-preserved c =
    let a = c.args in
    let l = c.loop-word_record in
    let page = a.page.now in
    let i = l.word_record-index in
    let size : length page ≡ 16384 = search rules in
    let n : ℕ = length page / 16 in
    let cut : get_or (take a.written (first_chunks 16 n page)) i [] ≡ take 16 (drop (16 * i) page) =
    record_at 16 n a.written i page (omega (arith, size)) (omega (arith, length-take a.written c.as_chunks.result.0.now)) in
    let line : c.as_bytes.result.now ≡ line_by (table_of a.rows.now) (word_of (take 16 (drop (16 * i) page))) =
    c.as_bytes.ensures.value ∙ line_text _ _ (rw (c.as_chunks.ensures.front, cut) at c.record_line-line.ensures.value) in
    let put : c.try_extend_from_slice.new.self.items ≡ l.text.items ++ c.as_bytes.result.now = search rules in
    (search rules, rw (lines_more a.rows.now i page, put, line, l.invariant.1))
