-- `checking::seen::see_rows` meets its contract: where the picture fits, the check compares the row book with what was drawn, and the walk over both has
-- found where they differ, or that they don't. Assumes nothing.
use mathlib.Core.Path.{◌≡◌, sym, ap, ◌∙◌}
use native.Mathlib.Omega.{arith}
use borrow.Author.Rules.{rules}
use Rattle.records.specs.JournalBook.{journals_of}
use Rattle.std.proofs.Common.{Some}
use Rattle.picture.specs.Drawn.{rows_found}
use Rattle.books.specs.Check.{compared}
use Rattle.books.proofs.CheckCases.{rows_compared}
use Rattle.books.proofs.Differences.{compared_differs, compared_same}
use Rattle.picture.proofs.Drawn.{found_few, drawn_few}
use Rattle.checking.proofs.seen.see_rows.Goals as goal

pub returns-in-Some-clause-says : goal.returns-in-Some-clause-says
returns-in-Some-clause-says c =
    let js = journals_of c.args.journals.now.bytes.now in
    let rb = c.args.rows.now in
    let e : Some c.in_ok-live.live ≡ rows_found js = search rules in
    let f = found_few js c.in_ok-live.live e in
    let s = c.in-Some.ensures in
    sym (compared_differs rb c.draw.new.rows (search rules) s.0 s.1 s.2) ∙ ap (compared rb) (c.draw.ensures.rows_after ∙ drawn_few js _ f.1) ∙ sym (rows_compared js rb f.1)

pub returns-in-None-clause-says : goal.returns-in-None-clause-says
returns-in-None-clause-says c =
    let js = journals_of c.args.journals.now.bytes.now in
    let rb = c.args.rows.now in
    let e : Some c.in_ok-live.live ≡ rows_found js = search rules in
    let f = found_few js c.in_ok-live.live e in
    sym (compared_same rb c.draw.new.rows (search rules) c.draw.array_long (omega (arith, c.in-None.ensures))) ∙ ap (compared rb) (c.draw.ensures.rows_after ∙ drawn_few js _ f.1) ∙ sym (rows_compared js rb f.1)
