-- `picture::draw` meets its contract: the search says whether the live states fit, and the rows are drawn only then. The keys found are those of the
-- picture's rows, so that the records made of them are the picture's. Assumes nothing.
use Prim.Native.Nat.{ℕ}
use native.Mathlib.Omega.{arith}
use mathlib.Core.Path.{◌≡◌, sym, ap, ◌∙◌}
use mathlib.Core.Bool.{true}
use mathlib.Core.List.{List}
use Rattle.std.proofs.Common.{Some}
use Rattle.words.specs.Words.{AreJournals}
use Rattle.records.specs.JournalBook.{journal_form, journals_of}
use Rattle.records.proofs.Form.{form_book}
use Rattle.picture.proofs.Drawn.{says_many, says_few, drawn_few, drawn_many}
use Rattle.picture.proofs.KeyArcs.{keys_book, keys_many}
use Rattle.picture.proofs.draw.Goals as goal

-- the journals of the book
journals : (b : List ℕ) → journal_form b ≡ true → AreJournals (journals_of b)
journals b t = (form_book b t).0

pub returns-in_err-find_states-clause-found : goal.returns-in_err-find_states-clause-found
returns-in_err-find_states-clause-found c =
    let js = journals_of c.args.journals.now.bytes.now in
    c.from_residual.ensures ∙ says_many js (c.in_err-find_states.ensures js (journals _ c.args.journals.now.form) c.tabulate.ensures)

pub returns-in_err-find_states-clause-rows_after : goal.returns-in_err-find_states-clause-rows_after
returns-in_err-find_states-clause-rows_after c =
    let js = journals_of c.args.journals.now.bytes.now in
    sym (drawn_many js c.args.rows.now (c.in_err-find_states.ensures js (journals _ c.args.journals.now.form) c.tabulate.ensures))

pub draw_rows-requires : goal.draw_rows-requires
draw_rows-requires c =
    let js = journals_of c.args.journals.now.bytes.now in
    let few = c.in_ok-find_states.ensures js (journals _ c.args.journals.now.form) c.tabulate.ensures in
    omega (arith, few.room, keys_many js c.find_states.new.keys few.all)

pub returns-clause-found : goal.returns-clause-found
returns-clause-found c =
    let js = journals_of c.args.journals.now.bytes.now in
    let few = c.in_ok-find_states.ensures js (journals _ c.args.journals.now.form) c.tabulate.ensures in
    ap (λ (n : ℕ). Some n) (c.len.ensures.many ∙ keys_many js c.find_states.new.keys few.all) ∙ says_few js few.room

pub returns-clause-rows_after : goal.returns-clause-rows_after
returns-clause-rows_after c =
    let js = journals_of c.args.journals.now.bytes.now in
    let are = journals _ c.args.journals.now.form in
    let few = c.in_ok-find_states.ensures js are c.tabulate.ensures in
    c.draw_rows.ensures ∙ keys_book js are c.tabulate.new.self c.tabulate.ensures c.find_states.new.keys few.all ∙ sym (drawn_few js c.args.rows.now few.room)
