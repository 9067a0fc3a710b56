-- `journal::book::open_count` meets its contract: the journals are those of the open records in front. Assumes nothing.
use Rattle.std.proofs.Common.{length, ap, sym, ◌∙◌, unwrap_or, rules}
use Rattle.std.proofs.iter.runs.Made.{chains}
use Rattle.records.specs.JournalBook.{open_ones}
use Rattle.journal.proofs.Records.{FirstShut, open_of, open_number, sixteen}
use Rattle.journal.proofs.book.open_count.Goals as goal

pub returns : goal.returns
returns c =
    let b = c.args.journals.now in
    let rs = c.records.result.now in
    let o = c.position.result in
    let e : FirstShut rs o = search (rules, chains) in
    c.unwrap_or.ensures ∙ ap (unwrap_or o) (sym (sixteen b) ∙ ap length (sym c.records.ensures)) ∙ sym (open_number rs o e)
    ∙ ap (λ x. length (open_ones x)) c.records.ensures ∙ ap length (sym (open_of b))
