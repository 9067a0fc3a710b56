-- `journal::form::records` meets its contract: the parts of 256 bytes are the records. Assumes nothing.
use Rattle.std.proofs.Common.{◌∙◌}
use Rattle.journal.proofs.Records.{parts}
use Rattle.journal.proofs.form.records.Goals as goal

pub returns : goal.returns
returns c = c.as_chunks.ensures.front ∙ parts c.args.book.now c.told-book
