-- `Row::read` meets its contract: its arcs are those of the record, step by step. Assumes nothing.
use Rattle.std.proofs.Common.{rules}
use Rattle.records.specs.RowBook.{arc_at}
use Rattle.rows.proofs.Steps.{by_steps}
use Rattle.rows.proofs.row.Row.read.Goals as goal

pub returns : goal.returns
returns c = (search rules, by_steps (arc_at c.args.rows.now c.args.r) c.from_fn.result (search rules) (search rules), search rules)
