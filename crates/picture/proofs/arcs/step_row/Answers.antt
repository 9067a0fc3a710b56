-- `picture::arcs::step_row` meets its contract: its arcs are those of the key, step by step. Assumes nothing.
use Rattle.std.proofs.Common.{rules}
use Rattle.rows.proofs.Steps.{by_steps}
use Rattle.picture.specs.KeyRow.{key_arc, key_arcs}
use Rattle.picture.proofs.arcs.step_row.Goals as goal

pub returns-clause-arcs : goal.returns-clause-arcs
unfolding key_arcs
returns-clause-arcs c = by_steps (key_arc c.args.nexts.now c.args.keys.now c.args.row.places) c.from_fn.result (search rules) (search rules)
