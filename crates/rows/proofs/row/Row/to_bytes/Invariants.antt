-- `Row::to_bytes` meets its contract. The invariant: behind the places stand the first s arcs, and behind them zeros. Assumes nothing.
use Rattle.std.proofs.Common.{◌≡◌, ◌-◌, ◌*◌, ◌++◌, take, replicate}
use Rattle.records.specs.Bytes.{two_bytes}
use Rattle.rows.proofs.row.Row.to_bytes.Given as goal

abbrev pub invariant-loop-s : goal.invariant-loop-s
invariant-loop-s l = l.record ≡ l.self.places ++ two_bytes (take l.s l.self.arcs) ++ replicate (48 - 2 * l.s) 0
