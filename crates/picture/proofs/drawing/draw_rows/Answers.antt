use Prim.Native.Nat.{◌+◌, ◌-◌, ◌<◌}
use native.Mathlib.Omega.{arith}
use mathlib.Core.Path.{◌≡◌, ap, sym, ◌∙◌}
use lib.ListN.{length}
use Rattle.records.specs.RowBook.{unused}
use Rattle.records.proofs.Replaced.{replaced_none}
use Rattle.picture.specs.KeyRow.{key_row}
use Rattle.picture.specs.Laid.{laid}
use Rattle.picture.proofs.Linked.{linked, links}
use Rattle.picture.proofs.drawing.draw_rows.Goals as goal

pub loop-i-init : goal.loop-i-init
loop-i-init c =
    let nexts = c.args.nexts.now in
    let keys = c.args.keys.now in
    c.lay_rows.ensures ∙ replaced_none laid (key_row nexts keys) keys (unused (length keys)) ∙ ap (linked nexts keys) (sym c.len-i.ensures.many)

pub loop-i-preserved : goal.loop-i-preserved
loop-i-preserved c =
    let nexts = c.args.nexts.now in
    let keys = c.args.keys.now in
    let l = c.loop-i in
    let read = c.read in
    let y = c.step_row.ensures in
    let i = l.i - 1 in
    let b : i < length keys = omega (arith, c.len-i.ensures.many) in
    let e : l.i ≡ i + 1 = omega arith in
    c.write.ensures
    ∙ links nexts keys c.len-i.ensures.keys.wide i b l.rows read.result.places _ _ _ (l.invariant ∙ ap (linked nexts keys) e) read.ensures.0 y.places y.arcs y.count
