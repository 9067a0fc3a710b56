use Prim.Native.Nat.{ℕ, ◌+◌, ◌*◌, ◌-◌, ◌<◌}
use native.Mathlib.Omega.{arith}
use mathlib.Core.Path.{◌≡◌, ap, sym, ◌∙◌}
use lib.ListN.{length, replicate}
use Rattle.std.proofs.Common.{rules}
use Rattle.records.specs.RowBook.{unused}
use Rattle.records.specs.Sizes.{row_book_size}
use Rattle.picture.proofs.Laid.{laid_from, laid_start, lays}
use Rattle.picture.proofs.drawing.lay_rows.Goals as goal

pub loop-r-init : goal.loop-r-init
loop-r-init c =
    let keys = c.args.keys.now in
    let zero : c.fill.new.self ≡ replicate (length c.args.rows.now) 0 = search rules in
    let size : length c.args.rows.now ≡ row_book_size = search rules in
    zero ∙ ap (λ (m : ℕ). replicate m 0) size ∙ laid_start keys c.requires ∙ ap (laid_from keys) (sym c.len-r.ensures.many)

pub loop-r-preserved : goal.loop-r-preserved
loop-r-preserved c =
    let keys = c.args.keys.now in
    let l = c.loop-r in
    let i = l.r - 1 in
    let b : i < length keys = omega (arith, c.len-r.ensures.many) in
    let e : l.r ≡ i + 1 = omega arith in
    let n : 64 * i + 16 - 64 * i ≡ 16 = omega arith in
    rw (n, c.copy_from_slice.ensures.after, c.key.ensures)
    (lays keys c.len-r.ensures.keys.wide (unused (length keys)) i b l.rows (l.invariant ∙ ap (laid_from keys) e))
