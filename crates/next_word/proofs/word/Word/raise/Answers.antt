-- `next_word::word::Word::raise` meets its contract: byte n of the record of a word of n steps is its last step. Assumes nothing.
use native.Mathlib.Omega.{arith}
use Rattle.next_word.proofs.WordBytes.{higher}
use Rattle.next_word.proofs.word.Word.raise.Goals as goal

pub invariant_of-self : goal.invariant_of-self
invariant_of-self c =
    let i = c.self.invariant in
    let r = rw (← c.self.view_is) at c.requires in
    let h = higher c.self.inside.bytes i.0 i.1 r.0 (omega (arith, r.1)) in
    rw c.from-n.ensures (h.size, h.form)

pub returns : goal.returns
returns c =
    let i = c.self.invariant in
    let r = rw (← c.self.view_is) at c.requires in
    let h = higher c.self.inside.bytes i.0 i.1 r.0 (omega (arith, r.1)) in
    rw (← c.self.view_is, c.from-n.ensures) h.word
