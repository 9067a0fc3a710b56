-- `next_word::word::Word::shorten` meets its contract: the byte of the last step is zero again, and the length one less. Assumes nothing.
use Rattle.next_word.proofs.WordBytes.{shorter}
use Rattle.next_word.proofs.word.Word.shorten.Goals as goal

pub invariant_of-self : goal.invariant_of-self
invariant_of-self c =
    let i = c.self.invariant in
    let h = shorter c.self.inside.bytes i.0 i.1 in
    rw (c.saturating_sub.ensures, c.from.ensures) (h.size, h.form)

pub returns : goal.returns
returns c =
    let i = c.self.invariant in
    let h = shorter c.self.inside.bytes i.0 i.1 in
    rw (← c.self.view_is, c.saturating_sub.ensures, c.from.ensures) h.word
