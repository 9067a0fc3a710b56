-- `next_word::word::Word::extend` meets its contract: the record with a length of one more is that of the word with step 0 behind it. Assumes nothing.
use mathlib.Core.Path.{ap, ◌∙◌}
use mathlib.Core.List.{List, [], ◌∷◌, ◌++◌}
use Prim.Native.Nat.{ℕ}
use Rattle.next_word.proofs.WordBytes.{longer}
use Rattle.next_word.proofs.word.Word.extend.Goals as goal

pub invariant_of-self : goal.invariant_of-self
invariant_of-self c =
    let i = c.self.invariant in
    let h = longer c.self.inside.bytes i.0 i.1 (rw (← c.self.view_is) at c.requires) in
    (h.size, h.form)

pub returns : goal.returns
returns c =
    let i = c.self.invariant in
    let h = longer c.self.inside.bytes i.0 i.1 (rw (← c.self.view_is) at c.requires) in
    h.word ∙ ap (λ (w : List ℕ). w ++ (0 ∷ [])) c.self.view_is
