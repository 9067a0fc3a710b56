-- `next_word::search::Search::next_word` meets its contract. After a word that can be extended the list goes on from its first extension; after one of
-- all steps, from where it climbs to, and ends there if that is nowhere. Assumes nothing.
use Prim.Native.Nat.{ℕ}
use native.Mathlib.Omega.{arith}
use mathlib.Core.Path.{sym, ap, ◌∙◌}
use mathlib.Core.List.{List, [], ◌∷◌}
use lib.ListN.{length, take}
use Rattle.next_word.specs.Searching.{words_of}
use Rattle.next_word.specs.Next.{from_on}
use Rattle.next_word.proofs.Climb.{extend_after}
use Rattle.next_word.proofs.Searching.{behind}
use Rattle.next_word.proofs.search.Search.next_word.Goals as goal

pub returns-then-steps-self-clause-to : goal.returns-then-steps-self-clause-to
returns-then-steps-self-clause-to c =
    let s = c.args.self.now in
    c.first_from.ensures.to ∙ ap (λ (v : List ℕ). take 1 (from_on v (words_of s))) c.extend.ensures ∙ ap (take 1) (sym (extend_after c.args.w (words_of s)))

pub returns-in_err-v-clause-to : goal.returns-in_err-v-clause-to
returns-in_err-v-clause-to c =
    rw c.from_residual.ensures (sym (ap (take 1) (behind c.args.self.now c.args.w [] c.in_err-v.ensures.to (omega (arith, ap length c.steps.ensures.steps)))))

pub returns-clause-to : goal.returns-clause-to
returns-clause-to c =
    let e = behind c.args.self.now c.args.w (c.in_ok-v.v ∷ []) c.in_ok-v.ensures.to (omega (arith, ap length c.steps.ensures.steps)) in
    c.first_from-2.ensures.to ∙ ap (take 1) (sym e)
