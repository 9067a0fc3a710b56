use native.Mathlib.Omega.{arith}
use lib.ListN.{length, replicate}
use Prim.Native.Nat.{ℕ}
use mathlib.Core.List.{List, [], ◌∷◌}
use mathlib.Core.Path.{◌≡◌, sym, ◌∙◌}
use Rattle.std.proofs.Common.{rules}
use Rattle.states.specs.Found.{RowKeys}
use Rattle.states.proofs.Sweeping.{sweep_begins, sweep_ends, none_found}
use Rattle.states.proofs.find_states.Goals as goal

-- where there are no keys yet
none_left : (js keys : List (List ℕ)) → keys ≡ [] → length js ≡ 0 → RowKeys js keys
none_left js keys none e = rw none (none_found js e)

pub returns-then-nexts-eq0 : goal.returns-then-nexts-eq0
returns-then-nexts-eq0 c js are tabled = none_left js _ (search rules) (sym tabled.many ∙ c.if-nexts-eq0.true)

pub loop-i-init : goal.loop-i-init
loop-i-init c =
    let one : c.insert.new.self ≡ replicate 16 0 ∷ [] = cc in
    rw one
    (record { room = omega arith; sweeping = λ js are tabled. sweep_begins js are (λ z. c.if-nexts-eq0.false (tabled.many ∙ z)) })

pub returns-after-loop-i : goal.returns-after-loop-i
returns-after-loop-i c js are tabled = let l = c.loop-i in sweep_ends js are l.i l.keys (omega arith) (l.invariant.sweeping js are tabled)

pub returns-then-len-i : goal.returns-then-len-i
returns-then-len-i c js are tabled = let l = c.loop-i in sweep_ends js are l.i l.keys (omega arith) (l.invariant.sweeping js are tabled)
