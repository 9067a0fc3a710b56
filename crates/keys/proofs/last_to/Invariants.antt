-- `keys::last_to` meets its contract. The invariant: the keys from the place before i on have moved. Assumes nothing.
use Prim.Native.Nat.{ℕ, ◌-◌, ◌<◌}
use mathlib.Core.Path.{◌≡◌}
use mathlib.Core.List.{List, [], ◌∷◌, ◌++◌}
use Rattle.keys.proofs.Moved.{opened}
use Rattle.keys.proofs.last_to.Given as goal

abbrev pub invariant-loop-i : goal.invariant-loop-i
invariant-loop-i l = (l.p < l.i) × ((front : List (List ℕ)) (last : List ℕ) → l.initial.keys ≡ front ++ last ∷ [] → l.keys ≡ opened front last (l.i - 1))
