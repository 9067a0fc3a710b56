-- The arcs of a key: one by whether the key that its step leads to is live, and all by step. Assumes nothing.
use Prim.Native.Nat.{ℕ, ◌<◌}
use mathlib.Core.Path.{◌≡◌, refl, sym}
use mathlib.Core.Bool.{true, false}
use mathlib.Core.List.{List}
use lib.ListN.{length, take, get_or}
use Rattle.words.specs.Places.{live}
use Rattle.words.proofs.Codes.{at_step}
use Rattle.keys.specs.Keys.{rank_of}
use Rattle.states.specs.Stepped.{stepped_key}
use Rattle.states.specs.declared.nexts.Nexts.{Nexts}
use Rattle.picture.specs.KeyRow.{key_arc, key_arcs}

module _ (nexts : Nexts) (keys : List (List ℕ)) (key : List ℕ) where
  module _ (s : ℕ) (to : List ℕ) (e : to ≡ stepped_key nexts key s) where
    -- the arc to a key that is live
    pub arc_live : live (take nexts.k to) ≡ true → rank_of to keys ≡ key_arc nexts keys key s
    unfolding key_arc
    arc_live t = rw (← e, t)

    -- the arc to a key that isn't
    pub arc_lost : live (take nexts.k to) ≡ false → 0 ≡ key_arc nexts keys key s
    unfolding key_arc
    arc_lost f = rw (← e, f)

  -- there is an arc for each step
  pub length_arcs : length (key_arcs nexts keys key) ≡ 16
  unfolding key_arcs
  length_arcs = refl

  -- the arc under a step
  pub arc_at_is : (s : ℕ) → s < 16 → key_arc nexts keys key s ≡ get_or (key_arcs nexts keys key) s 0
  unfolding key_arcs
  arc_at_is s h = sym (at_step (key_arc nexts keys key) s h)
