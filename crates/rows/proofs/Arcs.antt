-- The walk at an index of the word: a step is taken along its arc, and the end of the word ends the walk in its row. An arc
-- that isn't bad is a row's number, so a walk that ends in a row ends in one of the book. Assumes nothing.
use Prim.Native.Nat.{ℕ, ◌+◌, ◌≤◌, ◌<◌}
use native.Mathlib.Omega.{arith}
use mathlib.Core.Path.{◌≡◌, sym, ◌∙◌}
use mathlib.Core.Bool.{false, false≢true}
use mathlib.Core.List.{List, [], ◌∷◌}
use Rattle.std.specs.Prelude.{Some, None, Ok}
use lib.ListN.{length, get_or, drop, drop_of_length-le}
use lib.Dec.{eqb, ltb, leb}
use borrow.Author.Tests.{leb-false}
use Rattle.words.specs.Limits.{most_journals}
use Rattle.words.proofs.Test.{test}
use Rattle.records.specs.Sizes.{most_rows}
use Rattle.records.specs.RowBook.{count_at, arc_at}
use Rattle.rows.specs.Walk.{Walked, damage, bad_arc, along, walk_from, walk}
use Rattle.std.proofs.lemmas.List.{drop_more}
use Rattle.rows.proofs.Steps.{step_code}

-- an arc that isn't bad is a row's number
pub good_row : (b : List ℕ) (r t : ℕ) → bad_arc b r t ≡ false → t < most_rows
good_row b r t f =
    test (leb t r) (λ y. absurd (false≢true (sym f ∙ rw y)))
    (λ n. test (leb most_rows t) (λ y. absurd (false≢true (sym f ∙ rw (n, y)))) (λ m. leb-false most_rows t m))

-- an arc 0 ends the walk in no row
pub along_zero : (b : List ℕ) (r t : ℕ) (rest : Walked) → t ≡ 0 → along b r t rest ≡ Ok None
unfolding along
along_zero b r t rest e = rw e

-- the walk at an index of the word
pub from_step : (b w : List ℕ) (r i : ℕ) → i < length w
    → walk_from b r (drop i w) ≡ along b r (arc_at b r (get_or w i 0)) (walk_from b (arc_at b r (get_or w i 0)) (drop (i + 1) w))
unfolding walk_from
from_step b w r i h = rw (drop_more w i 0 h)

-- the same of a walk that began in row q
pub from_on_lem : (b w : List ℕ) (q r i t : ℕ) → i < length w → walk_from b q w ≡ walk_from b r (drop i w) → t ≡ arc_at b r (get_or w i 0)
    → walk_from b q w ≡ along b r t (walk_from b t (drop (i + 1) w))
from_on_lem b w q r i t h e g = e ∙ rw g (from_step b w r i h)

pub from_end : (b w : List ℕ) (r i : ℕ) → length w ≤ i → walk_from b r (drop i w) ≡ Ok (Some r)
unfolding walk_from
from_end b w r i h = rw (drop_of_length-le w h)

-- an end in a row is no other end
not_none : {q : ℕ} → ◌≡◌ {A = Walked} (Ok None) (Ok (Some q)) → ⊥
not_none z = cc

not_damage : {q : ℕ} → damage ≡ Ok (Some q) → ⊥
not_damage z = cc

-- so a walk that ends in a row ends in one of the book
along_row : (b : List ℕ) (r t q : ℕ) (rest : Walked) → along b r t rest ≡ Ok (Some q) → (t < most_rows) × (rest ≡ Ok (Some q))
unfolding along
along_row b r t q rest e =
    test (eqb t 0) (λ y. absurd (not_none (rw y at e)))
    (λ n. test (bad_arc b r t) (λ y. absurd (not_damage (rw (n, y) at e))) (λ m. (good_row b r t m, rw (n, m) at e)))

from_row : (b : List ℕ) (r : ℕ) (w : List ℕ) (q : ℕ) → r < most_rows → walk_from b r w ≡ Ok (Some q) → q < most_rows
unfolding walk_from
from_row b r [] q h e = let f : r ≡ q = cc in omega arith
from_row b r (s ∷ w) q h e = let n = along_row b r (arc_at b r s) q _ e in from_row b (arc_at b r s) w q n.0 n.1

pub walk_row : (b w : List ℕ) (q : ℕ) → walk b w ≡ Ok (Some q) → q < most_rows
unfolding walk
walk_row b w q e =
    test (ltb most_journals (count_at b 0)) (λ y. absurd (not_damage (rw y at e)))
    (λ n. test (eqb (count_at b 0) 0) (λ y. absurd (not_none (rw (n, y) at e))) (λ m. from_row b 0 w q (omega arith) (rw (n, m) at e)))

-- what a step of the walk needs, and what it comes to
pub ruleset walk_steps = (from_step, from_end, good_row, step_code)
