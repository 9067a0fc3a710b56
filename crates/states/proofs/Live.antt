-- Whether a place isn't lost, and how many are not, as the library's words say it. Assumes nothing.
use Prim.Native.Nat.{ℕ}
use native.Mathlib.Omega.{arith}
use mathlib.Core.Path.{◌≡◌, refl}
use mathlib.Core.Bool.{not}
use mathlib.Core.List.{List, [], ◌∷◌}
use lib.Dec.{eqb}
use Rattle.std.specs.List.{list_any, count_by}
use Rattle.std.proofs.lemmas.List.Recursion.{is_count_by}
use Rattle.words.specs.Places.{live, held}
use Rattle.words.proofs.Test.{test}

pub live_any : (l : List ℕ) → live l ≡ list_any (λ p. not (eqb p 255)) l
live_any [] = refl
live_any (p ∷ l) = test (eqb p 255) (λ t. rw t (live_any l)) (λ f. rw f)

pub held_count : (l : List ℕ) → held l ≡ count_by (λ p. not (eqb p 255)) l
held_count = is_count_by held (λ p. not (eqb p 255)) refl (λ p l. test (eqb p 255) (λ t. rw t) (λ f. rw f (omega arith)))
