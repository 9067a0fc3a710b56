-- Steps one by one: in a word that passes the test of all steps, and in an array that has something for each step. Assumes nothing.
use Prim.Native.Nat.{ℕ, zero, suc, ◌<◌}
use native.Mathlib.Omega.{arith}
use mathlib.Core.Path.{◌≡◌, sym, ◌∙◌}
use mathlib.Core.Bool.{true, false≢true}
use mathlib.Core.List.{List, [], ◌∷◌, map}
use lib.ListN.{length, get_or}
use lib.Dec.{ltb}
use borrow.Author.Tests.{ltb-true}
use Rattle.std.proofs.lemmas.List.{ext_get_or}
use Rattle.words.specs.Limits.{step_codes}
use Rattle.words.specs.Picture.{steps}
use Rattle.words.proofs.Codes.{at_step}
use Rattle.words.proofs.Test.{test}
use Rattle.records.specs.Bytes.{all_below}

-- in a word that passes, each step is a code
pub step_code : (w : List ℕ) → all_below step_codes w ≡ true → (i : ℕ) → get_or w i 0 < step_codes
step_code [] t i = omega arith
step_code (s ∷ w) t zero = test (ltb s step_codes) (λ y. ltb-true s step_codes y) (λ f. absurd (false≢true (rw f at t)))
step_code (s ∷ w) t (suc i) = test (ltb s step_codes) (λ y. step_code w (rw y at t) i) (λ f. absurd (false≢true (rw f at t)))

-- an array that has at each step what f gives there
pub by_steps : (f : ℕ → ℕ) (l : List ℕ) → length l ≡ step_codes → ((s : ℕ) → s < length l → get_or l s 0 ≡ f s) → l ≡ map f steps
by_steps f l n each = ext_get_or 0 l (map f steps) n (λ s h. each s h ∙ sym (at_step f s (omega arith)))
