-- A lookup that is compared with a key says whether the key stands there. Assumes nothing.
use Prim.Native.Nat.{ℕ, ◌≤◌, ◌<◌}
use native.Mathlib.Omega.{arith}
use mathlib.Core.Path.{◌≡◌, refl, sym, ap, ◌∙◌}
use mathlib.Core.Bool.{Bool, true, false, not, true≢false}
use mathlib.Core.List.{List, []}
use lib.Dec.{eqb}
use lib.ListN.{length, get_or}
use Rattle.std.specs.Cmp.Lexicographic.{pointwise, bytes_decides}
use Rattle.std.specs.List.{HoldsAt}
use Rattle.std.specs.Option.{MatchOption, option_eq}
use Rattle.std.proofs.Common.{Option, Some, None, Bor}

not_false : (b : Bool) → not b ≡ false → b ≡ true
not_false true e = refl
not_false false e = absurd (true≢false e)

-- x is what a lookup at i gave, and whether it is the key was tested
module _ (l : List (List ℕ)) (i : ℕ) (key : Bor (List ℕ)) where
  abbrev IsLookup : Option (Bor (List ℕ)) → Type 0
  IsLookup x = MatchOption x (length l ≤ i) (λ a. (i < length l) × HoldsAt (λ b. a.now ≡ b) l i)

  abbrev is_key : Option (Bor (List ℕ)) → Bool
  is_key x = option_eq (λ a b. pointwise eqb a.now b.now) x (Some key)

  -- the key stands there
  pub found_there : (x : Option (Bor (List ℕ))) → IsLookup x → not (is_key x) ≡ false → (i < length l) × (get_or l i [] ≡ key.now)
  found_there None h n = absurd (true≢false n)
  found_there (Some a) h n = (h.0, sym (h.1 []) ∙ (bytes_decides a.now key.now).0 (not_false (is_key (Some a)) n))

  -- it doesn't
  pub not_there : (x : Option (Bor (List ℕ))) → IsLookup x → not (is_key x) ≡ true → i < length l → get_or l i [] ≡ key.now → ⊥
  not_there None h n k e = absurd (omega arith)
  not_there (Some a) h n k e = true≢false (sym n ∙ ap not ((bytes_decides a.now key.now).1 (h.1 [] ∙ e)))
