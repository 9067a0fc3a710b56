-- A step that is no code asks for nothing but opening the next journal. Assumes nothing.
use Prim.Native.Nat.{ℕ, ◌+◌, ◌≤◌}
use mathlib.Core.Path.{◌≡◌}
use lib.Dec.{eqb}
use borrow.Author.Tests.{eqb-true, ne_eqb, le-ltb}
use Rattle.std.proofs.Math.Bool.{and-false}
use Rattle.std.specs.Prelude.{None}
use Rattle.words.proofs.Test.{test}
use Rattle.entries.specs.Entry.{entry_of}

pub not_code : (k n s : ℕ) → 16 ≤ s → (n ≡ k → s ≡ 255 → ⊥) → None ≡ entry_of k n s
unfolding entry_of
not_code k n s h f =
    test (eqb n k) (λ t. rw (t, le-ltb s 16 h, ne_eqb s 255 (f (eqb-true n k t)))) (λ o. rw (o, le-ltb s 16 h, and-false (eqb (n + 1) k)))
