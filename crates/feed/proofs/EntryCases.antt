-- Opening and appending by their cases, and both as a whole: refused, or done. Assumes nothing.
use Prim.Native.Nat.{ℕ}
use native.Mathlib.Omega.{arith}
use mathlib.Core.Path.{◌≡◌, sym, ap, ◌∙◌}
use mathlib.Core.Bool.{false}
use mathlib.Core.List.{List}
use lib.ListN.{length}
use lib.Dec.{eqb}
use borrow.Author.Tests.{eq-eqb, ne_eqb}
use Rattle.std.proofs.Math.Bool.{and-false}
use Rattle.records.specs.Sound.{right_sizes}
use Rattle.books.specs.Numbers.{first}
use Rattle.books.specs.Clear.{After, after}
use Rattle.books.specs.Open.{open_refusals, open_call}
use Rattle.books.specs.Append.{append_call}
use Rattle.books.proofs.OpenCases.{open_refused}
use Rattle.books.proofs.Refusals.{refused}
use Rattle.feed.specs.Entry.{open_append, open_append_whole}

module _ (jb rb : List ℕ) (s : ℕ) where
  module _ (n : ℕ) (oj or : List ℕ) (o : after n oj or ≡ open_call jb rb) where
    -- opening is refused
    pub opening_refused : (n ≡ 0 → ⊥) → after n oj or ≡ open_append jb rb s
    unfolding open_append
    opening_refused h = rw (ne_eqb (open_call jb rb).number 0 (λ z. h (ap (λ (a : After). a.number) o ∙ z))) o

    -- opening is done, and what appending does stands
    pub opening_done : n ≡ 0 → append_call oj or s ≡ open_append jb rb s
    unfolding open_append
    opening_done z = rw (← o, eq-eqb n 0 z)

  module _ (n : ℕ) (aj ar : List ℕ) (a : after n aj ar ≡ open_append jb rb s) where
    -- both as a whole: a refusal leaves the books
    pub whole_refused : (n ≡ 0 → ⊥) → after n jb rb ≡ open_append_whole jb rb s
    unfolding open_append_whole
    whole_refused h = rw (← a, refused n aj jb h, refused n ar rb h)

    pub whole_done : n ≡ 0 → after 0 aj ar ≡ open_append_whole jb rb s
    unfolding open_append_whole
    whole_done z = rw (← a, z)

  -- where opening is refused
  pub whole_unopened : (n : ℕ) → (n ≡ 0 → ⊥) → after n jb rb ≡ open_call jb rb → open_append_whole jb rb s ≡ after n jb rb
  whole_unopened n h o = sym (whole_refused n jb rb (opening_refused n jb rb o h) h)

  -- wrong sizes are a refusal of opening
  pub whole_size : right_sizes jb rb ≡ false → after 1 jb rb ≡ open_append_whole jb rb s
  whole_size f =
      let one : 1 ≡ first (open_refusals jb rb) = rw f in
      sym (whole_unopened 1 (λ z. omega arith) (open_refused jb rb 1 one (λ z. omega arith)))

  pub whole_journals : (length jb ≡ 4096 → ⊥) → open_append_whole jb rb s ≡ after 1 jb rb
  whole_journals h = sym (whole_size (rw (ne_eqb (length jb) 4096 h)))

  pub whole_rows : (length rb ≡ 64000 → ⊥) → open_append_whole jb rb s ≡ after 1 jb rb
  whole_rows h = sym (whole_size (rw (ne_eqb (length rb) 64000 h, and-false (eqb (length jb) 4096))))
