-- What is read at a position, joined with the bytes from there on: an entry's bytes stand first and the others behind the position
-- that it carries, which is further on. So it is the first of what stands from there on. Assumes nothing.
use Prim.Native.Nat.{ℕ, suc, ◌+◌, ◌-◌, ◌≤◌, ◌<◌}
use native.Mathlib.Omega.{arith}
use native.Mathlib.Nat.{add-zero}
use native.Mathlib.Numerals.{add-one}
use mathlib.Core.Path.{◌≡◌, sym, ap, subst, ◌∙◌}
use mathlib.Core.Bool.{cond}
use mathlib.Core.List.{List, [], ◌∷◌}
use lib.ListN.{length, take, drop, get_or, length-drop, drop_of_length-le}
use lib.Dec.{leb, eqb}
use lib.Seq.{drop-cons, get_or-drop}
use borrow.Author.Tests.{leb-true, leb-false, eqb-true, eqb-false, le-leb, lt-leb, eq-eqb, ne_eqb}
use Rattle.std.specs.Prelude.{Ok, Err}
use Rattle.std.proofs.lemmas.List.{take_rest}
use Rattle.words.proofs.Test.{test}
use Rattle.entries.specs.Reading.{read_at, entries_in, entries_from}
use Rattle.entries.specs.declared.read.Read.{Read}
use Rattle.entries.specs.declared.read.Read.TheVariants.{Entry, Lone, End}

-- the bytes from a position on are as what was read there says
abbrev pub Stands : List ℕ → ℕ → Read → Type 0
Stands es at (Entry n s next) = (at < next) × (next ≤ length es) × (drop at es ≡ n ∷ s ∷ drop next es)
Stands es at Lone = (n : ℕ) × (drop at es ≡ n ∷ [])
Stands es at End = drop at es ≡ []

module _ (es : List ℕ) (at : ℕ) where
  lone_left : at < length es → length es - at ≡ 1 → drop at es ≡ get_or es at 0 ∷ []
  lone_left h l = drop-cons es at 0 h ∙ ap (λ (r : List ℕ). get_or es at 0 ∷ r) (drop_of_length-le es {i = suc at} (omega arith))

  pair_left : at + 1 < length es → drop at es ≡ get_or es at 0 ∷ get_or es (at + 1) 0 ∷ drop (at + 2) es
  pair_left l =
      let two : suc (at + 1) ≡ at + 2 = omega arith in
      drop-cons es at 0 (omega arith)
      ∙ ap (λ (r : List ℕ). get_or es at 0 ∷ r) (rw (← add-one at) (drop-cons es (at + 1) 0 l ∙ ap (λ (r : ℕ). get_or es (at + 1) 0 ∷ drop r es) two))

  two_left : at < length es → (length es - at ≡ 1 → ⊥) → Stands es at (Entry (get_or es at 0) (get_or es (at + 1) 0) (at + 2))
  two_left h n =
      let l : at + 1 < length es = omega arith in
      (omega arith, omega arith, pair_left l)

  some_left : at < length es → Stands es at (cond (eqb (length es - at) 1) Lone (Entry (get_or es at 0) (get_or es (at + 1) 0) (at + 2)))
  some_left h =
      test (eqb (length es - at) 1) (λ t. rw t (_, lone_left h (eqb-true (length es - at) 1 t))) (λ f. rw f (two_left h (eqb-false (length es - at) 1 f)))

  pub read_stands : Stands es at (read_at es at)
  unfolding read_at
  read_stands =
      test (leb (length es) at) (λ t. rw t (drop_of_length-le es (leb-true (length es) at t))) (λ f. rw f (some_left (leb-false (length es) at f)))

  stands : (r : Read) → r ≡ read_at es at → Stands es at r
  stands r e = subst (Stands es at) (sym e) read_stands

  -- what was read is the first of what stands from the position on
  pub none_first : End ≡ read_at es at → entries_from es at ≡ []
  unfolding entries_from
  none_first e = ap entries_in (stands End e)

  pub lone_first : (next : ℕ) → length es ≤ next → Lone ≡ read_at es at → entries_from es at ≡ Err (record {}) ∷ entries_from es next
  unfolding entries_from
  lone_first next h e = ap entries_in (stands Lone e).1 ∙ ap (λ (r : List ℕ). Err (record {}) ∷ entries_in r) (sym (drop_of_length-le es h))

  pub entry_first : (n s next : ℕ) → Entry n s next ≡ read_at es at → entries_from es at ≡ Ok (n, s) ∷ entries_from es next
  unfolding entries_from
  entry_first n s next e = ap entries_in (stands (Entry n s next) e).2

  -- and the position behind an entry is within the bytes
  pub behind_within : (n s next : ℕ) → Entry n s next ≡ read_at es at → next ≤ length es
  behind_within n s next e = (stands (Entry n s next) e).1

module _ (b : List ℕ) (at : ℕ) where
  -- the part of the bytes from the position on
  abbrev part : List ℕ
  part = take (length b - at) (drop at b)

  left : length part ≡ length b - at
  left = ap length (take_rest b at) ∙ length-drop at b

  -- what is read there, by how many bytes are left
  pub past_is : length b < at → read_at b at ≡ End
  unfolding read_at
  past_is h = rw (le-leb (length b) at (omega arith))

  pub none_is : length part < 1 → read_at b at ≡ End
  unfolding read_at
  none_is h = rw (le-leb (length b) at (omega (arith, left)))

  pub lone_is : 1 ≤ length part → length part < 2 → read_at b at ≡ Lone
  unfolding read_at
  lone_is l h = rw (lt-leb (length b) at (omega (arith, left)), eq-eqb (length b - at) 1 (omega (arith, left)))

  pub entry_is : 2 ≤ length part → read_at b at ≡ Entry (get_or part 0 0) (get_or part 1 0) (at + 2)
  unfolding read_at
  entry_is l =
      rw (lt-leb (length b) at (omega (arith, left)), ne_eqb (length b - at) 1 (λ e. omega (arith, left)))
      (simp (take_rest, get_or-drop, add-zero))

  -- and what stands from there on
  pub none_read : length part < 1 → entries_from b at ≡ []
  none_read h = none_first b at (sym (none_is h))

  pub lone_read : 1 ≤ length part → length part < 2 → entries_from b at ≡ Err (record {}) ∷ entries_from b (at + 1)
  lone_read l h = lone_first b at (at + 1) (omega (arith, left)) (sym (lone_is l h))

  pub entry_read : 2 ≤ length part → entries_from b at ≡ Ok (get_or part 0 0, get_or part 1 0) ∷ entries_from b (at + 2)
  entry_read l = entry_first b at _ _ _ (sym (entry_is l))
