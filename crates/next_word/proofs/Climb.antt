-- The first word after c that is no extension of it: step by step, a word stands before it exactly when it stands before c or extends c.
-- So the words of the list from c on are those from there on, where none of them extends c. Assumes nothing.
use Prim.Native.Nat.{ℕ, suc, ◌+◌, ◌-◌, ◌≤◌, ◌<◌}
use native.Mathlib.Omega.{arith}
use mathlib.Core.Path.{◌≡◌, refl, sym}
use mathlib.Core.Logic.{◌⊎◌, inl, inr}
use mathlib.Core.Bool.{Bool, true, false, cond, not, ◌||◌, or-true, or-false, false≢true}
use mathlib.Core.List.Memᴰ
use mathlib.Core.List.{List, [], ◌∷◌, ◌++◌, Memᴰ}
use lib.ListN.{length, take}
use lib.Dec.{eqb, ltb}
use borrow.Author.Tests.{ltb-true, ltb-false, lt-ltb, le-ltb, eqb-true, eq-eqb, ne_eqb}
use Rattle.next_word.specs.Next.{onto, climbed, from_on, from_there}
use Rattle.words.specs.Listing.{list_of, Shared, Falling, past}
use Rattle.words.specs.Order.{before}
use Rattle.words.specs.Words.{IsWord}
use Rattle.next_word.proofs.FromOn.{before_there, before_empty, from_same, past_from, from_here}
use Rattle.words.proofs.Dictionary.{list_ascending, list_members}
use Rattle.words.proofs.Test.{test}

-- a last step that can be raised is raised
pub climbed_raise : (u : List ℕ) (s : ℕ) → s < 15 → climbed (u ++ (s ∷ [])) ≡ (u ++ (suc s ∷ [])) ∷ []
unfolding climbed
climbed_raise [] s h = rw (lt-ltb s 15 h)
climbed_raise (r ∷ u) s h = rw (climbed_raise u s h)

-- and another is dropped
pub climbed_shorten : (u : List ℕ) (s : ℕ) → 15 ≤ s → climbed (u ++ (s ∷ [])) ≡ climbed u
unfolding climbed
climbed_shorten [] s h = rw (le-ltb s 15 h)
climbed_shorten (r ∷ u) s h = rw (climbed_shorten u s h)

-- x is c or an extension of it
abbrev pub extends : List ℕ → List ℕ → Bool
extends [] x = true
extends (s ∷ c) [] = false
extends (s ∷ c) (y ∷ x) = cond (eqb s y) (extends c x) false

-- how two steps compare, with what the tests answer
data Sides (y s : ℕ) : Type 0 where
  lower : y < s → ltb y s ≡ true → ltb s y ≡ false → Sides y s
  same : y ≡ s → ltb y s ≡ false → ltb s y ≡ false → eqb s y ≡ true → Sides y s
  higher : s < y → ltb y s ≡ false → ltb s y ≡ true → eqb s y ≡ false → Sides y s

sides : (y s : ℕ) → Sides y s
sides y s =
    test (ltb y s) (λ t. let l = ltb-true y s t in lower l t (le-ltb s y (omega arith)))
    (λ n. test (ltb s y) (λ t. let l = ltb-true s y t in higher l n t (ne_eqb s y (omega arith)))
    (λ m. let e : y ≡ s = omega (arith, ltb-false y s n, ltb-false s y m) in same e n m (eq-eqb s y (sym e))))

-- the first step decides, and at the same step the rest; where that moves nowhere, every word with this step stands before
before_onto : (y s : ℕ) (x : List ℕ) (ds : List (List ℕ)) → y < 16
    → before_there (y ∷ x) (onto s ds) ≡ cond (ltb y s) true (cond (ltb s y) false (before_there x ds))
before_onto y s x (d ∷ ds) h = refl
before_onto y s x [] h = test (ltb s 15) (λ t. rw t (raised (sides y s))) (λ n. rw n (kept (ltb-false s 15 n) (sides y s)))
  where
    raised : Sides y s → before (y ∷ x) (suc s ∷ []) ≡ cond (ltb y s) true (cond (ltb s y) false true)
    raised (lower l p q) = rw (p, lt-ltb y (suc s) (omega arith))
    raised (same e p q r) = rw (p, q, lt-ltb y (suc s) (omega arith))
    raised (higher l p q r) = rw (p, q, le-ltb y (suc s) l, before_empty x) (test (ltb (suc s) y) (λ t. rw t) (λ n. rw n))

    kept : 15 ≤ s → Sides y s → true ≡ cond (ltb y s) true (cond (ltb s y) false true)
    kept g (lower l p q) = rw p
    kept g (same e p q r) = rw (p, q)
    kept g (higher l p q r) = absurd (omega arith)

empty_onto : (s : ℕ) (ds : List (List ℕ)) → before_there [] (onto s ds) ≡ true
empty_onto s (d ∷ ds) = refl
empty_onto s [] = test (ltb s 15) (λ t. rw t) (λ n. rw n)

-- a word stands before where c moves to exactly when it stands before c or extends it
pub climb_means : (c x : List ℕ) → IsWord x → before_there x (climbed c) ≡ (before x c || extends c x)
unfolding climbed
climb_means [] x k = sym (or-true (before x []))
climb_means (s ∷ c) [] k = empty_onto s (climbed c)
climb_means (s ∷ c) (y ∷ x) k = rw (before_onto y s x (climbed c) k.0, climb_means c x k.1) (go (sides y s))
  where
    go : Sides y s → cond (ltb y s) true (cond (ltb s y) false (before x c || extends c x)) ≡ (before (y ∷ x) (s ∷ c) || extends (s ∷ c) (y ∷ x))
    go (lower l p q) = rw p
    go (same e p q r) = rw (p, q, r)
    go (higher l p q r) = rw (p, q, r)

-- of words no longer than w, those after it are the others
after_short : (w x : List ℕ) → length x ≤ length w → before w x ≡ not (before x w || extends w x)
after_short [] [] h = refl
after_short [] (y ∷ x) h = absurd (omega arith)
after_short (s ∷ w) [] h = refl
after_short (s ∷ w) (y ∷ x) h = go (after_short w x (omega arith)) (sides y s)
  where
    go : before w x ≡ not (before x w || extends w x) → Sides y s → before (s ∷ w) (y ∷ x) ≡ not (before (y ∷ x) (s ∷ w) || extends (s ∷ w) (y ∷ x))
    go ih (lower l p q) = rw (p, q)
    go ih (same e p q r) = rw (p, q, r) ih
    go ih (higher l p q r) = rw (p, q, r)

-- no word stands between w and its first extension
before_first : (w x : List ℕ) → before w x ≡ not (before x (w ++ (0 ∷ [])))
before_first [] [] = refl
before_first [] (y ∷ x) = rw (le-ltb y 0 (omega arith), before_empty x) (test (ltb 0 y) (λ t. rw t) (λ n. rw n))
before_first (s ∷ w) [] = refl
before_first (s ∷ w) (y ∷ x) = go (before_first w x) (sides y s)
  where
    go : before w x ≡ not (before x (w ++ (0 ∷ []))) → Sides y s → before (s ∷ w) (y ∷ x) ≡ not (before (y ∷ x) (s ∷ w ++ (0 ∷ [])))
    go ih (lower l p q) = rw (p, q)
    go ih (same e p q r) = rw (p, q) ih
    go ih (higher l p q r) = rw (p, q)

extends_is : (c x : List ℕ) → extends c x ≡ true → (v : List ℕ) × (x ≡ c ++ v)
extends_is [] x t = (x, refl)
extends_is (s ∷ c) [] t = absurd (false≢true t)
extends_is (s ∷ c) (y ∷ x) t =
    test (eqb s y) (λ e. let r = extends_is c x (rw e at t) in let f = eqb-true s y e in (r.0, let g = r.1 in cc)) (λ n. absurd (false≢true (rw n at t)))

-- d is the step raised, or the step before what the rest moves to
abbrev Onto : ℕ → List (List ℕ) → List ℕ → Type 0
Onto s ds d = ((s < 15) × (d ≡ suc s ∷ [])) ⊎ ((v : List ℕ) × Memᴰ v ds × (d ≡ s ∷ v))

onto_cases : (s : ℕ) (ds : List (List ℕ)) (d : List ℕ) → Memᴰ d (onto s ds) → Onto s ds d
onto_cases s (v ∷ ds) d m = inr (v, Memᴰ.head refl, Memᴰ.eq_of_singleton m)
onto_cases s [] d m = test (ltb s 15) (λ t. inl (ltb-true s 15 t, Memᴰ.eq_of_singleton (rw t at m))) (λ n. absurd (Memᴰ.not-nil (rw n at m)))

-- a word moves to a word, and to none that is longer
pub climbed_word : (c d : List ℕ) → IsWord c → Memᴰ d (climbed c) → IsWord d × (length d ≤ length c)
unfolding climbed
climbed_word [] d k m = absurd (Memᴰ.not-nil m)
climbed_word (s ∷ c) d k m = go (λ v i. climbed_word c v k.1 i) (onto_cases s (climbed c) d m)
  where
    go : ((v : List ℕ) → Memᴰ v (climbed c) → IsWord v × (length v ≤ length c)) → Onto s (climbed c) d → IsWord d × (length d ≤ suc (length c))
    go ih (inl p) = rw p.1 ((omega arith, tt), omega arith)
    go ih (inr p) = let r = ih p.0 p.1 in rw p.2 ((k.0, r.0), omega arith)

-- by how much the steps of a word can still be raised
abbrev pub slack : List ℕ → ℕ
slack [] = 0
slack (s ∷ w) = 15 - s + slack w

-- every move leaves less of it
pub climbed_less : (c d : List ℕ) → Memᴰ d (climbed c) → slack d < slack c
unfolding climbed
climbed_less [] d m = absurd (Memᴰ.not-nil m)
climbed_less (s ∷ c) d m = go (λ v i. climbed_less c v i) (onto_cases s (climbed c) d m)
  where
    go : ((v : List ℕ) → Memᴰ v (climbed c) → slack v < slack c) → Onto s (climbed c) d → slack d < 15 - s + slack c
    go ih (inl p) = rw p.1 (omega arith)
    go ih (inr p) = rw p.2 (omega (arith, ih p.0 p.1))

-- so there is less of it in the word that c moves to
pub moved_less : (c d : List ℕ) → d ∷ [] ≡ climbed c → slack d < slack c
moved_less c d to = climbed_less c d (rw (← to) (Memᴰ.head refl))

-- how far the search can still go from where it stands
abbrev pub to_go : List (List ℕ) → ℕ
to_go [] = 0
to_go (c ∷ cs) = suc (slack c)

pub climbed_go : (c : List ℕ) → to_go (climbed c) < suc (slack c)
climbed_go c = go (climbed c) (λ d m. climbed_less c d m)
  where
    go : (ds : List (List ℕ)) → ((d : List ℕ) → Memᴰ d ds → slack d < slack c) → to_go ds < suc (slack c)
    go [] h = omega arith
    go (d ∷ ds) h = omega (arith, h d (Memᴰ.head refl))

-- the first extension of a word is the very next word
pub extend_after : (w : List ℕ) (l : List (List ℕ)) → past w l ≡ from_on (w ++ (0 ∷ [])) l
extend_after w l = past_from w ((w ++ (0 ∷ [])) ∷ []) l (λ x m. before_first w x)

module _ (count : List ℕ → ℕ) (fall : Falling count) (q n : ℕ) where
  shared : (x : List ℕ) → Memᴰ x (list_of count q n) → Shared count q n x
  shared x m = (list_members count q fall n x).0 m

  -- a word below the quorum is left out with all its extensions
  pub climb_skips : (c : List ℕ) → (q ≤ count c → ⊥) → from_on c (list_of count q n) ≡ from_there (climbed c) (list_of count q n)
  climb_skips c low = from_same c (climbed c) (list_of count q n) (λ x m. let h = shared x m in sym (rw (none x h.reaches, or-false (before x c)) at (climb_means c x h.word)))
    where
      none : (x : List ℕ) → q ≤ count x → extends c x ≡ false
      none x h = test (extends c x) (λ t. let r = extends_is c x t in absurd (low (omega (arith, fall c r.0, rw r.1 at h)))) (λ f. f)

  -- a word at least as long as the list allows has no extension in it
  pub climb_after : (w : List ℕ) → n ≤ length w → past w (list_of count q n) ≡ from_there (climbed w) (list_of count q n)
  climb_after w e = past_from w (climbed w) (list_of count q n) (λ x m. let h = shared x m in rw (climb_means w x h.word) (after_short w x (omega arith)))

  -- a word that reaches the quorum is the first from itself on
  pub here : (c : List ℕ) → IsWord c → length c ≤ n → q ≤ count c → take 1 (from_on c (list_of count q n)) ≡ c ∷ []
  here c k h r = rw (from_here c (list_of count q n) ((list_members count q fall n c).1 (record { word = k; short = h; reaches = r })) (list_ascending count q n))
