-- The entries of the table of next places. An entry follows from the one that stands 16 further on, of the same step at the next place: at a place within
-- the journal it is the next place if the step stands there and what stands further on if not, and from the journal's end on it is lost. Behind the last
-- entry everything is lost, since no journal has more than 200 steps. Assumes nothing.
use Prim.Native.Nat.{ℕ, ◌+◌, ◌-◌, ◌*◌, ◌/◌, ◌%◌, ◌≤◌, ◌<◌}
use native.Mathlib.Numerals.{add-one}
use native.Mathlib.Omega.{arith}
use mathlib.Core.Path.{◌≡◌, sym, ap, ap₂, ◌∙◌}
use mathlib.Core.Bool.{false, cond}
use mathlib.Core.List.{List, [], ◌++◌}
use lib.ListN.{length, take, drop, get_or, set, length-drop, drop_of_length-le, get_or-append}
use lib.Seq.{drop-cons, length-take-le, get_or-take, get_or-append-add, get_or-set_same, get_or-set_other}
use lib.Dec.{ltb, eqb}
use borrow.Author.Tests.{ltb-true, ltb-false, eqb-true, eqb-false, ne_eqb}
use Rattle.words.specs.Places.{find, next}
use Rattle.words.proofs.Test.{test}
use Rattle.states.specs.Nexts.{next_entry, NextsOf}

-- the entries from x on are right
abbrev pub RightFrom : List ℕ → ℕ → List ℕ → Type 0
RightFrom j x entries = (y : ℕ) → x ≤ y → y < 3216 → get_or entries y 0 ≡ next j (y / 16) (y % 16)

-- the entries of the first n journals are right
abbrev pub RightBelow : List (List ℕ) → ℕ → List ℕ → Type 0
RightBelow js n nexts = (i x : ℕ) → i < n → x < 3216 → get_or nexts (3216 * i + x) 0 ≡ next (get_or js i []) (x / 16) (x % 16)

-- a place that is not lost is looked up
held_place : (j : List ℕ) (p s : ℕ) → p < 255 → next j p s ≡ find s (drop p j) p
held_place j p s h = let e : eqb p 255 ≡ false = ne_eqb p 255 (λ q. omega arith) in rw e

-- the step at the place p, or what stands behind it
next_within : (j : List ℕ) (p s : ℕ) → length j ≤ 200 → p < length j → next j p s ≡ cond (eqb (get_or j p 0) s) (p + 1) (next j (p + 1) s)
next_within j p s l h =
    held_place j p s (omega arith) ∙ rw (drop-cons j p 0 h)
    (ap₂ (λ (n q : ℕ). cond (eqb (get_or j p 0) s) n q) (sym (add-one p)) (sym (held_place j (p + 1) s (omega arith) ∙ rw add-one)))

-- from the end on
pub next_behind : (j : List ℕ) (p s : ℕ) → length j ≤ p → next j p s ≡ 255
next_behind j p s h = test (eqb p 255) (λ t. rw t) (λ f. rw (f, drop_of_length-le j h))

module _ (j : List ℕ) (l : length j ≤ 200) (x : ℕ) where
  -- an entry by the one further on
  pub entry_step : next_entry j x (next j (x / 16 + 1) (x % 16)) ≡ next j (x / 16) (x % 16)
  unfolding next_entry
  entry_step =
      test (ltb (x / 16) (length j)) (λ t. rw t (sym (next_within j (x / 16) (x % 16) l (ltb-true _ _ t))))
      (λ f. rw f (sym (next_behind j (x / 16) (x % 16) (ltb-false _ _ f))))

  module _ (entries : List ℕ) (h : x < 3216) (r : RightFrom j (x + 1) entries) where
    -- the one further on, or lost behind the last
    further_right : cond (ltb (x + 16) 3216) (get_or entries (x + 16) 0) 255 ≡ next j (x / 16 + 1) (x % 16)
    further_right =
        test (ltb (x + 16) 3216)
        (λ t.
        let p : (x + 16) / 16 ≡ x / 16 + 1 = omega arith in
        let s : (x + 16) % 16 ≡ x % 16 = omega arith in
        rw t (r (x + 16) (omega arith) (ltb-true _ _ t) ∙ ap₂ (next j) p s))
        (λ f. rw f (sym (next_behind j (x / 16 + 1) (x % 16) (omega (arith, ltb-false (x + 16) 3216 f)))))

    -- so entry x, made from it, is right too
    pub right_set : (v : ℕ) → length entries ≡ 3216 → v ≡ next_entry j x (cond (ltb (x + 16) 3216) (get_or entries (x + 16) 0) 255)
        → RightFrom j x (set entries x v)
    right_set v k e y from to =
        test (eqb y x)
        (λ t.
        let q : y ≡ x = eqb-true y x t in
        rw q (get_or-set_same entries x v 0 (omega arith) ∙ e ∙ ap (next_entry j x) further_right ∙ entry_step))
        (λ f. get_or-set_other entries x y v 0 (eqb-false y x f) ∙ r y (omega (arith, eqb-false y x f)) to)

-- a part of a list, as it is lent, has its size
pub part_size : (a n : ℕ) (xs : List ℕ) → a + n ≤ length xs → length (take (a + n - a) (drop a xs)) ≡ n
part_size a n xs h = length-take-le (a + n - a) (drop a xs) (omega (arith, length-drop a xs)) ∙ omega arith

-- The entries of journal i put into the table, with anything behind them.
module _ (js : List (List ℕ)) (i : ℕ) (nexts entries rest : List ℕ) (l : 3216 * i ≤ length nexts) (e : length entries ≡ 3216) where
  front : length (take (3216 * i) nexts) ≡ 3216 * i
  front = length-take-le (3216 * i) nexts l

  -- those of the journals before it stay right
  before_put : (k x : ℕ) → k < i → x < 3216 → get_or (take (3216 * i) nexts ++ (entries ++ rest)) (3216 * k + x) 0 ≡ get_or nexts (3216 * k + x) 0
  before_put k x h to =
      get_or-append (take (3216 * i) nexts) (entries ++ rest) 0 (3216 * k + x) (omega (arith, front))
      ∙ get_or-take (3216 * i) nexts (3216 * k + x) 0 (omega arith)

  -- and its own stand at their place
  own_put : (x : ℕ) → x < 3216 → get_or (take (3216 * i) nexts ++ (entries ++ rest)) (3216 * i + x) 0 ≡ get_or entries x 0
  own_put x to =
      ap (λ (n : ℕ). get_or (take (3216 * i) nexts ++ (entries ++ rest)) (n + x) 0) (sym front)
      ∙ get_or-append-add (take (3216 * i) nexts) (entries ++ rest) x 0 ∙ get_or-append entries rest 0 x (omega arith)

  pub right_put : RightBelow js i nexts → NextsOf (get_or js i []) entries → RightBelow js (i + 1) (take (3216 * i) nexts ++ (entries ++ rest))
  right_put below own k x h to =
      test (eqb k i) (λ t. let q : k ≡ i = eqb-true k i t in rw q (own_put x to ∙ own x to))
      (λ f. let b : k < i = omega (arith, eqb-false k i f) in before_put k x b to ∙ below k x b to)
