-- A place is not lost just where the word is left of the journal. Assumes nothing.
use Prim.Native.Nat.{ℕ, zero, suc, ◌+◌, ◌-◌, ◌≤◌, ◌<◌}
use native.Mathlib.Omega.{arith}
use mathlib.Core.Path.{◌≡◌, refl, sym, ap, ◌∙◌}
use mathlib.Core.Logic.{◌⊎◌, inl, inr, ◌↔◌, ◌≢◌}
use mathlib.Core.Bool.{true, false, not, false≢true}
use mathlib.Core.List.Sublistᴰ
use mathlib.Core.List.{List, [], ◌∷◌, Sublistᴰ, nil≢cons, cons≢nil, tail-eq_of_cons-eq}
use lib.ListN.{length, drop, length-drop}
use lib.Dec.{eqb}
use borrow.Author.Tests.{eqb-true, eqb-false, ne_eqb, eq-eqb}
use Rattle.words.specs.Limits.{lost}
use Rattle.words.specs.Places.{find, next, place_from, place, state, live, held}
use Rattle.words.specs.Words.{In, is_in, count, Counts, none_left, one_more, no_more, EachJournal}
use Rattle.words.proofs.Test.{test}

drop_tail : (j : List ℕ) (p x : ℕ) (l : List ℕ) → drop p j ≡ x ∷ l → drop (suc p) j ≡ l
drop_tail [] zero x l e = absurd (nil≢cons e)
drop_tail [] (suc p) x l e = absurd (nil≢cons e)
drop_tail (y ∷ j) zero x l e = tail-eq_of_cons-eq e
drop_tail (y ∷ j) (suc p) x l e = drop_tail j p x l e

-- a word that is left without its first step
left_tail : {s : ℕ} {w j : List ℕ} → In (s ∷ w) j → In w j
left_tail (Sublistᴰ.cons d) = Sublistᴰ.cons (left_tail d)
left_tail (Sublistᴰ.cons-cons e d) = Sublistᴰ.cons d

not_left_nil : {s : ℕ} {w : List ℕ} → In (s ∷ w) [] → ⊥
not_left_nil d = cons≢nil (Sublistᴰ.eq-nil d)

-- r is lost, and s is nowhere in l
abbrev pub Missed : ℕ → List ℕ → ℕ → Type 0
Missed s l r = (r ≡ lost) × ((w : List ℕ) → In (s ∷ w) l → ⊥)

-- r is the place of the first s in l, which is what follows the place p of j
pub record Hit (s : ℕ) (j l : List ℕ) (p r : ℕ) : Type 0 where
  pub above : p < r
  pub within : r ≤ p + length l
  pub there : (w : List ℕ) → In (s ∷ w) l → In w (drop r j)
  pub back : (w : List ℕ) → In w (drop r j) → In (s ∷ w) l

here : (s : ℕ) (j : List ℕ) (x : ℕ) (l : List ℕ) (p : ℕ) → drop p j ≡ x ∷ l → x ≡ s → Hit s j (x ∷ l) p (suc p)
here s j x l p e xs = record {
  above = omega arith;
  within = omega arith;
  there = λ w d. rw (drop_tail j p x l e) (cut w (Sublistᴰ.cases_cons-cons d));
  back = λ w d. Sublistᴰ.cons-cons (sym xs) (rw (drop_tail j p x l e) at d);
}
  where
    cut : (w : List ℕ) → In (s ∷ w) l ⊎ ((s ≡ x) × In w l) → In w l
    cut w (inl d) = left_tail d
    cut w (inr t) = t.1

later : (s : ℕ) (j : List ℕ) (x : ℕ) (l : List ℕ) (p r : ℕ) → (x ≡ s → ⊥)
    → Missed s l r ⊎ Hit s j l (suc p) r → Missed s (x ∷ l) r ⊎ Hit s j (x ∷ l) p r
later s j x l p r n h = go h
  where
    skip : (w : List ℕ) → In (s ∷ w) l ⊎ ((s ≡ x) × In w l) → In (s ∷ w) l
    skip w (inl d) = d
    skip w (inr t) = absurd (n (sym t.0))

    go : Missed s l r ⊎ Hit s j l (suc p) r → Missed s (x ∷ l) r ⊎ Hit s j (x ∷ l) p r
    go (inl m) = inl (m.0, λ w d. m.1 w (skip w (Sublistᴰ.cases_cons-cons d)))
    go (inr i) = inr (record {
      above = omega arith;
      within = omega arith;
      there = λ w d. i.there w (skip w (Sublistᴰ.cases_cons-cons d));
      back = λ w d. Sublistᴰ.cons (i.back w d);
    })

pub find_spec : (s : ℕ) (j l : List ℕ) (p : ℕ) → drop p j ≡ l → Missed s l (find s l p) ⊎ Hit s j l p (find s l p)
find_spec s j [] p e = inl (refl, λ w d. not_left_nil d)
find_spec s j (x ∷ l) p e =
    test (eqb x s) (λ t. rw t (inr (here s j x l p e (eqb-true x s t))))
    (λ f. rw f (later s j x l p (find s l (suc p)) (eqb-false x s f) (find_spec s j l (suc p) (drop_tail j p x l e))))

pub next_is : (j : List ℕ) (p s : ℕ) → p < lost → next j p s ≡ find s (drop p j) p
next_is j p s h = rw (ne_eqb p lost (omega arith))

pub place_lost : (j w : List ℕ) → place_from j lost w ≡ lost
place_lost j [] = refl
place_lost j (s ∷ w) = place_lost j w

-- w has a place in j from p on just where it is left of what follows p
pub placed : (j : List ℕ) → length j < lost → (w : List ℕ) (p : ℕ) → p ≤ length j → (place_from j p w ≢ lost) ↔ In w (drop p j)
placed j h [] p k = (λ n. Sublistᴰ.nil-sublist (drop p j), λ d. omega arith)
placed j h (s ∷ w) p k =
    rw (next_is j p s (omega arith)) (go (λ r b. placed j h w r b) (find s (drop p j) p) (find_spec s j (drop p j) p refl))
  where
    go : ((r : ℕ) → r ≤ length j → (place_from j r w ≢ lost) ↔ In w (drop r j)) → (r : ℕ)
        → Missed s (drop p j) r ⊎ Hit s j (drop p j) p r → (place_from j r w ≢ lost) ↔ In (s ∷ w) (drop p j)
    go below r (inl m) = (λ n. absurd (n (rw m.0 (place_lost j w))), λ d. absurd (m.1 w d))
    go below r (inr i) =
        let ih = below r (omega (arith, length-drop p j)) in
        (λ n. i.back w (ih.0 n), λ d. ih.1 (i.there w d))

pub place_left : (j w : List ℕ) → length j < lost → (place j w ≢ lost) ↔ In w j
place_left j w h = placed j h w 0 (omega arith)

-- the test says what the relation says
pub in_left : (w j : List ℕ) → is_in w j ≡ true → In w j
in_left [] j t = Sublistᴰ.nil-sublist j
in_left (s ∷ w) [] t = absurd (false≢true t)
in_left (s ∷ w) (x ∷ j) t =
    test (eqb x s) (λ y. Sublistᴰ.cons-cons (sym (eqb-true x s y)) (in_left w j (rw y at t)))
    (λ n. Sublistᴰ.cons (in_left (s ∷ w) j (rw n at t)))

pub left_in : (w j : List ℕ) → In w j → is_in w j ≡ true
left_in [] j d = refl
left_in (s ∷ w) [] d = absurd (not_left_nil d)
left_in (s ∷ w) (x ∷ j) d = go (λ d'. left_in w j d') (λ d'. left_in (s ∷ w) j d') (Sublistᴰ.cases_cons-cons d)
  where
    go : (In w j → is_in w j ≡ true) → (In (s ∷ w) j → is_in (s ∷ w) j ≡ true)
        → In (s ∷ w) j ⊎ ((s ≡ x) × In w j) → is_in (s ∷ w) (x ∷ j) ≡ true
    go a b (inl d') = test (eqb x s) (λ y. rw y (a (left_tail d'))) (λ n. rw n (b d'))
    go a b (inr t) = rw (eq-eqb x s (sym t.0)) (a t.1)

-- each journal has fewer steps than the mark for lost
abbrev pub Short : List (List ℕ) → Type 0
Short [] = Unit {0}
Short (j ∷ js) = (length j < lost) × Short js

-- journals are that short
pub short : (js : List (List ℕ)) → EachJournal js → Short js
short [] h = tt
short (j ∷ js) h = (omega arith, short js h.1)

-- a place is lost just where the word is not in
lost_out : (j w : List ℕ) → length j < lost → eqb (place j w) lost ≡ not (is_in w j)
lost_out j w h =
    test (is_in w j) (λ t. rw t (ne_eqb (place j w) lost ((place_left j w h).1 (in_left w j t))))
    (λ f. rw f (eq-eqb (place j w) lost (is_lost f)))
  where
    clash : is_in w j ≡ false → is_in w j ≡ true → ⊥
    clash f t = false≢true (sym f ∙ t)

    is_lost : is_in w j ≡ false → place j w ≡ lost
    is_lost f = test (eqb (place j w) lost) (λ y. eqb-true (place j w) lost y)
        (λ n. absurd (clash f (left_in w j ((place_left j w h).0 (eqb-false (place j w) lost n)))))

-- the count byte of a word's state is its count
pub held_count : (js : List (List ℕ)) (w : List ℕ) → Short js → held (state js w) ≡ count js w
held_count [] w h = refl
held_count (j ∷ js) w h =
    test (is_in w j) (λ t. rw (lost_out j w h.0, t) (ap suc (held_count js w h.1)))
    (λ f. rw (lost_out j w h.0, f) (held_count js w h.1))

-- a live state's count is at least 1
pub live_held : (ps : List ℕ) → live ps ≡ true → 1 ≤ held ps
live_held [] t = absurd (false≢true t)
live_held (p ∷ ps) t = test (eqb p lost) (λ y. rw y (live_held ps (rw y at t))) (λ n. rw n (omega arith))

-- the count of a state that isn't live is 0
pub dead_held : (ps : List ℕ) → live ps ≡ false → held ps ≡ 0
dead_held [] f = refl
dead_held (p ∷ ps) f = test (eqb p lost) (λ y. rw y (dead_held ps (rw y at f))) (λ n. absurd (false≢true (sym (rw n at f))))

-- a state's count is at most the number of its places
pub held_most : (ps : List ℕ) → held ps ≤ length ps
held_most [] = omega arith
held_most (p ∷ ps) = test (eqb p lost) (λ y. rw y (omega (arith, held_most ps))) (λ n. rw n (omega (arith, held_most ps)))

-- the count is the number of journals from which the word is left when some steps, or none, are struck out
pub count_counts : (js : List (List ℕ)) (w : List ℕ) → Counts w js (count js w)
count_counts [] w = none_left
count_counts (j ∷ js) w =
    test (is_in w j) (λ t. rw t (one_more (in_left w j t) (count_counts js w)))
    (λ f. rw f (no_more (λ d. false≢true (sym f ∙ left_in w j d)) (count_counts js w)))

-- and it is the only one
pub counts_count : {w : List ℕ} {js : List (List ℕ)} {n : ℕ} → Counts w js n → n ≡ count js w
counts_count none_left = refl
counts_count {w} (one_more {j = j} d c) = rw (left_in w j d) (ap suc (counts_count c))
counts_count {w} (no_more {j = j} n c) = rw (not_in_out w j n) (counts_count c)
  where
    not_in_out : (w j : List ℕ) → (In w j → ⊥) → is_in w j ≡ false
    not_in_out w j n = test (is_in w j) (λ t. absurd (n (in_left w j t))) (λ f. f)
