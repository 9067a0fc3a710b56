-- Another journal gives each row one more place, 0 for the empty word and lost for the others, so the rows keep their order and their number.
-- Only the first journal opened brings a row, that of the empty word. Assumes nothing.
use Prim.Native.Nat.{ℕ, suc, ◌≤◌, ◌<◌, max}
use native.Mathlib.Omega.{arith}
use mathlib.Core.Path.{◌≡◌, refl, sym, ap, ◌∙◌}
use mathlib.Core.Bool.{true, cond, false≢true}
use mathlib.Core.List.Memᴰ
use mathlib.Core.List.{List, [], ◌∷◌, ◌++◌, map, Memᴰ}
use lib.ListN.{length, drop, length-map}
use lib.Dec.{eqb, ltb}
use Rattle.words.specs.Journals.{opened}
use Rattle.words.specs.Limits.{lost}
use Rattle.words.specs.Order.{before, Ascending}
use Rattle.words.specs.Picture.{picture}
use Rattle.words.specs.Places.{find, next, place_from, place, state, live, LiveState}
use Rattle.words.proofs.Members.{picture_members, picture_ascending}
use Rattle.words.proofs.Order.{less_before, before_irrefl, unique}
use Rattle.words.proofs.Place.{Short, place_lost}
use Rattle.words.proofs.Test.{test}

abbrev Mem : List ℕ → List (List ℕ) → Type 0
Mem a l = Memᴰ a l

-- the first journal opened gives one row
pub open_first : length (picture (opened [])) ≡ 1
unfolding picture opened
open_first = refl

-- the place in the new journal stands at the end
pub state_opened : (js : List (List ℕ)) (w : List ℕ) → state (opened js) w ≡ state js w ++ (place [] w ∷ [])
unfolding opened
state_opened [] w = refl
state_opened (j ∷ js) w = ap (λ (ps : List ℕ). place j w ∷ ps) (state_opened js w)

short_opened : (js : List (List ℕ)) → Short js → Short (opened js)
unfolding opened
short_opened [] h = (omega arith, tt)
short_opened (j ∷ js) h = (h.0, short_opened js h.1)

-- a place of a word that is not empty is not 0
find_above : (s : ℕ) (l : List ℕ) (p : ℕ) → 0 < find s l p
find_above s [] p = omega arith
find_above s (x ∷ l) p = test (eqb x s) (λ t. rw t (omega arith)) (λ f. rw f (find_above s l (suc p)))

next_above : (j : List ℕ) (p s : ℕ) → 0 < next j p s
next_above j p s = test (eqb p lost) (λ t. rw t (omega arith)) (λ f. rw f (find_above s (drop p j) p))

place_above : (j : List ℕ) (p s : ℕ) (w : List ℕ) → 0 < place_from j p (s ∷ w)
place_above j p s [] = next_above j p s
place_above j p s (r ∷ w) = place_above j (next j p s) r w

-- the row a with its place in a new journal: lost if a stands after the empty word's state, 0 if it is that state
abbrev pub widened : List (List ℕ) → List ℕ → List ℕ
widened js a = a ++ (cond (before (state js []) a) lost 0 ∷ [])

widened_state : (j : List ℕ) (js : List (List ℕ)) (w : List ℕ) → widened (j ∷ js) (state (j ∷ js) w) ≡ state (opened (j ∷ js)) w
widened_state j js [] = rw (before_irrefl (state js []), state_opened (j ∷ js) [])
widened_state j js (s ∷ w) =
    rw (less_before 0 (place j (s ∷ w)) (state js []) (state js (s ∷ w)) (place_above j 0 s w), state_opened (j ∷ js) (s ∷ w), place_lost [] w)

live_end : (a : List ℕ) → live (a ++ (lost ∷ [])) ≡ live a
live_end [] = refl
live_end (p ∷ a) = rw (live_end a)

live_opened : (j : List ℕ) (js : List (List ℕ)) (w : List ℕ) → live (state (opened (j ∷ js)) w) ≡ live (state (j ∷ js) w)
live_opened j js [] = rw (state_opened (j ∷ js) [])
live_opened j js (s ∷ w) = rw (state_opened (j ∷ js) (s ∷ w), place_lost [] w) (live_end (state (j ∷ js) (s ∷ w)))

before_opened : (js : List (List ℕ)) (v w : List ℕ) → before (state js v) (state js w) ≡ true → before (state (opened js) v) (state (opened js) w) ≡ true
unfolding opened
before_opened [] v w t = absurd (false≢true t)
before_opened (j ∷ js) v w t =
    test (ltb (place j v) (place j w)) (λ l. rw l)
    (λ n. test (ltb (place j w) (place j v)) (λ m. absurd (false≢true (rw (n, m) at t))) (λ m. rw (n, m) (before_opened js v w (rw (n, m) at t))))

-- a map that keeps the order of the rows keeps them ascending
pub map_ascending : (f : List ℕ → List ℕ) (l : List (List ℕ)) → ((a b : List ℕ) → Mem a l → Mem b l → before a b ≡ true → before (f a) (f b) ≡ true)
    → Ascending l → Ascending (map f l)
map_ascending f [] k h = tt
map_ascending f (a ∷ l) k h = (λ b m. first b (Memᴰ.of_map f l m), map_ascending f l (λ b c p q. k b c (Memᴰ.tail p) (Memᴰ.tail q)) h.1)
  where
    first : (b : List ℕ) → (c : List ℕ) × Mem c l × (f c ≡ b) → before (f a) b ≡ true
    first b r = rw (← r.2) (k a r.0 (Memᴰ.head refl) (Memᴰ.tail r.1) (h.0 r.0 r.1))

-- the rows after another journal is opened
pub opened_picture : (j : List ℕ) (js : List (List ℕ)) → Short (j ∷ js) → picture (opened (j ∷ js)) ≡ map (widened (j ∷ js)) (picture (j ∷ js))
opened_picture j js h =
    unique (picture (opened old)) (map (widened old) (picture old)) (picture_ascending (opened old)) (map_ascending (widened old) (picture old) keeps (picture_ascending old)) there back
  where
    old : List (List ℕ)
    old = j ∷ js

    row : (a : List ℕ) → Mem a (picture old) → LiveState old a
    row a m = (picture_members old h a).0 m

    wide : (a : List ℕ) (r : LiveState old a) → widened old a ≡ state (opened old) r.1.0
    wide a r = ap (widened old) r.1.2 ∙ widened_state j js r.1.0

    keeps : (a b : List ℕ) → Mem a (picture old) → Mem b (picture old) → before a b ≡ true → before (widened old a) (widened old b) ≡ true
    keeps a b m n t =
        let r = row a m in
        let q = row b n in
        rw (wide a r, wide b q) (before_opened old r.1.0 q.1.0 (rw (r.1.2, q.1.2) at t))

    there : (x : List ℕ) → Mem x (picture (opened old)) → Mem x (map (widened old) (picture old))
    there x m =
        let r = (picture_members (opened old) (short_opened old h) x).0 m in
        let w = r.1.0 in
        let a = (picture_members old h (state old w)).1 (sym (live_opened j js w) ∙ (rw r.1.2 at r.0), (w, r.1.1, refl)) in
        rw (r.1.2 ∙ sym (widened_state j js w)) (Memᴰ.map (widened old) a)

    back : (x : List ℕ) → Mem x (map (widened old) (picture old)) → Mem x (picture (opened old))
    back x m =
        let i = Memᴰ.of_map (widened old) (picture old) m in
        let r = row i.0 i.1 in
        let w = r.1.0 in
        let e = sym i.2 ∙ wide i.0 r in
        (picture_members (opened old) (short_opened old h) x).1 (rw e (live_opened j js w ∙ (rw r.1.2 at r.0)), (w, r.1.1, e))

some : (a : List ℕ) (l : List (List ℕ)) → Mem a l → 1 ≤ length l
some a [] m = absurd (Memᴰ.not-nil m)
some a (b ∷ l) m = omega arith

none : length (picture []) ≡ 0
unfolding picture
none = refl

-- opening gives no row but the first
pub never_more : (js : List (List ℕ)) → Short js → length (picture (opened js)) ≡ max 1 (length (picture js))
never_more [] h = omega (arith, open_first, none)
never_more (j ∷ js) h =
    let start = (picture_members (j ∷ js) h (state (j ∷ js) [])).1 (refl, ([], tt, refl)) in
    rw (opened_picture j js h, length-map (picture (j ∷ js)) (widened (j ∷ js))) (omega (arith, some (state (j ∷ js) []) (picture (j ∷ js)) start))
