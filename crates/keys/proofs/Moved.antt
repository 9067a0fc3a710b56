-- A key moved down past those from a place on, each of which moves a place further. Assumes nothing.
use Prim.Native.Nat.{ℕ, zero, suc, ◌-◌, ◌≤◌, ◌<◌}
use native.Mathlib.Omega.{arith}
use mathlib.Core.Path.{◌≡◌, refl, ap}
use mathlib.Core.List.{List, [], ◌∷◌, ◌++◌}
use lib.ListN.{length, take, drop, get_or, set}

-- those from place p on moved, with no key yet at p but what stood there
abbrev pub opened : List (List ℕ) → List ℕ → ℕ → List (List ℕ)
opened front last p = take (suc p) (front ++ last ∷ []) ++ drop p front

moved : (front : List (List ℕ)) (last : List ℕ) (p : ℕ) → p < length front
    → set (opened front last (suc p)) (suc p) (get_or (opened front last (suc p)) p []) ≡ opened front last p
moved [] last p h = absurd (omega arith)
moved (f ∷ []) last zero h = refl
moved (f ∷ g ∷ fs) last zero h = refl
moved (f ∷ fs) last (suc p) h = ap (λ (l : List (List ℕ)). f ∷ l) (moved fs last p (omega arith))

-- one more of them
pub one_moved : (front : List (List ℕ)) (last : List ℕ) (x : ℕ) → 0 < x → x ≤ length front
    → set (opened front last x) x (get_or (opened front last x) (x - 1) []) ≡ opened front last (x - 1)
one_moved front last zero h k = absurd (omega arith)
one_moved front last (suc p) h k =
    let e : suc p - 1 ≡ p = omega arith in
    rw e (moved front last p (omega arith))

-- none yet
pub none_moved : (front : List (List ℕ)) (last : List ℕ) → opened front last (length front) ≡ front ++ last ∷ []
none_moved [] last = refl
none_moved (f ∷ fs) last = ap (λ (l : List (List ℕ)). f ∷ l) (none_moved fs last)

-- and the key put in
pub put_down : (front : List (List ℕ)) (last : List ℕ) (p : ℕ) → p ≤ length front → set (opened front last p) p last ≡ take p front ++ last ∷ drop p front
put_down [] last zero h = refl
put_down [] last (suc p) h = absurd (omega arith)
put_down (f ∷ fs) last zero h = refl
put_down (f ∷ fs) last (suc p) h = ap (λ (l : List (List ℕ)). f ∷ l) (put_down fs last p (omega arith))

-- the last key
pub last_is : (front : List (List ℕ)) (last : List ℕ) (n : ℕ) → n ≡ length front → get_or (front ++ last ∷ []) n [] ≡ last
last_is [] last zero e = refl
last_is [] last (suc n) e = absurd (omega arith)
last_is (f ∷ fs) last zero e = absurd (omega arith)
last_is (f ∷ fs) last (suc n) e = last_is fs last n (omega arith)
