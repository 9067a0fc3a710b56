-- Records of one width, one after the other: record r begins at r widths. Assumes nothing.
use Prim.Native.Nat.{ℕ, zero, suc, ◌+◌, ◌*◌, ◌<◌}
use native.Mathlib.Omega.{arith}
use mathlib.Core.Path.{◌≡◌, refl, ap₂, ◌∙◌}
use mathlib.Core.List.Memᴰ
use mathlib.Core.List.{List, [], ◌∷◌, ◌++◌, append_assoc, append-nil, map, Memᴰ}
use lib.ListN.{length, take, drop, get_or, replicate, length-append, replicate-append-replicate, take-append-drop, get_or-append}
use lib.Seq.{get_or-append-add}
use Rattle.records.specs.Bytes.{flat}

-- n is the length of each record that f makes of l
abbrev pub Wide : (List ℕ → List ℕ) → ℕ → List (List ℕ) → Type 0
Wide f n l = (a : List ℕ) → Memᴰ a l → length (f a) ≡ n

-- byte i of record r
pub flat_at : (f : List ℕ → List ℕ) (n : ℕ) (l : List (List ℕ)) (z : List ℕ) → Wide f n l
    → (r i : ℕ) → r < length l → i < n → get_or (flat f l ++ z) (n * r + i) 0 ≡ get_or (f (get_or l r [])) i 0
flat_at f n [] z h r i b c = absurd (omega arith)
flat_at f n (a ∷ l) z h zero i b c =
    let e : n * zero + i ≡ i = omega arith in
    rw (e, append_assoc) (get_or-append (f a) (flat f l ++ z) 0 i (omega (arith, h a (Memᴰ.head refl))))
flat_at f n (a ∷ l) z h (suc r) i b c =
    let e : n * suc r + i ≡ length (f a) + (n * r + i) = omega (arith, h a (Memᴰ.head refl)) in
    rw (e, append_assoc) (get_or-append-add (f a) (flat f l ++ z) (n * r + i) 0 ∙ flat_at f n l z (λ c m. h c (Memᴰ.tail m)) r i (omega arith) c)

-- the length of all records
pub length_flat : (f : List ℕ → List ℕ) (n : ℕ) (l : List (List ℕ)) → Wide f n l → length (flat f l) ≡ n * length l
length_flat f n [] h = omega arith
length_flat f n (a ∷ l) h =
    omega (arith, length-append (f a) (flat f l), h a (Memᴰ.head refl), length_flat f n l (λ c m. h c (Memᴰ.tail m)))

-- one more record stands behind the others
pub flat_snoc : (f : List ℕ → List ℕ) (l : List (List ℕ)) (a : List ℕ) → flat f (l ++ (a ∷ [])) ≡ flat f l ++ f a
flat_snoc f [] a = append-nil (f a)
flat_snoc f (b ∷ l) a = rw (flat_snoc f l a, append_assoc)

-- the first records have the width of all
pub wide_take : (f : List ℕ → List ℕ) (n : ℕ) (l : List (List ℕ)) → Wide f n l → (i : ℕ) → Wide f n (take i l)
wide_take f n l h i a m = h a (rw take-append-drop at (Memᴰ.append_left (drop i l) m))

-- records made of what h makes of l
pub flat_map : (f g h : List ℕ → List ℕ) (l : List (List ℕ)) → ((a : List ℕ) → Memᴰ a l → f (h a) ≡ g a) → flat f (map h l) ≡ flat g l
flat_map f g h [] e = refl
flat_map f g h (a ∷ l) e = ap₂ ◌++◌ (e a (Memᴰ.head refl)) (flat_map f g h l (λ c m. e c (Memᴰ.tail m)))

-- zeros in records are zeros
pub flat_zeros : (n : ℕ) (l : List (List ℕ)) → flat (λ a. replicate n 0) l ≡ replicate (n * length l) 0
flat_zeros n [] = let e : n * 0 ≡ 0 = omega arith in rw e
flat_zeros n (a ∷ l) =
    let e : n * suc (length l) ≡ n + n * length l = omega arith in
    rw (e, flat_zeros n l) (replicate-append-replicate n (n * length l) 0)
