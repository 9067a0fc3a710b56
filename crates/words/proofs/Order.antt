-- The order of states, inserting into an ascending list, and that its members fix such a list. Assumes nothing.
use Prim.Native.Nat.{ℕ, ◌<◌}
use native.Mathlib.Omega.{arith}
use mathlib.Core.Path.{◌≡◌, refl, sym, ap₂, ◌∙◌}
use mathlib.Core.Logic.{◌⊎◌, inl, inr, ◌≢◌, ⊎_elim}
use mathlib.Core.Bool.{true, false, false≢true}
use mathlib.Core.List.Memᴰ
use mathlib.Core.List.{List, [], ◌∷◌, Memᴰ}
use lib.Dec.{ltb}
use borrow.Author.Tests.{ltb-true, ltb-false, lt-ltb, le-ltb}
use Rattle.words.specs.Order.{before, Ascending}
use Rattle.words.specs.Picture.{insert}
use Rattle.words.proofs.Test.{test}

abbrev Mem : List ℕ → List (List ℕ) → Type 0
Mem a l = Memᴰ a l

-- what `before` says of two rows that are not empty
cons_cases : (x y : ℕ) (a b : List ℕ) → before (x ∷ a) (y ∷ b) ≡ true → (x < y) ⊎ ((x ≡ y) × (before a b ≡ true))
cons_cases x y a b t =
    test (ltb x y) (λ l. inl (ltb-true x y l))
    (λ n. test (ltb y x) (λ m. absurd (false≢true (rw (n, m) at t))) (λ m. inr (eq n m, rw (n, m) at t)))
  where
    eq : ltb x y ≡ false → ltb y x ≡ false → x ≡ y
    eq n m = omega (arith, ltb-false x y n, ltb-false y x m)

pub less_before : (x y : ℕ) (a b : List ℕ) → x < y → before (x ∷ a) (y ∷ b) ≡ true
less_before x y a b h = rw (lt-ltb x y h)

pub same_before : (x y : ℕ) (a b : List ℕ) → x ≡ y → before a b ≡ true → before (x ∷ a) (y ∷ b) ≡ true
same_before x y a b e h = rw (le-ltb x y (omega arith), le-ltb y x (omega arith)) h

pub before_irrefl : (a : List ℕ) → before a a ≡ false
before_irrefl [] = refl
before_irrefl (x ∷ a) = rw (le-ltb x x (omega arith)) (before_irrefl a)

pub before_trans : (a b c : List ℕ) → before a b ≡ true → before b c ≡ true → before a c ≡ true
before_trans [] [] c p q = absurd (false≢true p)
before_trans [] (y ∷ b) [] p q = absurd (false≢true q)
before_trans [] (y ∷ b) (z ∷ c) p q = refl
before_trans (x ∷ a) [] c p q = absurd (false≢true p)
before_trans (x ∷ a) (y ∷ b) [] p q = absurd (false≢true q)
before_trans (x ∷ a) (y ∷ b) (z ∷ c) p q = go (λ p q. before_trans a b c p q) (cons_cases x y a b p) (cons_cases y z b c q)
  where
    go : (before a b ≡ true → before b c ≡ true → before a c ≡ true) → (x < y) ⊎ ((x ≡ y) × (before a b ≡ true))
        → (y < z) ⊎ ((y ≡ z) × (before b c ≡ true)) → before (x ∷ a) (z ∷ c) ≡ true
    go ih (inl h) (inl k) = less_before x z a c (omega arith)
    go ih (inl h) (inr k) = less_before x z a c (omega arith)
    go ih (inr h) (inl k) = less_before x z a c (omega arith)
    go ih (inr h) (inr k) = same_before x z a c (omega arith) (ih h.1 k.1)

pub before_asym : (a b : List ℕ) → before a b ≡ true → before b a ≡ false
before_asym a b p =
    test (before b a) (λ q. absurd (false≢true (sym (before_irrefl a) ∙ before_trans a b a p q))) (λ f. f)

pub before_total : (a b : List ℕ) → before a b ≡ false → before b a ≡ false → a ≡ b
before_total [] [] p q = refl
before_total [] (y ∷ b) p q = absurd (false≢true (sym p))
before_total (x ∷ a) [] p q = absurd (false≢true (sym q))
before_total (x ∷ a) (y ∷ b) p q =
    test (ltb x y) (λ l. absurd (false≢true (sym (rw l at p))))
    (λ n. test (ltb y x) (λ m. absurd (false≢true (sym (rw m at q))))
    (λ m. ap₂ (λ (z : ℕ) (c : List ℕ). z ∷ c) (eq n m) (before_total a b (rw (n, m) at p) (rw (m, n) at q))))
  where
    eq : ltb x y ≡ false → ltb y x ≡ false → x ≡ y
    eq n m = omega (arith, ltb-false x y n, ltb-false y x m)

-- the members of an insertion
pub insert_here : (a : List ℕ) (l : List (List ℕ)) → Mem a (insert a l)
insert_here a [] = Memᴰ.head refl
insert_here a (b ∷ l) =
    test (before a b) (λ t. rw t (Memᴰ.head refl))
    (λ f. test (before b a) (λ u. rw (f, u) (Memᴰ.tail (insert_here a l))) (λ g. rw (f, g) (Memᴰ.head (before_total a b f g))))

pub insert_old : (a x : List ℕ) (l : List (List ℕ)) → Mem x l → Mem x (insert a l)
insert_old a x [] m = absurd (Memᴰ.not-nil m)
insert_old a x (b ∷ l) m =
    test (before a b) (λ t. rw t (Memᴰ.tail m))
    (λ f. test (before b a) (λ u. rw (f, u) (go (λ k. insert_old a x l k) (Memᴰ.cases_cons m))) (λ g. rw (f, g) m))
  where
    go : (Mem x l → Mem x (insert a l)) → (x ≡ b) ⊎ Mem x l → Mem x (b ∷ insert a l)
    go ih (inl e) = Memᴰ.head e
    go ih (inr k) = Memᴰ.tail (ih k)

pub insert_only : (a x : List ℕ) (l : List (List ℕ)) → Mem x (insert a l) → (x ≡ a) ⊎ Mem x l
insert_only a x [] m = Memᴰ.cases_cons m
insert_only a x (b ∷ l) m =
    test (before a b) (λ t. Memᴰ.cases_cons (rw t at m))
    (λ f. test (before b a) (λ u. go (λ k. insert_only a x l k) (Memᴰ.cases_cons (rw (f, u) at m))) (λ g. inr (rw (f, g) at m)))
  where
    up : (x ≡ a) ⊎ Mem x l → (x ≡ a) ⊎ Mem x (b ∷ l)
    up (inl e) = inl e
    up (inr k) = inr (Memᴰ.tail k)

    go : (Mem x (insert a l) → (x ≡ a) ⊎ Mem x l) → (x ≡ b) ⊎ Mem x (insert a l) → (x ≡ a) ⊎ Mem x (b ∷ l)
    go ih (inl e) = inr (Memᴰ.head e)
    go ih (inr k) = up (ih k)

pub insert_ascending : (a : List ℕ) (l : List (List ℕ)) → Ascending l → Ascending (insert a l)
insert_ascending a [] h = (λ b m. absurd (Memᴰ.not-nil m), tt)
insert_ascending a (b ∷ l) h =
    test (before a b) (λ t. rw t (λ c m. front t c (Memᴰ.cases_cons m), h))
    (λ f. test (before b a) (λ u. rw (f, u) (λ c m. below u c (insert_only a c l m), insert_ascending a l h.1)) (λ g. rw (f, g) h))
  where
    front : before a b ≡ true → (c : List ℕ) → (c ≡ b) ⊎ Mem c l → before a c ≡ true
    front t c (inl e) = rw e t
    front t c (inr m) = before_trans a b c t (h.0 c m)

    below : before b a ≡ true → (c : List ℕ) → (c ≡ a) ⊎ Mem c l → before b c ≡ true
    below u c (inl e) = rw e u
    below u c (inr m) = h.0 c m

-- an ascending list is fixed by its members
pub unique : (l m : List (List ℕ)) → Ascending l → Ascending m → ((x : List ℕ) → Mem x l → Mem x m) → ((x : List ℕ) → Mem x m → Mem x l) → l ≡ m
unique [] [] h k f g = refl
unique [] (b ∷ m) h k f g = absurd (Memᴰ.not-nil (g b (Memᴰ.head refl)))
unique (a ∷ l) [] h k f g = absurd (Memᴰ.not-nil (f a (Memᴰ.head refl)))
unique (a ∷ l) (b ∷ m) h k f g = ap₂ (λ (c : List ℕ) (n : List (List ℕ)). c ∷ n) heads (unique l m h.1 k.1 there back)
  where
    no_loop : (c d : List ℕ) → before c d ≡ true → before d c ≡ true → ⊥
    no_loop c d p q = false≢true (sym (before_irrefl c) ∙ before_trans c d c p q)

    match : (a ≡ b) ⊎ Mem a m → (b ≡ a) ⊎ Mem b l → a ≡ b
    match (inl e) q = e
    match (inr p) (inl e) = sym e
    match (inr p) (inr q) = absurd (no_loop a b (h.0 b q) (k.0 a p))

    heads : a ≡ b
    heads = match (Memᴰ.cases_cons (f a (Memᴰ.head refl))) (Memᴰ.cases_cons (g b (Memᴰ.head refl)))

    there : (x : List ℕ) → Mem x l → Mem x m
    there x i = ⊎_elim (λ (e : x ≡ b). absurd (self (rw (e ∙ sym heads) at (h.0 x i)))) (λ j. j) (Memᴰ.cases_cons (f x (Memᴰ.tail i)))
      where
        self : before a a ≡ true → ⊥
        self q = false≢true (sym (before_irrefl a) ∙ q)

    back : (x : List ℕ) → Mem x m → Mem x l
    back x i = ⊎_elim (λ (e : x ≡ a). absurd (self (rw (e ∙ heads) at (k.0 x i)))) (λ j. j) (Memᴰ.cases_cons (g x (Memᴰ.tail i)))
      where
        self : before b b ≡ true → ⊥
        self q = false≢true (sym (before_irrefl b) ∙ q)
