-- A row's number is where it stands among the ascending rows. The empty word's row comes first, and an arc has the number of the row that its
-- step reaches, which is greater. Assumes nothing.
use Prim.Native.Nat.{ℕ, zero, suc, ◌+◌, ◌≤◌, ◌<◌}
use native.Mathlib.Omega.{arith}
use mathlib.Core.Path.{◌≡◌, refl, sym, ap, ◌∙◌}
use mathlib.Core.Logic.{◌⊎◌, inl, inr, ⊎_elim}
use mathlib.Core.Bool.{true, false, false≢true}
use mathlib.Core.List.Memᴰ
use mathlib.Core.List.{List, [], ◌∷◌, ◌++◌, Memᴰ}
use lib.ListN.{length, get_or}
use lib.Dec.{ltb}
use borrow.Author.Tests.{le-ltb}
use Rattle.words.specs.Order.{before, Ascending}
use Rattle.words.specs.Picture.{row_of, arc, picture}
use Rattle.words.specs.Places.{state, step, live, LiveState}
use Rattle.words.proofs.Falls.{state_within, step_after}
use Rattle.words.proofs.Members.{state_snoc, picture_members, picture_ascending, snoc_steps}
use Rattle.words.proofs.Order.{before_irrefl, before_asym}
use Rattle.words.proofs.Place.{Short}
use Rattle.words.proofs.Test.{test}

abbrev Mem : List ℕ → List (List ℕ) → Type 0
Mem a l = Memᴰ a l

-- the row number of the first row
pub row_head : (a c : List ℕ) (i : ℕ) (l : List (List ℕ)) → a ≡ c → row_of a i (c ∷ l) ≡ i
row_head a c i l e = rw (e, before_irrefl c)

-- the row number of a later one
pub row_tail : (a c : List ℕ) (i : ℕ) (l : List (List ℕ)) → before c a ≡ true → row_of a i (c ∷ l) ≡ row_of a (suc i) l
row_tail a c i l t = rw (before_asym c a t, t)

-- row numbers counted from i are at least i
pub row_from : (a : List ℕ) (i : ℕ) (l : List (List ℕ)) → Ascending l → Mem a l → i ≤ row_of a i l
row_from a i [] h m = absurd (Memᴰ.not-nil m)
row_from a i (c ∷ l) h m =
    ⊎_elim (λ (e : a ≡ c). omega (arith, row_head a c i l e))
    (λ (k : Mem a l). omega (arith, row_tail a c i l (h.0 a k), row_from a (suc i) l h.1 k)) (Memᴰ.cases_cons m)

-- rows stand in the order of their numbers
pub row_less : (a b : List ℕ) (i : ℕ) (l : List (List ℕ)) → Ascending l → Mem a l → Mem b l → before a b ≡ true → row_of a i l < row_of b i l
row_less a b i [] h m n t = absurd (Memᴰ.not-nil m)
row_less a b i (c ∷ l) h m n t = go (λ p q. row_less a b (suc i) l h.1 p q t) (Memᴰ.cases_cons m) (Memᴰ.cases_cons n)
  where
    go : (Mem a l → Mem b l → row_of a (suc i) l < row_of b (suc i) l) → (a ≡ c) ⊎ Mem a l → (b ≡ c) ⊎ Mem b l → row_of a i (c ∷ l) < row_of b i (c ∷ l)
    go ih (inl e) (inl f) = absurd (false≢true (sym (before_irrefl a) ∙ (rw (f ∙ sym e) at t)))
    go ih (inl e) (inr q) = omega (arith, row_head a c i l e, row_tail b c i l (h.0 b q), row_from b (suc i) l h.1 q)
    go ih (inr p) (inl f) = absurd (false≢true (sym (before_asym a b t) ∙ (rw (← f) at (h.0 a p))))
    go ih (inr p) (inr q) = omega (arith, row_tail a c i l (h.0 a p), row_tail b c i l (h.0 b q), ih p q)

-- what stands at a number is a member
pub at_mem : (l : List (List ℕ)) (k : ℕ) → k < length l → Mem (get_or l k []) l
at_mem [] k b = absurd (omega arith)
at_mem (c ∷ l) zero b = Memᴰ.head refl
at_mem (c ∷ l) (suc k) b = Memᴰ.tail (at_mem l k (omega arith))

-- each member stands at a number
pub mem_index : (a : List ℕ) (l : List (List ℕ)) → Mem a l → (k : ℕ) × (k < length l) × (get_or l k [] ≡ a)
mem_index a [] m = absurd (Memᴰ.not-nil m)
mem_index a (c ∷ l) m = go (λ k. mem_index a l k) (Memᴰ.cases_cons m)
  where
    go : (Mem a l → (k : ℕ) × (k < length l) × (get_or l k [] ≡ a)) → (a ≡ c) ⊎ Mem a l → (k : ℕ) × (k < suc (length l)) × (get_or (c ∷ l) k [] ≡ a)
    go ih (inl e) = (0, omega arith, sym e)
    go ih (inr k) = let t = ih k in (suc t.0, omega arith, t.2)

-- each row has its number
pub row_at : (l : List (List ℕ)) → Ascending l → (i k : ℕ) → k < length l → row_of (get_or l k []) i l ≡ i + k
row_at [] h i k b = absurd (omega arith)
row_at (c ∷ l) h i zero b = row_head c c i l refl ∙ omega arith
row_at (c ∷ l) h i (suc k) b =
    row_tail (get_or l k []) c i l (h.0 (get_or l k []) (at_mem l k (omega arith))) ∙ omega (arith, row_at l h.1 (suc i) k (omega arith))

-- the row of a member's number is the member
pub row_is : (a : List ℕ) (l : List (List ℕ)) → Ascending l → Mem a l → (row_of a 0 l < length l) × (get_or l (row_of a 0 l) [] ≡ a)
row_is a l h m =
    let t = mem_index a l m in
    let e : row_of a 0 l ≡ t.0 = rw t.2 at (row_at l h 0 t.0 t.1) ∙ omega arith in
    (omega arith, rw e t.2)

length_state : (js : List (List ℕ)) (w : List ℕ) → length (state js w) ≡ length js
length_state [] w = refl
length_state (j ∷ js) w = ap suc (length_state js w)

-- nothing of its length stands before the empty word's state
zeros_first : (js : List (List ℕ)) (ps : List ℕ) → length ps ≡ length js → before ps (state js []) ≡ false
zeros_first [] [] e = refl
zeros_first [] (p ∷ ps) e = absurd (omega arith)
zeros_first (j ∷ js) [] e = absurd (omega arith)
zeros_first (j ∷ js) (p ∷ ps) e = test (ltb 0 p) (λ t. rw (le-ltb p 0 (omega arith), t)) (λ f. rw (le-ltb p 0 (omega arith), f) (zeros_first js ps (omega arith)))

-- among rows of k places the empty word's state is row 0
pub start_row : (js l : List (List ℕ)) → Ascending l → ((a : List ℕ) → Mem a l → length a ≡ length js) → Mem (state js []) l → row_of (state js []) 0 l ≡ 0
start_row js [] h b m = absurd (Memᴰ.not-nil m)
start_row js (c ∷ l) h b m =
    ⊎_elim (λ (e : state js [] ≡ c). row_head (state js []) c 0 l e)
    (λ (k : Mem (state js []) l). absurd (false≢true (sym (zeros_first js c (b c (Memᴰ.head refl))) ∙ h.0 (state js []) k))) (Memᴰ.cases_cons m)

-- a live state has a place for each journal
pub live_width : (js : List (List ℕ)) (a : List ℕ) → LiveState js a → length a ≡ length js
live_width js a r = rw r.1.2 (length_state js r.1.0)

-- what a step reaches from a live state, if it is live, is a live state of the journals
pub step_live : (js : List (List ℕ)) (a : List ℕ) (s : ℕ) → LiveState js a → s < 16 → live (step js a s) ≡ true → LiveState js (step js a s)
step_live js a s r b t =
    (t, (r.1.0 ++ (s ∷ []), snoc_steps r.1.0 s r.1.1 b, ap (λ (c : List ℕ). step js c s) r.1.2 ∙ sym (state_snoc js r.1.0 s)))

-- it stands after the state that it is reached from
pub live_after : (js : List (List ℕ)) (a : List ℕ) (s : ℕ) → Short js → LiveState js a → live (step js a s) ≡ true → before a (step js a s) ≡ true
live_after js a s h r t = step_after js a s h (rw r.1.2 (state_within js r.1.0 h)) t

module _ (js : List (List ℕ)) (h : Short js) (a : List ℕ) (m : Mem a (picture js)) where
  reached : LiveState js a
  reached = (picture_members js h a).0 m

  -- a row has a place for each journal
  pub row_width : length a ≡ length js
  row_width = live_width js a reached

  module _ (s : ℕ) (b : s < 16) where
    -- what a step reaches from a row, if it is live, is a row
    pub step_row : live (step js a s) ≡ true → Mem (step js a s) (picture js)
    step_row t = (picture_members js h (step js a s)).1 (step_live js a s reached b t)

    -- an arc to a live state is greater than the row's number
    pub arc_after : live (step js a s) ≡ true → row_of a 0 (picture js) < arc js (picture js) a s
    arc_after t = rw t (row_less a (step js a s) 0 (picture js) (picture_ascending js) m (step_row t) (live_after js a s h reached t))

    -- every arc of a row of the picture is 0 or greater than the row's number
    pub arc_rises : (arc js (picture js) a s ≡ 0) ⊎ (row_of a 0 (picture js) < arc js (picture js) a s)
    arc_rises = test (live (step js a s)) (λ t. inr (arc_after t)) (λ f. inl (rw f))

    -- an arc leads to the row of the state that the step reaches, if it is live, and is 0 if it isn't
    pub arc_leads : (live (step js a s) ≡ true → (arc js (picture js) a s < length (picture js)) × (get_or (picture js) (arc js (picture js) a s) [] ≡ step js a s))
        × (live (step js a s) ≡ false → arc js (picture js) a s ≡ 0)
    arc_leads = (λ t. rw t (row_is (step js a s) (picture js) (picture_ascending js) (step_row t)), λ f. rw f)

-- the empty word's state is a row
pub start_mem : (j : List ℕ) (js : List (List ℕ)) → Short (j ∷ js) → Mem (state (j ∷ js) []) (picture (j ∷ js))
start_mem j js h = (picture_members (j ∷ js) h (state (j ∷ js) [])).1 (refl, ([], tt, refl))

-- its number is 0
pub start_zero : (j : List ℕ) (js : List (List ℕ)) → Short (j ∷ js) → row_of (state (j ∷ js) []) 0 (picture (j ∷ js)) ≡ 0
start_zero j js h = start_row (j ∷ js) (picture (j ∷ js)) (picture_ascending (j ∷ js)) (row_width (j ∷ js) h) (start_mem j js h)

-- row 0 is the empty word's state
pub row_zero : (j : List ℕ) (js : List (List ℕ)) → Short (j ∷ js) → get_or (picture (j ∷ js)) 0 [] ≡ state (j ∷ js) []
row_zero j js h =
    let t = row_is (state (j ∷ js) []) (picture (j ∷ js)) (picture_ascending (j ∷ js)) (start_mem j js h) in
    rw (start_zero j js h) at t.1
