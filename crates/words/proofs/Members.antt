-- The picture's members are the live states of words. Assumes nothing.
use Prim.Native.Nat.{ℕ, zero, suc, ◌+◌, ◌≤◌, ◌<◌, zero-le, suc-le-suc}
use native.Mathlib.Omega.{arith}
use mathlib.Core.Path.{◌≡◌, refl, sym, ap₂, subst, ◌∙◌}
use mathlib.Core.Logic.{◌⊎◌, inl, inr, ◌↔◌, ◌≢◌, ⊎_elim}
use mathlib.Core.Bool.{true, false, false≢true}
use mathlib.Core.List.Memᴰ
use mathlib.Core.List.{List, [], ◌∷◌, ◌++◌, append-nil, Sublistᴰ, Memᴰ}
use lib.ListN.{length, length-append}
use lib.Seq.{append_snoc}
use lib.Dec.{eqb}
use borrow.Author.Tests.{eqb-true, eqb-false}
use Rattle.words.specs.Limits.{lost}
use Rattle.words.specs.Order.{Ascending}
use Rattle.words.specs.Picture.{codes, steps, keep, spread, grow, reach, longest, picture}
use Rattle.words.specs.Places.{LiveState, next, place_from, place, state, step, live}
use Rattle.words.specs.Words.{IsWord, In}
use Rattle.words.proofs.Order.{insert_here, insert_old, insert_only, insert_ascending}
use Rattle.words.proofs.Place.{Short, place_left}
use Rattle.words.proofs.Test.{test}

abbrev Mem : List ℕ → List (List ℕ) → Type 0
Mem a l = Memᴰ a l

-- words from their ends
pub snoc_ind : (P : List ℕ → Type 0) → P [] → ((w : List ℕ) (s : ℕ) → P w → P (w ++ (s ∷ []))) → (w : List ℕ) → P w
snoc_ind P base more w = go [] w base
  where
    go : (u v : List ℕ) → P u → P (u ++ v)
    go u [] h = rw append-nil h
    go u (s ∷ v) h = subst P (append_snoc u s v) (go (u ++ (s ∷ [])) v (more u s h))

pub steps_snoc : (w : List ℕ) (s : ℕ) → IsWord (w ++ (s ∷ [])) → IsWord w × (s < 16)
steps_snoc [] s h = (tt, h.0)
steps_snoc (x ∷ w) s h = let t = steps_snoc w s h.1 in ((h.0, t.0), t.1)

pub snoc_steps : (w : List ℕ) (s : ℕ) → IsWord w → s < 16 → IsWord (w ++ (s ∷ []))
snoc_steps [] s h k = (k, tt)
snoc_steps (x ∷ w) s h k = (h.0, snoc_steps w s h.1 k)

-- the place of a word by the place of the word without its last step
pub place_snoc : (j : List ℕ) (w : List ℕ) (s p : ℕ) → place_from j p (w ++ (s ∷ [])) ≡ next j (place_from j p w) s
place_snoc j [] s p = refl
place_snoc j (x ∷ w) s p = place_snoc j w s (next j p x)

pub state_snoc : (js : List (List ℕ)) (w : List ℕ) (s : ℕ) → state js (w ++ (s ∷ [])) ≡ step js (state js w) s
state_snoc [] w s = refl
state_snoc (j ∷ js) w s = ap₂ (λ (p : ℕ) (ps : List ℕ). p ∷ ps) (place_snoc j w s 0) (state_snoc js w s)

-- a state that a step leaves live was live
pub live_step : (js : List (List ℕ)) (ps : List ℕ) (s : ℕ) → live (step js ps s) ≡ true → live ps ≡ true
live_step [] ps s t = absurd (false≢true t)
live_step (j ∷ js) [] s t = absurd (false≢true t)
live_step (j ∷ js) (p ∷ ps) s t = test (eqb p lost) (λ y. rw y (live_step js ps s (rw y at t))) (λ n. rw n)

-- members
pub code_mem : (s n i : ℕ) → i ≤ s → s < i + n → Memᴰ s (codes i n)
code_mem s zero i h k = absurd (omega arith)
code_mem s (suc n) i h k = test (eqb s i) (λ y. Memᴰ.head (eqb-true s i y)) (λ f. Memᴰ.tail (code_mem s n (suc i) (above f) (omega arith)))
  where
    above : eqb s i ≡ false → suc i ≤ s
    above f = omega (arith, eqb-false s i f)

pub mem_code : (s n i : ℕ) → Memᴰ s (codes i n) → s < i + n
mem_code s zero i m = absurd (Memᴰ.not-nil m)
mem_code s (suc n) i m = ⊎_elim (λ e. omega arith) (λ k. omega (arith, mem_code s n (suc i) k)) (Memᴰ.cases_cons m)

keep_old : (a x : List ℕ) (l : List (List ℕ)) → Mem x l → Mem x (keep a l)
keep_old a x l m = test (live a) (λ t. rw t (insert_old a x l m)) (λ f. rw f m)

keep_here : (a : List ℕ) (l : List (List ℕ)) → live a ≡ true → Mem a (keep a l)
keep_here a l t = rw t (insert_here a l)

keep_only : (a x : List ℕ) (l : List (List ℕ)) → Mem x (keep a l) → ((x ≡ a) × (live a ≡ true)) ⊎ Mem x l
keep_only a x l m = test (live a) (λ t. go t (insert_only a x l (rw t at m))) (λ f. inr (rw f at m))
  where
    go : live a ≡ true → (x ≡ a) ⊎ Mem x l → ((x ≡ a) × (live a ≡ true)) ⊎ Mem x l
    go t (inl e) = inl (e, t)
    go t (inr k) = inr k

keep_ascending : (a : List ℕ) (l : List (List ℕ)) → Ascending l → Ascending (keep a l)
keep_ascending a l h = test (live a) (λ t. rw t (insert_ascending a l h)) (λ f. rw f h)

-- x is a live state one step from a
abbrev From : List (List ℕ) → List ℕ → List ℕ → List ℕ → Type 0
From js a ss x = (s : ℕ) × Memᴰ s ss × (x ≡ step js a s) × (live x ≡ true)

spread_only : (js : List (List ℕ)) (a x : List ℕ) (ss : List ℕ) (acc : List (List ℕ)) → Mem x (spread js a ss acc) → From js a ss x ⊎ Mem x acc
spread_only js a x [] acc m = inr m
spread_only js a x (s ∷ ss) acc m = go (λ k. spread_only js a x ss acc k) (keep_only (step js a s) x (spread js a ss acc) m)
  where
    up : From js a ss x ⊎ Mem x acc → From js a (s ∷ ss) x ⊎ Mem x acc
    up (inl f) = inl (f.0, Memᴰ.tail f.1, f.2, f.3)
    up (inr k) = inr k

    go : (Mem x (spread js a ss acc) → From js a ss x ⊎ Mem x acc) → ((x ≡ step js a s) × (live (step js a s) ≡ true)) ⊎ Mem x (spread js a ss acc)
        → From js a (s ∷ ss) x ⊎ Mem x acc
    go ih (inl e) = inl (s, Memᴰ.head refl, e.0, rw e.0 e.1)
    go ih (inr k) = up (ih k)

spread_old : (js : List (List ℕ)) (a x : List ℕ) (ss : List ℕ) (acc : List (List ℕ)) → Mem x acc → Mem x (spread js a ss acc)
spread_old js a x [] acc m = m
spread_old js a x (s ∷ ss) acc m = keep_old (step js a s) x (spread js a ss acc) (spread_old js a x ss acc m)

spread_here : (js : List (List ℕ)) (a : List ℕ) (s : ℕ) (ss : List ℕ) (acc : List (List ℕ))
    → Memᴰ s ss → live (step js a s) ≡ true → Mem (step js a s) (spread js a ss acc)
spread_here js a s [] acc m t = absurd (Memᴰ.not-nil m)
spread_here js a s (r ∷ ss) acc m t = go (λ k. spread_here js a s ss acc k t) (Memᴰ.cases_cons m)
  where
    go : (Memᴰ s ss → Mem (step js a s) (spread js a ss acc)) → (s ≡ r) ⊎ Memᴰ s ss → Mem (step js a s) (spread js a (r ∷ ss) acc)
    go ih (inl e) = rw (← e) (keep_here (step js a s) (spread js a ss acc) t)
    go ih (inr k) = keep_old (step js a r) (step js a s) (spread js a ss acc) (ih k)

spread_ascending : (js : List (List ℕ)) (a ss : List ℕ) (acc : List (List ℕ)) → Ascending acc → Ascending (spread js a ss acc)
spread_ascending js a [] acc h = h
spread_ascending js a (s ∷ ss) acc h = keep_ascending (step js a s) (spread js a ss acc) (spread_ascending js a ss acc h)

grow_old : (js : List (List ℕ)) (x : List ℕ) (l acc : List (List ℕ)) → Mem x acc → Mem x (grow js l acc)
grow_old js x [] acc m = m
grow_old js x (a ∷ l) acc m = spread_old js a x steps (grow js l acc) (grow_old js x l acc m)

grow_here : (js : List (List ℕ)) (a : List ℕ) (s : ℕ) (l acc : List (List ℕ))
    → Mem a l → s < 16 → live (step js a s) ≡ true → Mem (step js a s) (grow js l acc)
grow_here js a s [] acc m h t = absurd (Memᴰ.not-nil m)
grow_here js a s (b ∷ l) acc m h t = go (λ k. grow_here js a s l acc k h t) (Memᴰ.cases_cons m)
  where
    go : (Mem a l → Mem (step js a s) (grow js l acc)) → (a ≡ b) ⊎ Mem a l → Mem (step js a s) (spread js b steps (grow js l acc))
    go ih (inl e) = rw (← e) (spread_here js a s steps (grow js l acc) (code_mem s 16 0 (omega arith) (omega arith)) t)
    go ih (inr k) = spread_old js b (step js a s) steps (grow js l acc) (ih k)

grow_only : (js : List (List ℕ)) (x : List ℕ) (l acc : List (List ℕ)) → Mem x (grow js l acc) → ((a : List ℕ) × Mem a l × From js a steps x) ⊎ Mem x acc
grow_only js x [] acc m = inr m
grow_only js x (a ∷ l) acc m = go (λ k. grow_only js x l acc k) (spread_only js a x steps (grow js l acc) m)
  where
    up : ((b : List ℕ) × Mem b l × From js b steps x) ⊎ Mem x acc → ((b : List ℕ) × Mem b (a ∷ l) × From js b steps x) ⊎ Mem x acc
    up (inl f) = inl (f.0, Memᴰ.tail f.1, f.2)
    up (inr k) = inr k

    go : (Mem x (grow js l acc) → ((b : List ℕ) × Mem b l × From js b steps x) ⊎ Mem x acc) → From js a steps x ⊎ Mem x (grow js l acc)
        → ((b : List ℕ) × Mem b (a ∷ l) × From js b steps x) ⊎ Mem x acc
    go ih (inl f) = inl (a, Memᴰ.head refl, f)
    go ih (inr k) = up (ih k)

grow_ascending : (js : List (List ℕ)) (l acc : List (List ℕ)) → Ascending acc → Ascending (grow js l acc)
grow_ascending js [] acc h = h
grow_ascending js (a ∷ l) acc h = spread_ascending js a steps (grow js l acc) (grow_ascending js l acc h)

pub reach_ascending : (js : List (List ℕ)) (n : ℕ) → Ascending (reach js n)
reach_ascending js zero = keep_ascending (state js []) [] tt
reach_ascending js (suc n) = grow_ascending js (reach js n) (reach js n) (reach_ascending js n)

pub picture_ascending : (js : List (List ℕ)) → Ascending (picture js)
unfolding picture
picture_ascending js = reach_ascending js (longest js)

pub reach_only : (js : List (List ℕ)) (n : ℕ) (x : List ℕ) → Mem x (reach js n) → LiveState js x
reach_only js zero x m = go (keep_only (state js []) x [] m)
  where
    go : ((x ≡ state js []) × (live (state js []) ≡ true)) ⊎ Mem x [] → LiveState js x
    go (inl e) = (rw e.0 e.1, ([], tt, e.0))
    go (inr k) = absurd (Memᴰ.not-nil k)
reach_only js (suc n) x m = go (λ a k. reach_only js n a k) (grow_only js x (reach js n) (reach js n) m)
  where
    on : (a : List ℕ) → LiveState js a → From js a steps x → LiveState js x
    on a r f =
        (f.3, (r.1.0 ++ (f.0 ∷ []), snoc_steps r.1.0 f.0 r.1.1 (mem_code f.0 16 0 f.1), f.2 ∙ (rw r.1.2 (sym (state_snoc js r.1.0 f.0)))))

    go : ((a : List ℕ) → Mem a (reach js n) → LiveState js a) → ((a : List ℕ) × Mem a (reach js n) × From js a steps x) ⊎ Mem x (reach js n) → LiveState js x
    go ih (inl f) = on f.0 (ih f.0 f.1) f.2
    go ih (inr k) = ih x k

start_in : (js : List (List ℕ)) (n : ℕ) → live (state js []) ≡ true → Mem (state js []) (reach js n)
start_in js zero t = keep_here (state js []) [] t
start_in js (suc n) t = grow_old js (state js []) (reach js n) (reach js n) (start_in js n t)

-- every live state of a word of at most n steps is reached
abbrev In-by : List (List ℕ) → List ℕ → Type 0
In-by js w = IsWord w → (n : ℕ) → length w ≤ n → live (state js w) ≡ true → Mem (state js w) (reach js n)

pub reach_all : (js : List (List ℕ)) (w : List ℕ) → In-by js w
reach_all js w = snoc_ind (In-by js) (λ h n k t. start_in js n t) more w
  where
    more : (w : List ℕ) (s : ℕ) → In-by js w → In-by js (w ++ (s ∷ []))
    more w s ih h zero k t = absurd (omega (arith, length-append w (s ∷ [])))
    more w s ih h (suc n) k t =
        let hs = steps_snoc w s h in
        let t' : live (step js (state js w) s) ≡ true = rw (state_snoc js w s) at t in
        let m : Mem (state js w) (reach js n) = ih hs.0 n (omega (arith, length-append w (s ∷ []))) (live_step js (state js w) s t') in
        rw (state_snoc js w s) (grow_here js (state js w) s (reach js n) (reach js n) m hs.1 t')

pub left_length : {w j : List ℕ} → In w j → length w ≤ length j
left_length Sublistᴰ.slnil = zero-le
left_length (Sublistᴰ.cons d) = omega (arith, left_length d)
left_length (Sublistᴰ.cons-cons e d) = suc-le-suc (left_length d)

-- a word that is live is no longer than the longest journal
pub live_length : (js : List (List ℕ)) (w : List ℕ) → Short js → live (state js w) ≡ true → length w ≤ longest js
live_length [] w h t = absurd (false≢true t)
live_length (j ∷ js) w h t =
    test (eqb (place j w) lost) (λ y. omega (arith, live_length js w h.1 (rw y at t)))
    (λ n. omega (arith, left_length ((place_left j w h.0).0 (eqb-false (place j w) lost n))))

-- a row is in the picture just where it is the live state of a word
pub picture_members : (js : List (List ℕ)) → Short js → (x : List ℕ) → Mem x (picture js) ↔ LiveState js x
unfolding picture
picture_members js h x = (λ m. reach_only js (longest js) x m, λ r. all r.1.0 r.1.1 r.1.2 r.0)
  where
    all : (w : List ℕ) → IsWord w → x ≡ state js w → live x ≡ true → Mem x (reach js (longest js))
    all w k e t = let t' : live (state js w) ≡ true = rw e at t in rw e (reach_all js w k (longest js) (live_length js w h t') t')
