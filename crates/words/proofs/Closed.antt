-- What an implementation has to reach: an ascending list of live states of words that is closed under the steps is the picture. Assumes nothing.
use Prim.Native.Nat.{ℕ, ◌+◌, ◌≤◌, ◌<◌}
use native.Mathlib.Omega.{arith}
use mathlib.Core.Path.{◌≡◌, refl, sym, ◌∙◌}
use mathlib.Core.Logic.{◌⊎◌, inl, inr, ⊎_elim}
use mathlib.Core.Bool.{true, false, false≢true}
use mathlib.Core.List.Memᴰ
use mathlib.Core.List.{List, [], ◌∷◌, ◌++◌, Memᴰ}
use lib.ListN.{length}
use Rattle.words.specs.Order.{before, Ascending}
use Rattle.words.specs.Picture.{picture}
use Rattle.words.specs.Places.{state, step, live, LiveState}
use Rattle.words.specs.Words.{IsWord}
use Rattle.words.proofs.Members.{steps_snoc, snoc_ind, state_snoc, live_step, picture_members, picture_ascending}
use Rattle.words.proofs.Order.{before_irrefl, before_asym, unique}
use Rattle.words.proofs.Place.{Short}

abbrev Mem : List ℕ → List (List ℕ) → Type 0
Mem a l = Memᴰ a l

pub record Closed (js l : List (List ℕ)) : Type 0 where
  pub ascending : Ascending l
  pub each : (x : List ℕ) → Mem x l → LiveState js x
  pub start : live (state js []) ≡ true → Mem (state js []) l
  pub steps : (x : List ℕ) → Mem x l → (s : ℕ) → s < 16 → live (step js x s) ≡ true → Mem (step js x s) l

pub closed_picture : (js l : List (List ℕ)) → Short js → Closed js l → l ≡ picture js
closed_picture js l h c =
    unique l (picture js) c.ascending (picture_ascending js) (λ x m. (picture_members js h x).1 (c.each x m)) (λ x m. back x ((picture_members js h x).0 m))
  where
    Has : List ℕ → Type 0
    Has w = IsWord w → live (state js w) ≡ true → Mem (state js w) l

    more : (w : List ℕ) (s : ℕ) → Has w → Has (w ++ (s ∷ []))
    more w s ih k t =
        let t' : live (step js (state js w) s) ≡ true = rw (state_snoc js w s) at t in
        let p = steps_snoc w s k in
        rw (state_snoc js w s) (c.steps (state js w) (ih p.0 (live_step js (state js w) s t')) s p.1 t')

    back : (x : List ℕ) → LiveState js x → Mem x l
    back x r = rw r.1.2 (snoc_ind Has (λ k t. c.start t) more r.1.0 r.1.1 (rw r.1.2 at r.0))

-- an ascending list is no longer than an ascending list that has its members
pub sub_length : (l m : List (List ℕ)) → Ascending l → Ascending m → ((x : List ℕ) → Mem x l → Mem x m) → length l ≤ length m
sub_length [] m h k f = omega arith
sub_length (a ∷ l) [] h k f = absurd (Memᴰ.not-nil (f a (Memᴰ.head refl)))
sub_length (a ∷ l) (b ∷ m) h k f =
    ⊎_elim (λ (e : a ≡ b). omega (arith, sub_length l m h.1 k.1 (λ x i. past e x i)))
    (λ (p : Mem a m). omega (arith, sub_length (a ∷ l) m h k.1 (λ x i. later p x (Memᴰ.cases_cons i)))) (Memᴰ.cases_cons (f a (Memᴰ.head refl)))
  where
    past : a ≡ b → (x : List ℕ) → Mem x l → Mem x m
    past e x i =
        ⊎_elim (λ (q : x ≡ b). absurd (false≢true (sym (before_irrefl a) ∙ (rw (q ∙ sym e) at (h.0 x i))))) (λ (p : Mem x m). p) (Memᴰ.cases_cons (f x (Memᴰ.tail i)))

    after : Mem a m → (x : List ℕ) → before a x ≡ true → (x ≡ b) ⊎ Mem x m → Mem x m
    after p x t (inl q) = absurd (false≢true (sym (before_asym b a (k.0 a p)) ∙ (rw q at t)))
    after p x t (inr i) = i

    later : Mem a m → (x : List ℕ) → (x ≡ a) ⊎ Mem x l → Mem x m
    later p x (inl e) = rw e p
    later p x (inr i) = after p x (h.0 x i) (Memᴰ.cases_cons (f x (Memᴰ.tail i)))
