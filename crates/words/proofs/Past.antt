-- What stands after a word: behind a word that stands after it, an ascending list has only such words, so they are an end of the list.
-- Assumes nothing.
use Prim.Native.Nat.{ℕ}
use mathlib.Core.Path.{◌≡◌, refl, sym, ap}
use mathlib.Core.Logic.{◌⊎◌, inl, inr, ◌↔◌}
use mathlib.Core.Bool.{true}
use mathlib.Core.List.Memᴰ
use mathlib.Core.List.{List, [], ◌∷◌, ◌++◌, Memᴰ}
use Rattle.words.specs.Listing.{past}
use Rattle.words.specs.Order.{before, Ascending}
use Rattle.words.proofs.Order.{before_irrefl, before_trans, before_asym}
use Rattle.words.proofs.Test.{test}

-- where all stand after w, none goes
past_all : (w : List ℕ) (l : List (List ℕ)) → ((b : List ℕ) → Memᴰ b l → before w b ≡ true) → past w l ≡ l
past_all w [] f = refl
past_all w (x ∷ l) f = rw (f x (Memᴰ.head refl)) (ap (λ (m : List (List ℕ)). x ∷ m) (past_all w l (λ b m. f b (Memᴰ.tail m))))

-- what stands after a word is an end of the list
pub past_suffix : (w : List ℕ) (l : List (List ℕ)) → Ascending l → (front : List (List ℕ)) × (l ≡ front ++ past w l)
past_suffix w [] h = ([], refl)
past_suffix w (x ∷ l) h =
    test (before w x) (λ t. ([], sym (past_all w (x ∷ l) (λ b m. after t b (Memᴰ.cases_cons m)))))
    (λ f. let r = past_suffix w l h.1 in (x ∷ r.0, rw f (ap (λ (m : List (List ℕ)). x ∷ m) r.1)))
  where
    after : before w x ≡ true → (b : List ℕ) → (b ≡ x) ⊎ Memᴰ b l → before w b ≡ true
    after t b (inl e) = rw e t
    after t b (inr m) = before_trans w x b t (h.0 b m)

past_only : (w x : List ℕ) (l : List (List ℕ)) → Memᴰ x (past w l) → Memᴰ x l × (before w x ≡ true)
past_only w x [] m = absurd (Memᴰ.not-nil m)
past_only w x (y ∷ l) m =
    test (before w y) (λ t. go t (λ k. past_only w x l k) (Memᴰ.cases_cons (rw t at m)))
    (λ f. let r = past_only w x l (rw f at m) in (Memᴰ.tail r.0, r.1))
  where
    go : before w y ≡ true → (Memᴰ x (past w l) → Memᴰ x l × (before w x ≡ true)) → (x ≡ y) ⊎ Memᴰ x (past w l) → Memᴰ x (y ∷ l) × (before w x ≡ true)
    go t ih (inl e) = (Memᴰ.head e, rw e t)
    go t ih (inr k) = let r = ih k in (Memᴰ.tail r.0, r.1)

past_each : (w x : List ℕ) (l : List (List ℕ)) → Memᴰ x l → before w x ≡ true → Memᴰ x (past w l)
past_each w x [] m t = absurd (Memᴰ.not-nil m)
past_each w x (y ∷ l) m t = go (λ k. past_each w x l k t) (Memᴰ.cases_cons m)
  where
    go : (Memᴰ x l → Memᴰ x (past w l)) → (x ≡ y) ⊎ Memᴰ x l → Memᴰ x (past w (y ∷ l))
    go ih (inl e) = rw (← e, t) (Memᴰ.head refl)
    go ih (inr k) = test (before w y) (λ u. rw u (Memᴰ.tail (ih k))) (λ f. rw f (ih k))

-- the members are those of the list that stand after the word
pub past_members : (w x : List ℕ) (l : List (List ℕ)) → Memᴰ x (past w l) ↔ (Memᴰ x l × (before w x ≡ true))
past_members w x l = (λ m. past_only w x l m, λ p. past_each w x l p.0 p.1)

-- and they stand in order
pub past_ascending : (w : List ℕ) (l : List (List ℕ)) → Ascending l → Ascending (past w l)
past_ascending w [] h = tt
past_ascending w (x ∷ l) h =
    test (before w x) (λ t. rw t (λ b m. h.0 b (past_only w b l m).0, past_ascending w l h.1)) (λ f. rw f (past_ascending w l h.1))

-- after a word of the list itself comes what follows it there
pub past_at : (front : List (List ℕ)) (x : List ℕ) (rest : List (List ℕ)) → Ascending (front ++ x ∷ rest) → past x (front ++ x ∷ rest) ≡ rest
past_at [] x rest h = rw (before_irrefl x) (past_all x rest h.0)
past_at (y ∷ front) x rest h = rw (before_asym y x (h.0 x (Memᴰ.append_right front (Memᴰ.head refl)))) (past_at front x rest h.1)
