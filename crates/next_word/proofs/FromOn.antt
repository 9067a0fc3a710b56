-- The words of a list from a given word on: behind a word that doesn't stand before it, an ascending list has only such words, so they are
-- an end of the list, and the tests that its members answer alike leave the same of it. Assumes nothing.
use Prim.Native.Nat.{ℕ}
use mathlib.Core.Path.{◌≡◌, refl, sym, ap, ◌∙◌}
use mathlib.Core.Logic.{◌⊎◌, inl, inr}
use mathlib.Core.Bool.{Bool, true, false, cond, not, false≢true}
use mathlib.Core.List.Memᴰ
use mathlib.Core.List.{List, [], ◌∷◌, ◌++◌, append_assoc, Memᴰ}
use lib.ListN.{take, drop, take-append-drop}
use Rattle.next_word.specs.Next.{from_on, from_there}
use Rattle.words.specs.Listing.{past}
use Rattle.words.specs.Order.{before, Ascending}
use Rattle.words.proofs.Order.{before_irrefl, before_trans, before_asym, before_total, unique}
use Rattle.words.proofs.Past.{past_members, past_ascending, past_at}
use Rattle.words.proofs.Test.{test}

-- x stands before the given word, or there is none
abbrev pub before_there : List ℕ → List (List ℕ) → Bool
before_there x [] = true
before_there x (d ∷ ds) = before x d

-- nothing stands before the empty word
pub before_empty : (x : List ℕ) → before x [] ≡ false
before_empty [] = refl
before_empty (s ∷ x) = refl

there_cons : (ds : List (List ℕ)) (x : List ℕ) (l : List (List ℕ)) → from_there ds (x ∷ l) ≡ cond (before_there x ds) (from_there ds l) (x ∷ from_there ds l)
there_cons [] x l = refl
there_cons (d ∷ ds) x l = refl

there_empty : (ds : List (List ℕ)) → from_there ds [] ≡ []
there_empty [] = refl
there_empty (d ∷ ds) = refl

-- two words that every member stands before, or doesn't, leave the same
pub from_same : (c : List ℕ) (ds l : List (List ℕ)) → ((x : List ℕ) → Memᴰ x l → before x c ≡ before_there x ds) → from_on c l ≡ from_there ds l
from_same c ds [] f = sym (there_empty ds)
from_same c ds (x ∷ l) f =
    rw (there_cons ds x l, f x (Memᴰ.head refl))
    (ap (λ (m : List (List ℕ)). cond (before_there x ds) m (x ∷ m)) (from_same c ds l (λ y m. f y (Memᴰ.tail m))))

-- what stands after w is what stands from there on, if every member stands on the same side of both
pub past_from : (w : List ℕ) (ds l : List (List ℕ)) → ((x : List ℕ) → Memᴰ x l → before w x ≡ not (before_there x ds)) → past w l ≡ from_there ds l
past_from w ds [] f = sym (there_empty ds)
past_from w ds (x ∷ l) f =
    let ih = past_from w ds l (λ y m. f y (Memᴰ.tail m)) in
    rw (there_cons ds x l, f x (Memᴰ.head refl))
    (test (before_there x ds) (λ t. rw t ih) (λ n. rw n (ap (λ (m : List (List ℕ)). x ∷ m) ih)))

-- all is left where none stands before c
from_all : (c : List ℕ) (l : List (List ℕ)) → ((x : List ℕ) → Memᴰ x l → before x c ≡ false) → from_on c l ≡ l
from_all c [] f = refl
from_all c (x ∷ l) f = rw (f x (Memᴰ.head refl)) (ap (λ (m : List (List ℕ)). x ∷ m) (from_all c l (λ y m. f y (Memᴰ.tail m))))

-- from the empty word on it is the whole list
pub from_empty : (l : List (List ℕ)) → from_on [] l ≡ l
from_empty l = from_all [] l (λ x m. before_empty x)

-- what stands from a word on is an end of the list
pub from_suffix : (c : List ℕ) (l : List (List ℕ)) → Ascending l → (front : List (List ℕ)) × (l ≡ front ++ from_on c l)
from_suffix c [] h = ([], refl)
from_suffix c (x ∷ l) h =
    test (before x c) (λ t. let r = from_suffix c l h.1 in (x ∷ r.0, rw t (ap (λ (m : List (List ℕ)). x ∷ m) r.1)))
    (λ n. ([], sym (from_all c (x ∷ l) (λ b m. after n b (Memᴰ.cases_cons m)))))
  where
    after : before x c ≡ false → (b : List ℕ) → (b ≡ x) ⊎ Memᴰ b l → before b c ≡ false
    after n b (inl e) = rw e n
    after n b (inr m) = test (before b c) (λ t. absurd (false≢true (sym n ∙ before_trans x b c (h.0 b m) t))) (λ f. f)

-- what is left are the words of the list that don't stand before the given one
from_only : (c x : List ℕ) (l : List (List ℕ)) → Memᴰ x (from_on c l) → Memᴰ x l × (before x c ≡ false)
from_only c x [] m = absurd (Memᴰ.not-nil m)
from_only c x (y ∷ l) m =
    test (before y c) (λ t. let r = from_only c x l (rw t at m) in (Memᴰ.tail r.0, r.1))
    (λ n. go n (λ k. from_only c x l k) (Memᴰ.cases_cons (rw n at m)))
  where
    go : before y c ≡ false → (Memᴰ x (from_on c l) → Memᴰ x l × (before x c ≡ false)) → (x ≡ y) ⊎ Memᴰ x (from_on c l)
        → Memᴰ x (y ∷ l) × (before x c ≡ false)
    go n ih (inl e) = (Memᴰ.head e, rw e n)
    go n ih (inr k) = let r = ih k in (Memᴰ.tail r.0, r.1)

from_each : (c x : List ℕ) (l : List (List ℕ)) → Memᴰ x l → before x c ≡ false → Memᴰ x (from_on c l)
from_each c x [] m n = absurd (Memᴰ.not-nil m)
from_each c x (y ∷ l) m n = go (λ k. from_each c x l k n) (Memᴰ.cases_cons m)
  where
    go : (Memᴰ x l → Memᴰ x (from_on c l)) → (x ≡ y) ⊎ Memᴰ x l → Memᴰ x (from_on c (y ∷ l))
    go ih (inl e) = rw (← e, n) (Memᴰ.head refl)
    go ih (inr k) = test (before y c) (λ t. rw t (ih k)) (λ f. rw f (Memᴰ.tail (ih k)))

-- what is left stands in order
pub from_ascending : (c : List ℕ) (l : List (List ℕ)) → Ascending l → Ascending (from_on c l)
from_ascending c [] h = tt
from_ascending c (x ∷ l) h =
    test (before x c) (λ t. rw t (from_ascending c l h.1)) (λ n. rw n (λ b m. h.0 b (from_only c b l m).0, from_ascending c l h.1))

-- from a word of the list itself on, it stands first, and behind it what stands after it
pub from_here : (c : List ℕ) (l : List (List ℕ)) → Memᴰ c l → Ascending l → from_on c l ≡ c ∷ past c l
from_here c l i h =
    unique (from_on c l) (c ∷ past c l) (from_ascending c l h) (λ b m. ((past_members c b l).0 m).1, past_ascending c l h)
    (λ x m. let r = from_only c x l m in there x r.0 r.1) (λ x m. back x (Memᴰ.cases_cons m))
  where
    there : (x : List ℕ) → Memᴰ x l → before x c ≡ false → Memᴰ x (c ∷ past c l)
    there x m n = test (before c x) (λ t. Memᴰ.tail ((past_members c x l).1 (m, t))) (λ f. Memᴰ.head (before_total x c n f))

    back : (x : List ℕ) → (x ≡ c) ⊎ Memᴰ x (past c l) → Memᴰ x (from_on c l)
    back x (inl e) = rw e (from_each c c l i (before_irrefl c))
    back x (inr m) = let r = (past_members c x l).0 m in from_each c x l r.0 (before_asym c x r.1)

-- after a word at which an end of the list is split comes what follows it there
pub past_drop : (l front end : List (List ℕ)) → Ascending l → l ≡ front ++ end → (i : ℕ) (x : List ℕ) (rest : List (List ℕ)) → drop i end ≡ x ∷ rest → past x l ≡ rest
past_drop l front end h e i x rest d =
    let split : end ≡ take i end ++ x ∷ rest = sym (take-append-drop i end) ∙ ap (λ (m : List (List ℕ)). take i end ++ m) d in
    let whole : l ≡ (front ++ take i end) ++ x ∷ rest = e ∙ ap (λ (m : List (List ℕ)). front ++ m) split ∙ sym (append_assoc front (take i end) (x ∷ rest)) in
    rw whole (past_at (front ++ take i end) x rest (rw whole at h))
