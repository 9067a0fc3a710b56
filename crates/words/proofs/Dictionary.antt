-- The list by quorum and length, for any count that never rises along an extension: which words it holds, and that they
-- stand in dictionary order, each once. A word below the quorum has its extensions skipped, since their counts are no greater. Assumes nothing.
use Prim.Native.Nat.{ℕ, zero, suc, ◌+◌, ◌≤◌}
use native.Mathlib.Omega.{arith}
use mathlib.Core.Path.{◌≡◌, refl, sym, ap, ◌∙◌}
use mathlib.Core.Logic.{◌⊎◌, inl, inr, ◌↔◌, ⊎_elim}
use mathlib.Core.Bool.{true}
use mathlib.Core.List.Memᴰ
use mathlib.Core.List.{List, [], ◌∷◌, ◌++◌, append-nil, Memᴰ}
use lib.ListN.{length}
use lib.Seq.{append_snoc}
use lib.Dec.{leb}
use borrow.Author.Tests.{leb-true, le-leb, le-ltb}
use Rattle.words.specs.Listing.{over, list_from, list_of, Shared, Falling}
use Rattle.words.specs.Order.{before, Ascending}
use Rattle.words.specs.Picture.{codes, steps}
use Rattle.words.specs.Words.{IsWord}
use Rattle.words.proofs.Members.{code_mem, mem_code}
use Rattle.words.proofs.Order.{less_before, unique}
use Rattle.words.proofs.Test.{test}

abbrev Mem : List ℕ → List (List ℕ) → Type 0
Mem a l = Memᴰ a l

over_all : (f : ℕ → List (List ℕ)) (x : List ℕ) (s : ℕ) (ss : List ℕ) → Memᴰ s ss → Mem x (f s) → Mem x (over f ss)
over_all f x s [] m k = absurd (Memᴰ.not-nil m)
over_all f x s (r ∷ ss) m k =
    ⊎_elim (λ (e : s ≡ r). Memᴰ.append_left (over f ss) (rw e at k)) (λ (n : Memᴰ s ss). Memᴰ.append_right (f r) (over_all f x s ss n k)) (Memᴰ.cases_cons m)

module _ (count : List ℕ → ℕ) (q : ℕ) where
  -- every word that belongs in the list is there
  from_all : Falling count → (n : ℕ) (u v : List ℕ) → IsWord v → length v ≤ n → q ≤ count (u ++ v) → Mem (u ++ v) (list_from count q n u)
  from_all fall zero u [] k b c = rw (append-nil u, le-leb q (count u) (rw append-nil at c)) (Memᴰ.head refl)
  from_all fall zero u (s ∷ v) k b c = absurd (omega arith)
  from_all fall (suc n) u [] k b c = rw (append-nil u, le-leb q (count u) (rw append-nil at c)) (Memᴰ.head refl)
  from_all fall (suc n) u (s ∷ v) k b c =
      let d : q ≤ count u = omega (arith, fall u (s ∷ v)) in
      let m = from_all fall n (u ++ (s ∷ [])) v k.1 (omega arith) (rw (append_snoc u s v) c) in
      rw (le-leb q (count u) d)
      (Memᴰ.tail (over_all (λ r. list_from count q n (u ++ (r ∷ []))) (u ++ s ∷ v) s steps (code_mem s 16 0 (omega arith) (omega arith)) (rw (append_snoc u s v) at m)))

over_only : (f : ℕ → List (List ℕ)) (x : List ℕ) (ss : List ℕ) → Mem x (over f ss) → (s : ℕ) × Memᴰ s ss × Mem x (f s)
over_only f x [] m = absurd (Memᴰ.not-nil m)
over_only f x (s ∷ ss) m = go (λ k. over_only f x ss k) (Memᴰ.append_cases (f s) m)
  where
    go : (Mem x (over f ss) → (r : ℕ) × Memᴰ r ss × Mem x (f r)) → Mem x (f s) ⊎ Mem x (over f ss) → (r : ℕ) × Memᴰ r (s ∷ ss) × Mem x (f r)
    go ih (inl k) = (s, Memᴰ.head refl, k)
    go ih (inr k) = let t = ih k in (t.0, Memᴰ.tail t.1, t.2)

-- the order looks past what two words begin with
before_front : (u a b : List ℕ) → before (u ++ a) (u ++ b) ≡ before a b
before_front [] a b = refl
before_front (x ∷ u) a b = rw (le-ltb x x (omega arith)) (before_front u a b)

-- two ascending lists, all of the first before all of the second
ascending_append : (l m : List (List ℕ)) → Ascending l → Ascending m → ((a b : List ℕ) → Mem a l → Mem b m → before a b ≡ true) → Ascending (l ++ m)
ascending_append [] m h k f = k
ascending_append (a ∷ l) m h k f = (
  λ b i. ⊎_elim (λ (p : Mem b l). h.0 b p) (λ (p : Mem b m). f a b (Memᴰ.head refl) p) (Memᴰ.append_cases l i),
  ascending_append l m h.1 k (λ c d p q. f c d (Memᴰ.tail p) q),
)

code_from : (s n i : ℕ) → Memᴰ s (codes i n) → i ≤ s
code_from s zero i m = absurd (Memᴰ.not-nil m)
code_from s (suc n) i m = ⊎_elim (λ (e : s ≡ i). omega arith) (λ (k : Memᴰ s (codes (suc i) n)). omega (arith, code_from s n (suc i) k)) (Memᴰ.cases_cons m)

-- lists of what begins with u and the step stand in the order of the steps
over_ascending : (u : List ℕ) (f : ℕ → List (List ℕ)) → ((s : ℕ) → Ascending (f s)) → ((s : ℕ) (x : List ℕ) → Mem x (f s) → (v : List ℕ) × (x ≡ u ++ s ∷ v))
    → (n i : ℕ) → Ascending (over f (codes i n))
over_ascending u f h g zero i = tt
over_ascending u f h g (suc n) i =
    ascending_append (f i) (over f (codes (suc i) n)) (h i) (over_ascending u f h g n (suc i)) (λ a b p q. apart a b (g i a p) (over_only f b (codes (suc i) n) q))
  where
    apart : (a b : List ℕ) → (v : List ℕ) × (a ≡ u ++ i ∷ v) → (s : ℕ) × Memᴰ s (codes (suc i) n) × Mem b (f s) → before a b ≡ true
    apart a b p q =
        let r = g q.0 b q.2 in
        rw (p.1, r.1, before_front u (i ∷ p.0) (q.0 ∷ r.0)) (less_before i q.0 p.0 r.0 (code_from q.0 n (suc i) q.1))

module _ (count : List ℕ → ℕ) (q : ℕ) where
  -- x is u with at most n steps more, and its count reaches the quorum
  record Extends (n : ℕ) (u x : List ℕ) : Type 0 where
    more : List ℕ
    word : IsWord more
    short : length more ≤ n
    is : x ≡ u ++ more
    reaches : q ≤ count x

  itself : (n : ℕ) (u x : List ℕ) → leb q (count u) ≡ true → x ≡ u → Extends n u x
  itself n u x t e = record { more = []; word = tt; short = omega arith; is = e ∙ sym (append-nil u); reaches = rw e (leb-true q (count u) t) }

  from_only : (n : ℕ) (u x : List ℕ) → Mem x (list_from count q n u) → Extends n u x
  from_only zero u x m =
      test (leb q (count u)) (λ t. ⊎_elim (λ (e : x ≡ u). itself zero u x t e) (λ (k : Mem x []). absurd (Memᴰ.not-nil k)) (Memᴰ.cases_cons (rw t at m)))
      (λ f. absurd (Memᴰ.not-nil (rw f at m)))
  from_only (suc n) u x m =
      test (leb q (count u))
      (λ t. ⊎_elim (λ (e : x ≡ u). itself (suc n) u x t e) (λ (k : Mem x (over next steps)). further (λ s i. from_only n (u ++ (s ∷ [])) x i) (over_only next x steps k)) (Memᴰ.cases_cons (rw t at m)))
      (λ f. absurd (Memᴰ.not-nil (rw f at m)))
    where
      next : ℕ → List (List ℕ)
      next s = list_from count q n (u ++ (s ∷ []))

      further : ((s : ℕ) → Mem x (next s) → Extends n (u ++ (s ∷ [])) x) → (s : ℕ) × Memᴰ s steps × Mem x (next s) → Extends (suc n) u x
      further ih f =
          let l = ih f.0 f.2 in
          record {
            more = f.0 ∷ l.more;
            word = (mem_code f.0 16 0 f.1, l.word);
            short = omega arith;
            is = l.is ∙ append_snoc u f.0 l.more;
            reaches = l.reaches;
          }

  from_ascending : (n : ℕ) (u : List ℕ) → Ascending (list_from count q n u)
  from_ascending zero u = test (leb q (count u)) (λ t. rw t (λ b m. absurd (Memᴰ.not-nil m), tt)) (λ f. rw f tt)
  from_ascending (suc n) u =
      test (leb q (count u)) (λ t. rw t (λ b m. after b (over_only next b steps m), over_ascending u next (λ s. from_ascending n (u ++ (s ∷ []))) begins 16 0)) (λ f. rw f tt)
    where
      next : ℕ → List (List ℕ)
      next s = list_from count q n (u ++ (s ∷ []))

      begins : (s : ℕ) (x : List ℕ) → Mem x (next s) → (v : List ℕ) × (x ≡ u ++ s ∷ v)
      begins s x m = let l = from_only n (u ++ (s ∷ [])) x m in (l.more, l.is ∙ append_snoc u s l.more)

      after : (b : List ℕ) → (s : ℕ) × Memᴰ s steps × Mem b (next s) → before u b ≡ true
      after b t = let r = begins t.0 b t.2 in rw r.1 (ap (λ (a : List ℕ). before a (u ++ t.0 ∷ r.0)) (sym (append-nil u)) ∙ before_front u [] (t.0 ∷ r.0))

  -- the list stands in dictionary order, each word once
  pub list_ascending : (n : ℕ) → Ascending (list_of count q n)
  unfolding list_of
  list_ascending n = from_ascending n []

  -- a word is in the list exactly when it has at most n steps and its count reaches the quorum
  pub list_members : Falling count → (n : ℕ) (w : List ℕ) → Memᴰ w (list_of count q n) ↔ Shared count q n w
  unfolding list_of
  list_members fall n w = (λ m. there (from_only n [] w m), λ h. from_all count q fall n [] w h.word h.short h.reaches)
    where
      there : Extends n [] w → Shared count q n w
      there e = record { word = rw e.is e.word; short = rw e.is e.short; reaches = e.reaches }

  -- and no other list is so
  pub list_unique : Falling count → (n : ℕ) (l : List (List ℕ)) → Ascending l → ((w : List ℕ) → Memᴰ w l ↔ Shared count q n w) → l ≡ list_of count q n
  list_unique fall n l h k =
      unique l (list_of count q n) h (list_ascending n) (λ x m. (list_members fall n x).1 ((k x).0 m)) (λ x m. (k x).1 ((list_members fall n x).0 m))
