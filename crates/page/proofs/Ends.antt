-- Ends of an ascending list: the words from a given one on are an end, an end is what comes from its first word on, and behind a word of an end stand
-- just the words after it. Assumes nothing.
use Prim.Native.Nat.{ℕ, zero, suc, ◌+◌, ◌≤◌, ◌<◌}
use native.Mathlib.Omega.{arith}
use native.Mathlib.Numerals.{add-one}
use mathlib.Core.Path.{◌≡◌, refl, sym, ap, ◌∙◌}
use mathlib.Core.List.Memᴰ
use mathlib.Core.List.{List, [], ◌∷◌, ◌++◌, append-nil, cons≢nil}
use lib.ListN.{length, take, drop}
use Rattle.words.specs.Listing.{past}
use Rattle.words.specs.Order.{Ascending}
use Rattle.next_word.specs.Next.{from_there}
use Rattle.next_word.proofs.FromOn.{from_suffix, from_here, past_drop}

-- d is an end of l
abbrev pub EndOf : List (List ℕ) → List (List ℕ) → Type 0
EndOf d l = (front : List (List ℕ)) × (l ≡ front ++ d)

-- what comes from a given word on, or nothing
pub there_end : (ws l : List (List ℕ)) → Ascending l → EndOf (from_there ws l) l
there_end [] l h = (l, sym (append-nil l))
there_end (w ∷ ws) l h = from_suffix w l h

-- an end is what comes from its first word on
pub end_there : (d l : List (List ℕ)) → Ascending l → EndOf d l → from_there (take 1 d) l ≡ d
end_there [] l h e = refl
end_there (x ∷ d) l h e =
    from_here x l (rw e.1 (Memᴰ.append_right e.0 (Memᴰ.head refl))) h ∙ ap (λ (m : List (List ℕ)). x ∷ m) (past_drop l e.0 (x ∷ d) h e.1 0 x d refl)

-- of d, i words are passed, and x comes next
pub next_in : (d : List (List ℕ)) (i : ℕ) (x : List ℕ) → x ∷ [] ≡ take 1 (drop i d) → (i < length d) × (drop i d ≡ x ∷ drop (suc i) d)
next_in [] zero x e = absurd (cons≢nil e)
next_in [] (suc i) x e = absurd (cons≢nil e)
next_in (y ∷ d) zero x e = (omega arith, ap (λ (l : List (List ℕ)). l ++ d) (sym e))
next_in (y ∷ d) (suc i) x e = let r = next_in d i x e in (omega (arith, r.0), r.1)

-- or nothing does
pub none_in : (d : List (List ℕ)) (i : ℕ) → [] ≡ take 1 (drop i d) → length d ≤ i
none_in [] i e = omega arith
none_in (y ∷ d) zero e = absurd (cons≢nil (sym e))
none_in (y ∷ d) (suc i) e = let r = none_in d i e in omega arith

-- after a word of an end comes what follows it there
pub past_in : (d l : List (List ℕ)) → Ascending l → EndOf d l → (i : ℕ) (x : List ℕ) → x ∷ [] ≡ take 1 (drop i d) → past x l ≡ drop (i + 1) d
past_in d l h e i x n = rw (add-one i) (past_drop l e.0 d h e.1 i x (drop (suc i) d) (next_in d i x n).1)
