-- A key's rank in an ascending list: what one key says of it, where an insertion puts the key, and that it is the row number of a member. Each by
-- induction on the list, on whether its first key comes before the key. Assumes nothing.
use Prim.Native.Nat.{ℕ, zero, suc, ◌+◌, ◌≤◌, ◌<◌}
use native.Mathlib.Omega.{arith}
use mathlib.Core.Path.{◌≡◌, refl, ap}
use mathlib.Core.Logic.{⊎_elim}
use mathlib.Core.Bool.{true, false}
use mathlib.Core.List.Memᴰ
use mathlib.Core.List.{List, [], ◌∷◌, ◌++◌, Memᴰ}
use lib.ListN.{length, take, drop, get_or}
use Rattle.std.specs.List.Sorted.{IsPartitionPoint}
use Rattle.words.specs.Order.{before, Ascending}
use Rattle.words.specs.Picture.{insert, row_of}
use Rattle.words.proofs.Order.{before_irrefl, before_trans, before_asym, before_total, insert_only, insert_ascending}
use Rattle.words.proofs.Rows.{row_head, row_tail}
use Rattle.words.proofs.Test.{test}
use Rattle.keys.specs.Keys.{AreKeys, rank_of}

rank_pass : (key x : List ℕ) (l : List (List ℕ)) → before x key ≡ true → rank_of key (x ∷ l) ≡ suc (rank_of key l)
unfolding rank_of
rank_pass key x l t = rw t

rank_stop : (key x : List ℕ) (l : List (List ℕ)) → before x key ≡ false → rank_of key (x ∷ l) ≡ 0
unfolding rank_of
rank_stop key x l f = rw f

item_mem : (l : List (List ℕ)) (i : ℕ) (d : List ℕ) → i < length l → Memᴰ (get_or l i d) l
item_mem [] i d h = absurd (omega arith)
item_mem (x ∷ l) zero d h = Memᴰ.head refl
item_mem (x ∷ l) (suc i) d h = Memᴰ.tail (item_mem l i d (omega arith))

pub rank_most : (key : List ℕ) (l : List (List ℕ)) → rank_of key l ≤ length l
unfolding rank_of
rank_most key [] = omega arith
rank_most key (x ∷ l) =
    test (before x key) (λ t. omega (arith, rank_pass key x l t, rank_most key l)) (λ f. omega (arith, rank_stop key x l f))

-- a key that doesn't come before it bounds the rank from above
pub rank_below : (key : List ℕ) (l : List (List ℕ)) (i : ℕ) → i < length l → before (get_or l i []) key ≡ false → rank_of key l ≤ i
rank_below key [] i h f = absurd (omega arith)
rank_below key (x ∷ l) zero h f = omega (arith, rank_stop key x l f)
rank_below key (x ∷ l) (suc i) h f =
    test (before x key) (λ t. omega (arith, rank_pass key x l t, rank_below key l i (omega arith) f)) (λ g. omega (arith, rank_stop key x l g))

-- in an ascending list a key that comes before it bounds the rank from below
pub rank_above : (key : List ℕ) (l : List (List ℕ)) (i : ℕ) → i < length l → Ascending l → before (get_or l i []) key ≡ true → i < rank_of key l
rank_above key [] i h a t = absurd (omega arith)
rank_above key (x ∷ l) zero h a t = omega (arith, rank_pass key x l t)
rank_above key (x ∷ l) (suc i) h a t =
    let first = before_trans x (get_or l i []) key (a.0 (get_or l i []) (item_mem l i [] (omega arith))) t in
    omega (arith, rank_pass key x l first, rank_above key l i (omega arith) a.1 t)

-- in an ascending list none that comes before the key stands behind one that doesn't
pub parted : (key : List ℕ) (l : List (List ℕ)) → Ascending l → (i j : ℕ) (d : List ℕ) → i ≤ j → j < length l
    → before (get_or l j d) key ≡ true → before (get_or l i d) key ≡ true
parted key [] a i j d h b t = absurd (omega arith)
parted key (x ∷ l) a zero zero d h b t = t
parted key (x ∷ l) a zero (suc j) d h b t = before_trans x (get_or l j d) key (a.0 (get_or l j d) (item_mem l j d (omega arith))) t
parted key (x ∷ l) a (suc i) zero d h b t = absurd (omega arith)
parted key (x ∷ l) a (suc i) (suc j) d h b t = parted key l a.1 i j d (omega arith) (omega arith) t

-- the number at which those that come before the key end is its rank
pub rank_is : (key : List ℕ) (l : List (List ℕ)) (i : ℕ) → i ≤ length l
    → IsPartitionPoint (λ (x : List ℕ). before x key ≡ true) (λ (x : List ℕ). before x key ≡ false) l i → i ≡ rank_of key l
unfolding rank_of
rank_is key [] i h p = omega arith
rank_is key (x ∷ l) zero h p = omega (arith, rank_stop key x l (p.1 0 [] (omega arith) (omega arith)))
rank_is key (x ∷ l) (suc i) h p =
    let rest = rank_is key l i (omega arith) (λ k d g e. p.0 (suc k) d (omega arith) (omega arith), λ k d g e. p.1 (suc k) d (omega arith) (omega arith)) in
    omega (arith, rank_pass key x l (p.0 0 [] (omega arith) (omega arith)), rest)

-- a key that isn't there goes in behind as many keys as its rank says
pub insert_new : (key : List ℕ) (l : List (List ℕ)) (r : ℕ) → r ≡ rank_of key l → (r < length l → get_or l r [] ≡ key → ⊥)
    → insert key l ≡ take r l ++ key ∷ drop r l
insert_new key [] zero e n = refl
insert_new key [] (suc r) e n = absurd (omega (arith, rank_most key []))
insert_new key (x ∷ l) zero e n =
    test (before x key) (λ t. absurd (omega (arith, rank_pass key x l t)))
    (λ f. test (before key x) (λ u. rw u) (λ g. absurd (n (omega arith) (before_total x key f g))))
insert_new key (x ∷ l) (suc r) e n =
    test (before x key)
    (λ t. rw (before_asym x key t, t)
    (ap (λ (m : List (List ℕ)). x ∷ m) (insert_new key l r (omega (arith, rank_pass key x l t)) (λ h. n (omega arith)))))
    (λ f. absurd (omega (arith, rank_stop key x l f)))

-- the keys stay if it is there
pub insert_old : (key : List ℕ) (l : List (List ℕ)) (r : ℕ) → r ≡ rank_of key l → r < length l → get_or l r [] ≡ key → insert key l ≡ l
insert_old key [] r e h k = absurd (omega arith)
insert_old key (x ∷ l) zero e h k = rw (k, before_irrefl key)
insert_old key (x ∷ l) (suc r) e h k =
    test (before x key)
    (λ t. rw (before_asym x key t, t)
    (ap (λ (m : List (List ℕ)). x ∷ m) (insert_old key l r (omega (arith, rank_pass key x l t)) (omega arith) k)))
    (λ f. absurd (omega (arith, rank_stop key x l f)))

-- keys with one put in are keys
pub put_in : (key : List ℕ) (l : List (List ℕ)) → length key ≡ 16 → AreKeys l → AreKeys (insert key l)
put_in key l h k =
    record {
      ascending = insert_ascending key l k.ascending;
      wide = λ a m. ⊎_elim (λ (e : a ≡ key). rw e h) (λ (n : Memᴰ a l). k.wide a n) (insert_only key a l m);
    }

row_rank : (key : List ℕ) (i : ℕ) (l : List (List ℕ)) → Ascending l → Memᴰ key l → row_of key i l ≡ i + rank_of key l
row_rank key i [] a m = absurd (Memᴰ.not-nil m)
row_rank key i (x ∷ l) a m =
    ⊎_elim (λ (e : key ≡ x). omega (arith, row_head key x i l e, rank_stop key x l (rw e (before_irrefl x))))
    (λ (k : Memᴰ key l). omega (arith, row_tail key x i l (a.0 key k), rank_pass key x l (a.0 key k), row_rank key (suc i) l a.1 k)) (Memᴰ.cases_cons m)

-- the rank of a member of the ascending rows is its row number
pub rank_row : (key : List ℕ) (l : List (List ℕ)) → Ascending l → Memᴰ key l → rank_of key l ≡ row_of key 0 l
rank_row key l a m = omega (arith, row_rank key 0 l a m)
