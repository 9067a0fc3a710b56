-- Records of one width that are replaced one after the other, from the last to the first: those before i are of the old kind, the rest of the new.
-- Record i is read as the old one, and written as the new one. Assumes nothing.
use Prim.Native.Nat.{ℕ, suc, ◌+◌, ◌*◌, ◌≤◌, ◌<◌}
use native.Mathlib.Numerals.{add-one}
use native.Mathlib.Omega.{arith}
use mathlib.Core.Path.{◌≡◌, sym, ap, ◌∙◌}
use mathlib.Core.List.{List, [], ◌++◌, append_assoc}
use lib.ListN.{length, take, drop, get_or, drop_of_length-le}
use lib.Seq.{take_at, drop_at, drop-cons, drop-drop, take-length, take-suc, length-take-le}
use Rattle.words.proofs.Rows.{at_mem}
use Rattle.records.specs.Bytes.{flat}
use Rattle.records.proofs.Flat.{Wide, length_flat, flat_snoc, wide_take}

-- the records that old makes of the first i of l, and those that new makes of the rest, in front of z
abbrev pub replaced : (List ℕ → List ℕ) → (List ℕ → List ℕ) → List (List ℕ) → List ℕ → ℕ → List ℕ
replaced old new l z i = flat old (take i l) ++ (flat new (drop i l) ++ z)

module _ (old new : List ℕ → List ℕ) (l : List (List ℕ)) (z : List ℕ) where
  -- none is replaced yet
  pub replaced_none : flat old l ++ z ≡ replaced old new l z (length l)
  replaced_none = let e : length l ≤ length l = omega arith in rw (take-length, drop_of_length-le l e)

  module _ (n : ℕ) (wide : Wide old n l) (i : ℕ) (b : i < length l) where
    abbrev Book : List ℕ
    Book = replaced old new l z (i + 1)

    abbrev Front : List ℕ
    Front = flat old (take i l)

    abbrev Item : List ℕ
    Item = get_or l i []

    abbrev Rest : List ℕ
    Rest = flat new (drop (suc i) l) ++ z

    length_front : length Front ≡ n * i
    length_front = length_flat old n (take i l) (wide_take old n l wide i) ∙ ap (λ (m : ℕ). n * m) (length-take-le i l (omega arith))

    -- the records before record i, and from there on
    split : Book ≡ Front ++ (old Item ++ Rest)
    split = rw (add-one, take-suc l i [] b, flat_snoc) (append_assoc Front (old Item) Rest)

    in_front : take (n * i) Book ≡ Front
    in_front = ap (take (n * i)) split ∙ take_at Front (old Item ++ Rest) (n * i) length_front

    -- from record i on: the old record, and the rest
    pub from_item : drop (n * i) Book ≡ old Item ++ Rest
    from_item = ap (drop (n * i)) split ∙ drop_at Front (old Item ++ Rest) (n * i) length_front

    -- what stands behind it
    pub behind : drop (n * i + n) Book ≡ Rest
    behind = sym (drop-drop n (n * i) Book) ∙ ap (drop n) from_item ∙ drop_at (old Item) Rest n (wide Item (at_mem l i b))

    -- record i is replaced
    pub replaced_on : take (n * i) Book ++ (new Item ++ drop (n * i + n) Book) ≡ replaced old new l z i
    replaced_on = rw (in_front, behind, drop-cons l i []) (ap (λ (r : List ℕ). Front ++ r) (sym (append_assoc (new Item) (flat new (drop (suc i) l)) z)))
