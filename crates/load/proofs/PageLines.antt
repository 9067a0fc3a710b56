-- A page's text grows by a line: the next record's line stands behind those before it. Assumes nothing.
use Prim.Native.Nat.{ℕ, zero, suc, ◌+◌, ◌*◌, ◌≤◌, ◌<◌}
use native.Mathlib.Omega.{arith}
use native.Mathlib.Numerals.{add-one}
use mathlib.Core.Path.{◌≡◌, refl, ap, ◌∙◌}
use mathlib.Core.List.{List, [], ◌∷◌, ◌++◌, map}
use lib.ListN.{take, drop, get_or}
use lib.Seq.{drop-drop}
use Rattle.std.specs.Simd.{first_chunks}
use Rattle.records.specs.Bytes.{records, flat}
use Rattle.records.specs.WordRecord.{word_of}
use Rattle.records.proofs.Flat.{flat_snoc}
use Rattle.next_word.specs.Next.{table_of}
use Rattle.load.specs.Program.{line_by}
use Rattle.load.specs.Page.{page_lines}

-- one record more
records_more : (m n : ℕ) (b : List ℕ) → records m (suc n) b ≡ records m n b ++ (take m (drop (m * n) b) ∷ [])
records_more m zero b = let e : m * 0 ≡ 0 = omega arith in rw e
records_more m (suc n) b =
    let e : m * suc n ≡ m + m * n = omega arith in
    rw (records_more m n (drop m b), e, ← drop-drop (m * n) m b)

map_more : (f : List ℕ → List ℕ) (l : List (List ℕ)) (a : List ℕ) → map f (l ++ (a ∷ [])) ≡ map f l ++ (f a ∷ [])
map_more f [] a = refl
map_more f (b ∷ l) a = ap (λ (r : List (List ℕ)). f b ∷ r) (map_more f l a)

-- one line more
pub lines_more : (rb : List ℕ) (i : ℕ) (page : List ℕ)
    → page_lines rb (i + 1) page ≡ page_lines rb i page ++ line_by (table_of rb) (word_of (take 16 (drop (16 * i) page)))
unfolding page_lines
lines_more rb i page =
    let r : List ℕ = take 16 (drop (16 * i) page) in
    let lines : List (List ℕ) → List ℕ = flat (line_by (table_of rb)) in
    ap (λ (n : ℕ). lines (map word_of (records 16 n page))) (add-one i)
    ∙ ap (λ (l : List (List ℕ)). lines (map word_of l)) (records_more 16 i page)
    ∙ ap lines (map_more word_of (records 16 i page) r)
    ∙ flat_snoc (line_by (table_of rb)) (map word_of (records 16 i page)) (word_of r)

-- the records of a page as the library cuts them
pub record_at : (m n w i : ℕ) (b : List ℕ) → w ≤ n → i < w → get_or (take w (first_chunks m n b)) i [] ≡ take m (drop (m * i) b)
record_at m n zero i b l h = absurd (omega arith)
record_at m zero (suc w) i b l h = absurd (omega arith)
record_at m (suc n) (suc w) zero b l h = let e : m * 0 ≡ 0 = omega arith in rw e
record_at m (suc n) (suc w) (suc i) b l h =
    let e : m * suc i ≡ m + m * i = omega arith in
    rw (record_at m n w i (drop m b) (omega arith) (omega arith), e, ← drop-drop (m * i) m b)
