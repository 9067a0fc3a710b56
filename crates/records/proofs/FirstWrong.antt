-- The check's first wrong journal record is the first in the document's words: each record is tested beside the one before it. Assumes nothing.
use Prim.Native.Nat.{ℕ, zero, suc, ◌+◌, ◌*◌, ◌≤◌, ◌<◌}
use native.Mathlib.Omega.{arith}
use mathlib.Core.Path.{◌≡◌, refl, sym, ap, ap₂, ◌∙◌}
use mathlib.Core.Logic.{◌⊎◌, inl, inr}
use mathlib.Core.Bool.{Bool, true, false, not, ◌&&◌, ◌||◌, false≢true}
use mathlib.Core.List.{List}
use lib.ListN.{length, take, drop}
use lib.Seq.{drop-drop}
use lib.Dec.{eqb, ltb}
use borrow.Author.Tests.{eqb-true, eqb-false, eq-eqb, ltb-true, ltb-false}
use Rattle.records.specs.Bytes.{records}
use Rattle.records.specs.JournalBook.{is_open, record_form, wrong_record, first_wrong, first_wrong_record, journal_form, record_at, Wrong, FirstWrong}
use Rattle.records.proofs.Form.{right}
use Rattle.records.proofs.Tests.{both}
use Rattle.words.proofs.Test.{test}

-- whether the record before record i is open, and o before the first
abbrev open_before : Bool → List ℕ → ℕ → Bool
open_before o b zero = o
open_before o b (suc k) = is_open (record_at b k)

-- the same test at each record
abbrev wrong_at : Bool → List ℕ → ℕ → Bool
wrong_at o b i = wrong_record (open_before o b i) (record_at b i)

-- a record of the bytes behind the first
pub record_shift : (b : List ℕ) (i : ℕ) → record_at b (suc i) ≡ record_at (drop 256 b) i
record_shift b i =
    let e : 256 * suc i ≡ 256 + 256 * i = omega arith in
    ap (λ (k : ℕ). take 256 (drop k b)) e ∙ ap (take 256) (sym (drop-drop (256 * i) 256 b))

wrong_shift : (o : Bool) (b : List ℕ) (i : ℕ) → wrong_at o b (suc i) ≡ wrong_at (is_open (take 256 b)) (drop 256 b) i
wrong_shift o b zero = ap (wrong_record (is_open (record_at b 0))) (record_shift b 0)
wrong_shift o b (suc i) = ap₂ (λ (x y : List ℕ). wrong_record (is_open x) y) (record_shift b i) (record_shift b (suc i))

first_within : (o : Bool) (n : ℕ) (b : List ℕ) → first_wrong o (records 256 n b) ≤ n
first_within o zero b = omega arith
first_within o (suc n) b =
    test (wrong_record o (take 256 b)) (λ t. rw t (omega arith)) (λ f. rw f (omega (arith, first_within (is_open (take 256 b)) n (drop 256 b))))

-- the records before the first wrong one pass the test
first_earlier : (o : Bool) (n : ℕ) (b : List ℕ) (i : ℕ) → i < first_wrong o (records 256 n b) → wrong_at o b i ≡ false
first_earlier o zero b i h = absurd (omega arith)
first_earlier o (suc n) b i h =
    test (wrong_record o (take 256 b)) (λ t. absurd (omega (arith, rw t at h))) (λ f. go f i (rw f at h) (λ k. first_earlier (is_open (take 256 b)) n (drop 256 b) k))
  where
    go : {m : ℕ} → wrong_record o (take 256 b) ≡ false → (i : ℕ) → i < suc m
        → ((k : ℕ) → k < m → wrong_at (is_open (take 256 b)) (drop 256 b) k ≡ false) → wrong_at o b i ≡ false
    go f zero l ih = f
    go f (suc k) l ih = wrong_shift o b k ∙ ih k (omega arith)

-- the first wrong one does not
first_fails : (o : Bool) (n : ℕ) (b : List ℕ) → first_wrong o (records 256 n b) < n → wrong_at o b (first_wrong o (records 256 n b)) ≡ true
first_fails o zero b h = absurd (omega arith)
first_fails o (suc n) b h =
    test (wrong_record o (take 256 b)) (λ t. rw t t)
    (λ f. rw f (wrong_shift o b (first_wrong (is_open (take 256 b)) (records 256 n (drop 256 b))) ∙ first_fails (is_open (take 256 b)) n (drop 256 b) (less (rw f at h))))
  where
    less : {m : ℕ} → suc m < suc n → m < n
    less l = omega arith

-- what the test says
fault : (f p o : Bool) → (not f || (p && not o)) ≡ true → (f ≡ false) ⊎ ((p ≡ true) × (o ≡ false))
fault true true true w = absurd (false≢true w)
fault true true false w = inr (refl, refl)
fault true false o w = absurd (false≢true w)
fault false p o w = inl refl

shut_before : (b : List ℕ) (i : ℕ) → open_before true b i ≡ false → (k : ℕ) × (i ≡ suc k) × (is_open (record_at b k) ≡ false)
shut_before b zero e = absurd (false≢true (sym e))
shut_before b (suc k) e = (k, refl, e)

before_shut : (b : List ℕ) (i : ℕ) → (k : ℕ) × (i ≡ suc k) × (is_open (record_at b k) ≡ false) → open_before true b i ≡ false
before_shut b i p = rw p.1 p.2

is_wrong : (b : List ℕ) (i : ℕ) → wrong_at true b i ≡ true → Wrong b i
is_wrong b i w = says (fault (record_form (record_at b i)) (is_open (record_at b i)) (open_before true b i) w)
  where
    says : (record_form (record_at b i) ≡ false) ⊎ ((is_open (record_at b i) ≡ true) × (open_before true b i ≡ false)) → Wrong b i
    says (inl f) = inl f
    says (inr p) = inr (p.0, shut_before b i p.1)

isnt_wrong : (b : List ℕ) (i : ℕ) → wrong_at true b i ≡ false → Wrong b i → ⊥
isnt_wrong b i w (inl f) = false≢true (sym f ∙ (right (record_form (record_at b i)) (is_open (record_at b i)) (open_before true b i) w).0)
isnt_wrong b i w (inr p) =
    false≢true (sym (before_shut b i p.1) ∙ (right (record_form (record_at b i)) (is_open (record_at b i)) (open_before true b i) w).1 p.0)

first_most : (b : List ℕ) → first_wrong_record b ≤ 16
unfolding first_wrong_record
first_most b = first_within true 16 b

fails : (b : List ℕ) → first_wrong_record b < 16 → wrong_at true b (first_wrong_record b) ≡ true
unfolding first_wrong_record
fails b h = first_fails true 16 b h

earlier : (b : List ℕ) (i : ℕ) → i < first_wrong_record b → Wrong b i → ⊥
unfolding first_wrong_record
earlier b i h = isnt_wrong b i (first_earlier true 16 b i h)

-- a book of the right size and wrong form has its first wrong record
pub wrong_first : (b : List ℕ) → length b ≡ 4096 → journal_form b ≡ false → FirstWrong b (first_wrong_record b)
unfolding journal_form
wrong_first b l t =
    let n = eqb-false (first_wrong_record b) 16 (rw (eq-eqb (length b) 4096 l) at t) in
    let h : first_wrong_record b < 16 = omega (arith, n, first_most b) in
    record { within = h; wrong = is_wrong b (first_wrong_record b) (fails b h); earlier = λ i m. earlier b i m }

-- a book of the form has none
pub form_right : (b : List ℕ) → journal_form b ≡ true → (i : ℕ) → i < 16 → Wrong b i → ⊥
unfolding journal_form
form_right b t i h = earlier b i (omega (arith, eqb-true (first_wrong_record b) 16 (both (eqb (length b) 4096) (eqb (first_wrong_record b) 16) t).1))

-- there is one first wrong record
pub wrong_unique : (b : List ℕ) (m n : ℕ) → FirstWrong b m → FirstWrong b n → m ≡ n
wrong_unique b m n f g =
    test (ltb m n) (λ t. absurd (g.earlier m (ltb-true m n t) f.wrong))
    (λ s. test (ltb n m) (λ t. absurd (f.earlier n (ltb-true n m t) g.wrong)) (λ u. omega (arith, ltb-false m n s, ltb-false n m u)))
