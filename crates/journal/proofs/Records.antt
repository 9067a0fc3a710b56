-- The records of a book: they are its parts of 256 bytes, the first wrong of them is the book's, and those that are open hold its journals. By
-- induction over the records. Assumes nothing.
use Rattle.std.proofs.Common.{◌≡◌, ◌≢◌, ℕ, zero, suc, ◌+◌, ◌*◌, ◌/◌, ◌≤◌, ◌<◌, Bool, true, false, eqb, List, [], ◌∷◌, ◌++◌, append_assoc, length, take, drop, get_or, length-drop, refl, ne_eqb, eq-eqb, add-one, Option, Some, None, MatchOption, unwrap_or, ap, ◌∙◌, ⊎_elim, arith}
use mathlib.Core.List.Memᴰ
use mathlib.Core.List.{Memᴰ}
use lib.Seq.{take-add, drop-drop, take_at, drop_at, length-take-le, get_or-take, get_or-drop, drop-cons}
use Rattle.std.proofs.Math.ListN.{drop_of_length-le}
use Rattle.std.specs.Simd.{first_chunks}
use Rattle.words.proofs.Test.{test}
use Rattle.records.specs.Bytes.{records}
use Rattle.records.specs.StepBytes.{steps_of}
use Rattle.records.specs.JournalBook.{record_at, is_open, wrong_record, first_wrong, first_wrong_record, journal_form, open_ones, journals_of}
use Rattle.journal.specs.Records.{records_of}

-- the parts of m bytes
chunks : (m n : ℕ) (b : List ℕ) → first_chunks m n b ≡ records m n b
chunks m zero b = refl
chunks m (suc n) b = ap (λ (rs : List (List ℕ)). take m b ∷ rs) (chunks m n (drop m b))

pub parts : (b : List ℕ) → length b ≡ 4096 → first_chunks 256 (length b / 256) b ≡ records_of b
unfolding records_of
parts b l = rw l (chunks 256 16 b)

-- records of one width: how many there are, where each begins, and that what stands behind them doesn't count
module _ (m : ℕ) where
  pub length_records : (n : ℕ) (t : List ℕ) → length (records m n t) ≡ n
  length_records zero t = refl
  length_records (suc n) t = ap suc (length_records n (drop m t))

  -- each has the width
  pub records_wide : (n : ℕ) (t : List ℕ) → m * n ≤ length t → (a : List ℕ) → Memᴰ a (records m n t) → length a ≡ m
  records_wide zero t h a i = absurd (Memᴰ.not-nil i)
  records_wide (suc n) t h a i =
      ⊎_elim (λ (e : a ≡ take m t). rw e (length-take-le m t (omega arith)))
      (λ (j : Memᴰ a (records m n (drop m t))). records_wide n (drop m t) (omega (arith, length-drop m t)) a j)
      (Memᴰ.cases_cons i)

  -- record i
  pub records_at : (n : ℕ) (t : List ℕ) (i : ℕ) → i < n → get_or (records m n t) i [] ≡ take m (drop (m * i) t)
  records_at zero t i h = absurd (omega arith)
  records_at (suc n) t zero h = let e : m * zero ≡ 0 = omega arith in rw e
  records_at (suc n) t (suc i) h =
      let e : m * suc i ≡ m + m * i = omega arith in
      records_at n (drop m t) i (omega arith) ∙ rw (drop-drop, ← e)

  -- records behind one more
  pub records_cons : (n : ℕ) (x t : List ℕ) → length x ≡ m → records m (suc n) (x ++ t) ≡ x ∷ records m n t
  records_cons n x t h = rw (take_at x t m h, drop_at x t m h)

  -- only the bytes of the records count
  pub records_front : (n : ℕ) (t r : List ℕ) → m * n ≤ length t → records m n (take (m * n) t ++ r) ≡ records m n t
  records_front zero t r h = refl
  records_front (suc n) t r h =
      let e : m * suc n ≡ m + m * n = omega arith in
      rw (e, take-add m (m * n) t, append_assoc)
      (records_cons n (take m t) (take (m * n) (drop m t) ++ r) (length-take-le m t (omega arith))
      ∙ ap (λ (l : List (List ℕ)). take m t ∷ l) (records_front n (drop m t) r (omega (arith, length-drop m t))))

-- those of a book
pub sixteen : (b : List ℕ) → length (records_of b) ≡ 16
unfolding records_of
sixteen b = length_records 256 16 b

pub wide : (b : List ℕ) (i : ℕ) → length b ≡ 4096 → i < 16 → length (get_or (records_of b) i []) ≡ 256
unfolding records_of
wide b i l h = ap length (records_at 256 16 b i h) ∙ length-take-le 256 (drop (256 * i) b) (omega (arith, length-drop (256 * i) b))

-- whether record i is open, read off the book
pub open_byte : (b : List ℕ) (i : ℕ) → is_open (record_at b i) ≡ eqb (get_or b (256 * i) 0) 1
open_byte b i =
    let e : 256 * i + 0 ≡ 256 * i = omega arith in
    ap (λ (x : ℕ). eqb x 1) (get_or-take 256 (drop (256 * i) b) 0 0 (omega arith) ∙ get_or-drop (256 * i) b 0 0 ∙ ap (λ (k : ℕ). get_or b k 0) e)

-- the first wrong one
pub wrong_of : (b : List ℕ) → first_wrong_record b ≡ first_wrong true (records_of b)
unfolding first_wrong_record records_of
wrong_of b = refl

module _ (rs : List (List ℕ)) (o : Bool) (i : ℕ) (h : i < length rs) where
  pub wrong_here : wrong_record o (get_or rs i []) ≡ true → first_wrong o (drop i rs) ≡ 0
  wrong_here t = rw (drop-cons rs i []) (rw t)

  pub wrong_next : wrong_record o (get_or rs i []) ≡ false → first_wrong o (drop i rs) ≡ suc (first_wrong (is_open (get_or rs i [])) (drop (i + 1) rs))
  wrong_next f = rw (add-one, drop-cons rs i []) (rw f)

pub wrong_end : (rs : List (List ℕ)) (o : Bool) (i : ℕ) → length rs ≤ i → first_wrong o (drop i rs) ≡ 0
wrong_end rs o i h = rw (drop_of_length-le rs h)

-- the form, by the first wrong one
pub form_right : (b : List ℕ) → length b ≡ 4096 → first_wrong_record b ≡ 16 → journal_form b ≡ true
unfolding journal_form
form_right b l n = rw (l, n)

pub form_wrong : (b : List ℕ) → length b ≡ 4096 → first_wrong_record b < 16 → journal_form b ≡ false
unfolding journal_form
form_wrong b l n = rw (l, ne_eqb (first_wrong_record b) 16 (omega arith))

-- the open ones
pub open_of : (b : List ℕ) → journals_of b ≡ open_ones (records_of b)
unfolding journals_of records_of
open_of b = refl

-- their number, where each is open, and where record k is the first that isn't
all_open : (rs : List (List ℕ)) → ((m : ℕ) → m < length rs → get_or (get_or rs m []) 0 0 ≡ 1) → length (open_ones rs) ≡ length rs
all_open [] a = refl
all_open (r ∷ rs) a = rw (eq-eqb (get_or r 0 0) 1 (a 0 (omega arith))) (ap suc (all_open rs (λ m l. a (suc m) (omega arith))))

open_till : (rs : List (List ℕ)) (k : ℕ) → k < length rs → get_or (get_or rs k []) 0 0 ≢ 1 → ((m : ℕ) → m < k → get_or (get_or rs m []) 0 0 ≡ 1)
    → length (open_ones rs) ≡ k
open_till [] k h n a = absurd (omega arith)
open_till (r ∷ rs) zero h n a = rw (ne_eqb (get_or r 0 0) 1 n)
open_till (r ∷ rs) (suc k) h n a =
    rw (eq-eqb (get_or r 0 0) 1 (a 0 (omega arith))) (ap suc (open_till rs k (omega arith) n (λ m l. a (suc m) (omega arith))))

-- the first that isn't open, if one isn't
abbrev pub FirstShut : List (List ℕ) → Option ℕ → Type 0
FirstShut rs o =
    MatchOption o ((m : ℕ) → m < length rs → get_or (get_or rs m []) 0 0 ≡ 1)
    (λ k. (k < length rs) × (get_or (get_or rs k []) 0 0 ≢ 1) × ((m : ℕ) → m < k → get_or (get_or rs m []) 0 0 ≡ 1))

pub open_number : (rs : List (List ℕ)) (o : Option ℕ) → FirstShut rs o → length (open_ones rs) ≡ unwrap_or o (length rs)
open_number rs None a = all_open rs a
open_number rs (Some k) a = open_till rs k a.0 a.1 a.2

pub open_few : (rs : List (List ℕ)) → length (open_ones rs) ≤ length rs
open_few [] = omega arith
open_few (r ∷ rs) = test (is_open r) (λ t. rw t (omega (arith, open_few rs))) (λ f. rw f (omega arith))

-- and what one of them holds
pub open_at : (rs : List (List ℕ)) (i : ℕ) → i < length (open_ones rs) → get_or (open_ones rs) i [] ≡ steps_of (drop 1 (get_or rs i []))
open_at [] i h = absurd (omega arith)
open_at (r ∷ rs) i h = test (is_open r) (λ t. rw t (go (open_at rs) i (rw t at h))) (λ f. absurd (omega (arith, rw f at h)))
  where
    go : ((k : ℕ) → k < length (open_ones rs) → get_or (open_ones rs) k [] ≡ steps_of (drop 1 (get_or rs k [])))
        → (i : ℕ) → i < suc (length (open_ones rs)) → get_or (steps_of (drop 1 r) ∷ open_ones rs) i [] ≡ steps_of (drop 1 (get_or (r ∷ rs) i []))
    go below zero l = refl
    go below (suc k) l = below k (omega arith)
