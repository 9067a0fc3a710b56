-- The journal book and its journals give each other back, by induction over n records:
-- behind an open record stands a book of journals, behind another only zeros. Assumes nothing.
use Prim.Native.Nat.{ℕ, zero, suc, ◌+◌, ◌-◌, ◌*◌, ◌≤◌}
use native.Mathlib.Omega.{arith}
use mathlib.Core.Path.{◌≡◌, refl, sym, ap, ap₂, ◌∙◌}
use mathlib.Core.Logic.{◌↔◌, ⊎_elim}
use mathlib.Core.Bool.{Bool, true, false, not, ◌&&◌, ◌||◌, false≢true}
use mathlib.Core.List.Memᴰ
use mathlib.Core.List.{List, [], ◌∷◌, ◌++◌, append_assoc, Memᴰ}
use lib.ListN.{length, take, drop, replicate, length-append, length-replicate, length-drop, take-append-drop, replicate-append-replicate}
use lib.Seq.{take_at, drop_at, length-take-le}
use lib.Dec.{eqb}
use borrow.Author.Tests.{eqb-true, eq-eqb}
use Rattle.records.specs.Bytes.{records, flat}
use Rattle.records.specs.JournalBook.{is_open, record_form, wrong_record, first_wrong, first_wrong_record, journal_form, open_ones, journals_of, journal_record, journal_book}
use Rattle.records.specs.StepBytes.{steps_of}
use Rattle.words.specs.Words.{IsJournal, EachJournal, AreJournals}
use Rattle.records.proofs.Flat.{Wide, length_flat}
use Rattle.records.proofs.StepBytes.{steps_back, step_bytes_form, step_bytes_length, form_steps}
use Rattle.records.proofs.Tests.{both, zero_eq}
use Rattle.words.proofs.Test.{test}

-- a record and what follows it
front : (m n : ℕ) (r b : List ℕ) → length r ≡ m → records m (suc n) (r ++ b) ≡ r ∷ records m n b
front m n r b l = rw (take_at r b m l, drop_at r b m l)

-- an open record has 256 bytes
pub record_length : (j : List ℕ) → length j ≤ 200 → length (journal_record j) ≡ 256
unfolding journal_record
record_length j h = omega (arith, step_bytes_length 254 j (omega arith))

-- it is open
record_open : (j : List ℕ) → is_open (journal_record j) ≡ true
unfolding journal_record
record_open j = refl

-- it holds its journal
record_back : (j : List ℕ) → steps_of (drop 1 (journal_record j)) ≡ j
unfolding journal_record
record_back j = steps_back 254 j

-- it is right behind an open one
record_right : (j : List ℕ) → IsJournal j → wrong_record true (journal_record j) ≡ false
unfolding journal_record
record_right j k = rw (step_bytes_form 254 200 j k.1 k.0)

-- a book of n records
abbrev book : ℕ → List (List ℕ) → List ℕ
book n js = flat journal_record js ++ replicate (256 * (n - length js)) 0

-- its first record, with a journal and with none
book_open : (n : ℕ) (j : List ℕ) (js : List (List ℕ)) → book (suc n) (j ∷ js) ≡ journal_record j ++ book n js
book_open n j js =
    let e : 256 * (suc n - suc (length js)) ≡ 256 * (n - length js) = omega arith in
    rw (append_assoc, e)

book_shut : (n : ℕ) → book (suc n) [] ≡ replicate 256 0 ++ book n []
book_shut n =
    let e : 256 * (suc n - 0) ≡ 256 + 256 * (n - 0) = omega arith in
    ap (λ (k : ℕ). replicate k 0) e ∙ sym (replicate-append-replicate 256 (256 * (n - 0)) 0)

-- the records of a book
open_records : (n : ℕ) (j : List ℕ) (js : List (List ℕ)) → length j ≤ 200
    → records 256 (suc n) (book (suc n) (j ∷ js)) ≡ journal_record j ∷ records 256 n (book n js)
open_records n j js h = ap (records 256 (suc n)) (book_open n j js) ∙ front 256 n (journal_record j) (book n js) (record_length j h)

shut_records : (n : ℕ) → records 256 (suc n) (book (suc n) []) ≡ replicate 256 0 ∷ records 256 n (book n [])
shut_records n = ap (records 256 (suc n)) (book_shut n) ∙ front 256 n (replicate 256 0) (book n []) refl

-- the journals of a book of n records
open_ones_lem : (n : ℕ) (js : List (List ℕ)) → length js ≤ n → EachJournal js → open_ones (records 256 n (book n js)) ≡ js
open_ones_lem zero [] h k = refl
open_ones_lem zero (j ∷ js) h k = absurd (omega arith)
open_ones_lem (suc n) [] h k = ap open_ones (shut_records n)
open_ones_lem (suc n) (j ∷ js) h k =
    ap open_ones (open_records n j js k.0.0) ∙ rw (record_open j, record_back j, open_ones_lem n js (omega arith) k.1)

-- none of its records is wrong
none_shut : (o : Bool) (n : ℕ) → first_wrong o (records 256 n (book n [])) ≡ n
none_shut o zero = refl
none_shut o (suc n) = ap (first_wrong o) (shut_records n) ∙ ap suc (none_shut false n)

none_wrong : (n : ℕ) (js : List (List ℕ)) → length js ≤ n → EachJournal js → first_wrong true (records 256 n (book n js)) ≡ n
none_wrong n [] h k = none_shut true n
none_wrong zero (j ∷ js) h k = refl
none_wrong (suc n) (j ∷ js) h k =
    ap (first_wrong true) (open_records n j js k.0.0) ∙ rw (record_right j k.0, record_open j, none_wrong n js (omega arith) k.1)

-- b is the book of js in n records
record BookIn (n : ℕ) (b : List ℕ) (js : List (List ℕ)) : Type 0 where
  few : length js ≤ n
  each : EachJournal js
  is : b ≡ book n js

-- what an open record of its form is
open_record : (r : List ℕ) → length r ≡ 256 → is_open r ≡ true → record_form r ≡ true
    → (r ≡ journal_record (steps_of (drop 1 r))) × IsJournal (steps_of (drop 1 r))
unfolding journal_record
open_record [] l o f = absurd (omega arith)
open_record (x ∷ r) l o f =
    let s = form_steps 254 200 r (omega arith) (omega arith) (rw o at f) in
    (ap₂ (λ (y : ℕ) (c : List ℕ). y ∷ c) (eqb-true x 1 o) s.0, (s.1, s.2))

-- what another record of its form is
shut_record : (r : List ℕ) → length r ≡ 256 → is_open r ≡ false → record_form r ≡ true → r ≡ replicate 256 0
shut_record r l o f = zero_eq r (rw o at f) ∙ ap (λ (k : ℕ). replicate k 0) l

-- a book with one more record before it
add_open : (n : ℕ) (b j : List ℕ) (js : List (List ℕ)) → (take 256 b ≡ journal_record j) × IsJournal j → BookIn n (drop 256 b) js
    → BookIn (suc n) b (j ∷ js)
add_open n b j js p i =
    record {
      few = omega (arith, i.few);
      each = (p.1, i.each);
      is = sym (take-append-drop 256 b) ∙ ap₂ (λ (x y : List ℕ). x ++ y) p.0 i.is ∙ sym (book_open n j js);
    }

add_shut : (n : ℕ) (b : List ℕ) (js : List (List ℕ)) → take 256 b ≡ replicate 256 0 → js ≡ [] → BookIn n (drop 256 b) js → BookIn (suc n) b []
add_shut n b js z e i =
    record {
      few = omega arith;
      each = tt;
      is = sym (take-append-drop 256 b) ∙ ap₂ (λ (x y : List ℕ). x ++ y) z (i.is ∙ ap (book n) e) ∙ sym (book_shut n);
    }

-- what a record that isn't wrong says: it has its form, and is open only behind an open one
pub right : (f p o : Bool) → (not f || (p && not o)) ≡ false → (f ≡ true) × (p ≡ true → o ≡ true)
right true true true w = (refl, λ e. refl)
right true true false w = absurd (false≢true (sym w))
right true false o w = (refl, λ e. absurd (false≢true e))
right false p o w = absurd (false≢true (sym w))

-- n records with none wrong are the book of their journals, and have none behind a record that isn't open
form_in : (o : Bool) (n : ℕ) (b : List ℕ) → length b ≡ 256 * n → first_wrong o (records 256 n b) ≡ n
    → BookIn n b (open_ones (records 256 n b)) × (o ≡ false → open_ones (records 256 n b) ≡ [])
form_in o zero [] l w = (record { few = omega arith; each = tt; is = refl }, λ f. refl)
form_in o zero (x ∷ b) l w = absurd (omega arith)
form_in o (suc n) b l w =
    test (wrong_record o (take 256 b)) (λ t. absurd (none (rw t at w)))
    (λ f. go (form_in (is_open (take 256 b)) n (drop 256 b) (omega (arith, length-drop 256 b)) (less (rw f at w)))
    (right (record_form (take 256 b)) (is_open (take 256 b)) o f))
  where
    none : 0 ≡ suc n → ⊥
    none e = omega arith

    less : {m : ℕ} → suc m ≡ suc n → m ≡ n
    less e = omega arith

    go : BookIn n (drop 256 b) (open_ones (records 256 n (drop 256 b))) × (is_open (take 256 b) ≡ false → open_ones (records 256 n (drop 256 b)) ≡ [])
        → (record_form (take 256 b) ≡ true) × (is_open (take 256 b) ≡ true → o ≡ true)
        → BookIn (suc n) b (open_ones (records 256 (suc n) b)) × (o ≡ false → open_ones (records 256 (suc n) b) ≡ [])
    go i f =
        let e : length (take 256 b) ≡ 256 = length-take-le 256 b (omega arith) in
        test (is_open (take 256 b))
        (λ p. rw p (add_open n b _ _ (open_record (take 256 b) e p f.0) i.0, λ z. absurd (false≢true (sym z ∙ f.1 p))))
        (λ p. rw p (add_shut n b _ (shut_record (take 256 b) e p f.0) (i.1 p) i.0, λ z. refl))

-- each journal takes one record
pub each_wide : (js : List (List ℕ)) → EachJournal js → Wide journal_record 256 js
each_wide [] k j m = absurd (Memᴰ.not-nil m)
each_wide (i ∷ js) k j m =
    ⊎_elim (λ (e : j ≡ i). rw e (record_length i k.0.0)) (λ (n : Memᴰ j js). each_wide js k.1 j n) (Memᴰ.cases_cons m)

-- the journals of their book
pub journals_back : (js : List (List ℕ)) → AreJournals js → journals_of (journal_book js) ≡ js
unfolding journals_of journal_book
journals_back js k = open_ones_lem 16 js k.few k.each

-- a book of journals has 4,096 bytes
pub book_length : (js : List (List ℕ)) → AreJournals js → length (journal_book js) ≡ 4096
unfolding journal_book
book_length js k =
    let n : ℕ = 256 * (16 - length js) in
    omega (arith, k.few, length-append (flat journal_record js) (replicate n 0), length_flat journal_record 256 js (each_wide js k.each), length-replicate {A = ℕ} n 0)

book_right : (js : List (List ℕ)) → AreJournals js → first_wrong_record (journal_book js) ≡ 16
unfolding first_wrong_record journal_book
book_right js k = none_wrong 16 js k.few k.each

-- a book of journals has its form
pub book_form : (js : List (List ℕ)) → AreJournals js → journal_form (journal_book js) ≡ true
unfolding journal_form
book_form js k =
    rw (eq-eqb (length (journal_book js)) 4096 (book_length js k)) (eq-eqb (first_wrong_record (journal_book js)) 16 (book_right js k))

-- a book of the form is the book of its journals
pub form_book : (b : List ℕ) → journal_form b ≡ true → AreJournals (journals_of b) × (b ≡ journal_book (journals_of b))
unfolding journal_form first_wrong_record journals_of journal_book
form_book b t =
    let p = both (eqb (length b) 4096) (eqb (first_wrong true (records 256 16 b)) 16) t in
    let i = form_in true 16 b (eqb-true (length b) 4096 p.0) (eqb-true (first_wrong true (records 256 16 b)) 16 p.1) in
    (record { few = i.0.few; each = i.0.each }, i.0.is)

-- the form: exactly the books of journals have it
pub form : (b : List ℕ) → (journal_form b ≡ true) ↔ ((js : List (List ℕ)) × AreJournals js × (b ≡ journal_book js))
form b = (λ t. (journals_of b, (form_book b t).0, (form_book b t).1), λ p. rw p.2 (book_form p.0 p.1))

-- and a book has one row of journals
pub form_unique : (b : List ℕ) (js ks : List (List ℕ)) → AreJournals js → AreJournals ks → b ≡ journal_book js → b ≡ journal_book ks → js ≡ ks
form_unique b js ks k l p q = sym (journals_back js k) ∙ ap journals_of (sym p ∙ q) ∙ journals_back ks l
