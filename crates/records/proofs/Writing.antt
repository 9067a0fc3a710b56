-- What opening and appending write into the journal book: one byte for a journal, two for a step. A journal's record begins at as many
-- widths as journals stand before it. Assumes nothing.
use Prim.Native.Nat.{ℕ, zero, suc, ◌+◌, ◌-◌, ◌*◌, ◌<◌}
use native.Mathlib.Omega.{arith}
use mathlib.Core.Path.{◌≡◌, refl, sym, ap, ◌∙◌}
use mathlib.Core.List.{List, [], ◌∷◌, ◌++◌, append_assoc}
use lib.ListN.{length, get_or, set, replicate, length-append, replicate-append-replicate}
use lib.Seq.{set_at, append_snoc}
use Rattle.words.specs.Journals.{opened, appended_at, steps_at}
use Rattle.words.specs.Words.{EachJournal, AreJournals}
use Rattle.words.proofs.Journals.{length_appended_at}
use Rattle.records.specs.Bytes.{flat}
use Rattle.records.specs.JournalBook.{journal_record, journal_book}
use Rattle.records.specs.StepBytes.{step_bytes}
use Rattle.records.proofs.Flat.{flat_at, length_flat, flat_snoc}
use Rattle.records.proofs.Form.{record_length, each_wide}

-- a byte behind a list is set behind it
set_behind : (xs ys : List ℕ) (n i a : ℕ) → length xs ≡ n → set (xs ++ ys) (n + i) a ≡ xs ++ set ys i a
set_behind [] ys n i a e = let z : n + i ≡ i = omega arith in ap (λ (k : ℕ). set ys k a) z
set_behind (x ∷ xs) ys zero i a e = absurd (omega arith)
set_behind (x ∷ xs) ys (suc n) i a e =
    let z : suc n + i ≡ suc (n + i) = omega arith in
    ap (λ (k : ℕ). set (x ∷ xs ++ ys) k a) z ∙ ap (λ (l : List ℕ). x ∷ l) (set_behind xs ys n i a (omega arith))

-- a journal of at most 200 steps has zeros behind them
zeros_behind : (j : List ℕ) → length j < 200 → replicate {A = ℕ} (254 - length j) 0 ≡ 0 ∷ replicate (254 - (length j + 1)) 0
zeros_behind j h = let e : 254 - length j ≡ suc (254 - (length j + 1)) = omega arith in ap (λ (n : ℕ). replicate {A = ℕ} n 0) e

-- a step more in a record: the step itself, and the length
record_on : (j z : List ℕ) (s : ℕ) → length j < 200 → set (set (journal_record j ++ z) (2 + length j) s) 1 (length j + 1) ≡ journal_record (j ++ (s ∷ [])) ++ z
unfolding journal_record step_bytes
record_on j z s h =
    let r : ℕ = 254 - (length j + 1) in
    let e : length (j ++ (s ∷ [])) ≡ length j + 1 = length-append j (s ∷ []) in
    let o : 2 + length j ≡ suc (suc (length j)) = omega arith in
    let d : set (j ++ replicate (254 - length j) 0 ++ z) (length j) s ≡ j ++ (s ∷ []) ++ replicate r 0 ++ z =
    rw (zeros_behind j h, append_assoc j (0 ∷ replicate r 0) z, set_at j 0 (replicate r 0 ++ z) s (length j) refl, append_assoc (j ++ (s ∷ [])) (replicate r 0) z)
    (sym (append_snoc j s (replicate r 0 ++ z))) in
    rw (o, e, d)

-- a step more at journal i, with anything behind the records
steps_on : (i s : ℕ) (js : List (List ℕ)) (z : List ℕ) → EachJournal js → i < length js → steps_at i js < 200
    → set (set (flat journal_record js ++ z) (256 * i + (2 + steps_at i js)) s) (256 * i + 1) (steps_at i js + 1) ≡ flat journal_record (appended_at i s js) ++ z
steps_on i s [] z k h l = absurd (omega arith)
steps_on zero s (j ∷ js) z k h l =
    let e : 256 * zero + (2 + length j) ≡ 2 + length j = omega arith in
    let f : 256 * zero + 1 ≡ 1 = omega arith in
    rw (e, f, append_assoc (journal_record j) (flat journal_record js) z, append_assoc (journal_record (j ++ (s ∷ []))) (flat journal_record js) z)
    (record_on j (flat journal_record js ++ z) s l)
steps_on (suc i) s (j ∷ js) z k h l =
    let w = record_length j k.0.0 in
    let n : ℕ = steps_at i js in
    let e : 256 * suc i + (2 + n) ≡ 256 + (256 * i + (2 + n)) = omega arith in
    let f : 256 * suc i + 1 ≡ 256 + (256 * i + 1) = omega arith in
    let rest : List ℕ = flat journal_record js ++ z in
    rw (e, f, append_assoc (journal_record j) (flat journal_record js) z, append_assoc (journal_record j) (flat journal_record (appended_at i s js)) z, set_behind (journal_record j) rest 256 (256 * i + (2 + n)) s w, set_behind (journal_record j) (set rest (256 * i + (2 + n)) s) 256 (256 * i + 1) (n + 1) w, steps_on i s js z k.1 (omega arith) l)

-- the book with one step more at the end of journal i
pub append_bytes : (i s : ℕ) (js : List (List ℕ)) → AreJournals js → i < length js → steps_at i js < 200
    → set (set (journal_book js) (256 * i + (2 + steps_at i js)) s) (256 * i + 1) (steps_at i js + 1) ≡ journal_book (appended_at i s js)
unfolding journal_book
append_bytes i s js k h l = rw (length_appended_at i s js) (steps_on i s js (replicate (256 * (16 - length js)) 0) k.each h l)

-- the byte that holds the length of journal i
pub length_byte : (i : ℕ) (js : List (List ℕ)) → AreJournals js → i < length js → get_or (journal_book js) (256 * i + 1) 0 ≡ steps_at i js
unfolding journal_book journal_record step_bytes
length_byte i js k h = flat_at journal_record 256 js (replicate (256 * (16 - length js)) 0) (each_wide js k.each) i 1 h (omega arith)

-- an empty journal's record begins with the byte that says open, and has zeros behind it
empty_record : (z : List ℕ) (m : ℕ) → z ≡ replicate m 0 → journal_record [] ++ z ≡ 1 ∷ replicate (255 + m) 0
unfolding journal_record step_bytes
empty_record z m e = rw e (ap (λ (l : List ℕ). 1 ∷ l) (replicate-append-replicate 255 m 0))

-- the book with an empty journal more
pub open_bytes : (js : List (List ℕ)) → AreJournals js → length js < 16 → set (journal_book js) (256 * length js) 1 ≡ journal_book (opened js)
unfolding journal_book opened
open_bytes js k h =
    let m : ℕ = 256 * (16 - (length js + 1)) in
    let e : 256 * (16 - length js) ≡ suc (255 + m) = omega arith in
    let f : 256 * (16 - length (js ++ ([] ∷ []))) ≡ m = omega (arith, length-append js ([] ∷ [])) in
    let w : length (flat journal_record js) ≡ 256 * length js = length_flat journal_record 256 js (each_wide js k.each) in
    rw (e, f, flat_snoc journal_record js [], append_assoc (flat journal_record js) (journal_record []) (replicate m 0), empty_record (replicate m 0) m refl)
    (set_at (flat journal_record js) 0 (replicate (255 + m) 0) 1 (256 * length js) w)
