-- Journal i of a book of the form is a part of record i: as many steps as its length byte says, from its byte 2 on. The form keeps each within 200 steps, so
-- that none is longer than its record. Assumes nothing.
use Rattle.std.proofs.Common.{◌≡◌, ℕ, zero, suc, ◌+◌, ◌-◌, ◌≤◌, ◌<◌, true, cond, List, [], ◌∷◌, length, take, drop, get_or, length-take, add-one, refl, sym, ap, ◌∙◌, arith}
use Rattle.std.proofs.Math.Seq.{drop-cons}
use Rattle.std.proofs.Math.ListN.{drop_of_length-le}
use Rattle.words.specs.Words.{IsJournal, EachJournal, is_in, count}
use Rattle.words.proofs.Test.{test}
use Rattle.records.specs.StepBytes.{steps_of}
use Rattle.records.specs.JournalBook.{journals_of, journal_form}
use Rattle.records.proofs.Form.{form_book, book_length}
use Rattle.journal.specs.Records.{records_of}
use Rattle.journal.proofs.Records.{sixteen, wide, open_of, open_few, open_at}

-- each of journals is a journal
each_at : (js : List (List ℕ)) → EachJournal js → (i : ℕ) → i < length js → IsJournal (get_or js i [])
each_at [] k i h = absurd (omega arith)
each_at (j ∷ js) k zero h = k.0
each_at (j ∷ js) k (suc i) h = each_at js k.1 i (omega arith)

-- a book has at most 16 journals
pub few : (b : List ℕ) → length (journals_of b) ≤ 16
few b = omega (arith, ap length (open_of b), open_few (records_of b), sixteen b)

-- and its size
pub form_size : (b : List ℕ) → journal_form b ≡ true → length b ≡ 4096
form_size b t = let f = form_book b t in ap length f.1 ∙ book_length (journals_of b) f.0

-- the steps behind the length byte
steps_behind : (r : List ℕ) → take (2 + get_or r 1 0 - 2) (drop 2 r) ≡ steps_of (drop 1 r)
steps_behind [] = refl
steps_behind (x ∷ []) = refl
steps_behind (x ∷ n ∷ r) = let e : 2 + n - 2 ≡ n = omega arith in ap (λ (k : ℕ). take k r) e

short_byte : (r : List ℕ) → length r ≡ 256 → length (steps_of (drop 1 r)) ≤ 200 → get_or r 1 0 ≤ 200
short_byte [] l h = omega arith
short_byte (x ∷ []) l h = omega arith
short_byte (x ∷ n ∷ r) l h = omega (arith, length-take n r)

module _ (b : List ℕ) (t : journal_form b ≡ true) (i : ℕ) (h : i < length (journals_of b)) where
  record_steps : get_or (journals_of b) i [] ≡ steps_of (drop 1 (get_or (records_of b) i []))
  record_steps = rw (open_of b) (open_at (records_of b) i (rw (open_of b) at h))

  -- a journal has at most 200 steps
  pub journal_short : length (get_or (journals_of b) i []) ≤ 200
  journal_short = (each_at (journals_of b) (form_book b t).0.each i h).0

  -- and so does its length byte say
  pub length_byte : get_or (get_or (records_of b) i []) 1 0 ≤ 200
  length_byte =
      short_byte (get_or (records_of b) i []) (wide b i (form_size b t) (omega (arith, few b)))
      (omega (arith, journal_short, ap length record_steps))

  -- the journal
  pub journal_at : take (2 + get_or (get_or (records_of b) i []) 1 0 - 2) (drop 2 (get_or (records_of b) i [])) ≡ get_or (journals_of b) i []
  journal_at = steps_behind (get_or (records_of b) i []) ∙ sym record_steps

-- the count from journal i on
pub count_on : (js : List (List ℕ)) (w : List ℕ) (i : ℕ) → i < length js
    → count (drop i js) w ≡ cond (is_in w (get_or js i [])) 1 0 + count (drop (i + 1) js) w
count_on js w i h = rw (add-one, drop-cons js i []) (test (is_in w (get_or js i [])) (λ t. rw t (omega arith)) (λ f. rw f (omega arith)))

pub count_end : (js : List (List ℕ)) (w : List ℕ) (i : ℕ) → length js ≤ i → count (drop i js) w ≡ 0
count_end js w i h = rw (drop_of_length-le js h)
