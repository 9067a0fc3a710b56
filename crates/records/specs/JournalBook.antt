-- The journal book: a record for each of 16 journals. Assumes nothing.
use Rattle.std.specs.Prelude.{ℕ, zero, suc, ◌-◌, ◌*◌, ◌<◌, ◌≡◌, ◌⊎◌, Bool, true, false, cond, not, ◌&&◌, ◌||◌, List, [], ◌∷◌, ◌++◌, length, take, drop, get_or, replicate, eqb}
use Rattle.words.specs.Limits.{longest_journal, most_journals}
use Rattle.records.specs.Sizes.{journal_book_size, journal_record_size}
use Rattle.records.specs.Bytes.{records, flat, all_zero}
use Rattle.records.specs.StepBytes.{steps_of, steps_form, step_bytes}

-- Byte 0: 1 open, 0 not.
abbrev pub is_open : List ℕ → Bool
is_open r = eqb (get_or r 0 0) 1

-- An open record holds its length and its steps behind byte 0, and zeros behind them; any other holds zeros alone.
abbrev pub record_form : List ℕ → Bool
record_form r = cond (is_open r) (steps_form longest_journal (drop 1 r)) (all_zero r)

-- a record is wrong when its form is, or when it is open after one that isn't
abbrev pub wrong_record : Bool → List ℕ → Bool
wrong_record open_before r = not (record_form r) || (is_open r && not open_before)

-- the first of the records that is wrong, or their number
abbrev pub first_wrong : Bool → List (List ℕ) → ℕ
first_wrong open_before [] = zero
first_wrong open_before (r ∷ rs) = let rest = suc (first_wrong (is_open r) rs) in cond (wrong_record open_before r) zero rest

-- The open records are the first k: before the first record nothing is shut.
unfoldable pub first_wrong_record : List ℕ → ℕ
first_wrong_record b = first_wrong true (records journal_record_size most_journals b)

-- the book has its form: its size, and no wrong record
unfoldable pub journal_form : List ℕ → Bool
journal_form b = eqb (length b) journal_book_size && eqb (first_wrong_record b) most_journals

-- the bytes of record i
abbrev pub record_at : List ℕ → ℕ → List ℕ
record_at b i = take journal_record_size (drop (journal_record_size * i) b)

-- The same as a relation: record i has the wrong form, or is open after one that isn't.
abbrev pub Wrong : List ℕ → ℕ → Type 0
Wrong b i =
    (record_form (record_at b i) ≡ false) ⊎ ((is_open (record_at b i) ≡ true) × ((k : ℕ) × (i ≡ suc k) × (is_open (record_at b k) ≡ false)))

pub record FirstWrong (b : List ℕ) (n : ℕ) : Type 0 where
  pub within : n < most_journals
  pub wrong : Wrong b n
  pub earlier : (i : ℕ) → i < n → Wrong b i → ⊥

-- the journals of the records before the first that isn't open
abbrev pub open_ones : List (List ℕ) → List (List ℕ)
open_ones [] = []
open_ones (r ∷ rs) = let rest = steps_of (drop 1 r) ∷ open_ones rs in cond (is_open r) rest []

-- the journals of a book
unfoldable pub journals_of : List ℕ → List (List ℕ)
journals_of b = open_ones (records journal_record_size most_journals b)

-- an open record's 256 bytes
unfoldable pub journal_record : List ℕ → List ℕ
journal_record j = 1 ∷ step_bytes (journal_record_size - 2) j

-- the book of the journals
unfoldable pub journal_book : List (List ℕ) → List ℕ
journal_book js = flat journal_record js ++ replicate (journal_record_size * (most_journals - length js)) 0
