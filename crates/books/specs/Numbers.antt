-- What each number says, and which one is given where several hold. Assumes nothing.
use Rattle.std.specs.Prelude.{ℕ, zero, suc, ◌≡◌, Bool, true, false, cond, List, [], ◌∷◌}

-- 0: done
abbrev pub done : ℕ
done = 0

-- 1: something lent has a size that it can't have
abbrev pub wrong_size : ℕ
wrong_size = 1

-- 2: the books are damaged
abbrev pub damaged : ℕ
damaged = 2

-- 3: a step above 15
abbrev pub wrong_step : ℕ
wrong_step = 3

-- 4: append with no journal open
abbrev pub no_journal : ℕ
no_journal = 4

-- 5: the last journal has 200 steps
abbrev pub journal_full : ℕ
journal_full = 5

-- 6: a 1,001st row would be needed
abbrev pub rows_full : ℕ
rows_full = 6

-- 7: 16 journals are open already
abbrev pub journals_full : ℕ
journals_full = 7

-- 8: quorum below 1 or above k
abbrev pub wrong_quorum : ℕ
wrong_quorum = 8

-- 9: list length above 15
abbrev pub wrong_length : ℕ
wrong_length = 9

-- 10: a word record without its form, or whose word exceeds the list length
abbrev pub wrong_word : ℕ
wrong_word = 10

-- 11: the program: a broken journal entry
abbrev pub broken_entry : ℕ
broken_entry = 11

-- 12: the program's ask file has neither 0 nor 2 bytes
abbrev pub wrong_ask : ℕ
wrong_ask = 12

-- 13: no row has this number: it is above 999
abbrev pub wrong_row : ℕ
wrong_row = 13

-- a number and the condition under which it is given
pub record Refusal : Type 0 where
  pub holds : Bool
  pub number : ℕ

-- Order where several hold: the first counts, and 0 is given when none holds.
abbrev pub first : List Refusal → ℕ
first [] = done
first (r ∷ rs) = cond r.holds r.number (first rs)

-- The same as a relation: n is given exactly under its condition and no earlier one.
pub data Given : List Refusal → ℕ → Type 0 where
  none_holds : Given [] done
  this_holds : {r : Refusal} {rs : List Refusal} → r.holds ≡ true → Given (r ∷ rs) r.number
  not_this : {r : Refusal} {rs : List Refusal} {n : ℕ} → r.holds ≡ false → Given rs n → Given (r ∷ rs) n

-- what is answered or left: with number 0 the new, with any other what a refusal leaves
abbrev pub unless {ℓ} : {A : Type ℓ} → ℕ → A → A → A
unless zero new old = new
unless (suc n) new old = old
