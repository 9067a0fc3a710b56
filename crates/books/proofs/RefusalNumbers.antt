-- What the code's answers say: no refusal's number is 0, a fault's is that of the refusal that it becomes, and a refused count is 0. Assumes nothing.
use mathlib.Core.Path.{◌≡◌, refl}
use native.Mathlib.Omega.{arith}
use Rattle.std.specs.Prelude.{ℕ, Result, Ok, Err}
use Rattle.std.specs.Result.{result_unwrap_or}
use Rattle.books.specs.Answers.{number_of, counted_in, fault_at, refused_by}
use Rattle.books.specs.declared.refused.Refused.{Refused}
use Rattle.books.specs.declared.refused.Refused.TheVariants.{WrongSize, Damaged, WrongStep, NoJournal, JournalFull, RowsFull, JournalsFull, WrongQuorum, WrongLength, WrongWord, BrokenEntry, WrongAsk, WrongRow}
use Rattle.books.specs.declared.fault.Fault.{Fault}
use Rattle.books.specs.declared.fault.Fault.TheVariants.{WrongSizes, Journal, Row}

-- a refusal's number isn't 0
pub refusal_told : (e : Refused) → number_of e ≡ 0 → ⊥
refusal_told WrongSize h = omega arith
refusal_told Damaged h = omega arith
refusal_told WrongStep h = omega arith
refusal_told NoJournal h = omega arith
refusal_told JournalFull h = omega arith
refusal_told RowsFull h = omega arith
refusal_told JournalsFull h = omega arith
refusal_told WrongQuorum h = omega arith
refusal_told WrongLength h = omega arith
refusal_told WrongWord h = omega arith
refusal_told BrokenEntry h = omega arith
refusal_told WrongAsk h = omega arith
refusal_told WrongRow h = omega arith

-- the number of a fault is that of the refusal that it becomes
pub refused_number : (f : Fault) → number_of (refused_by f) ≡ (fault_at f).number
refused_number WrongSizes = refl
refused_number (Journal r) = refl
refused_number (Row r b) = refl

-- a count that is refused is 0
pub count_told : (r : Result ℕ Refused) → (counted_in r).count ≡ result_unwrap_or r 0
count_told (Ok c) = refl
count_told (Err e) = refl
