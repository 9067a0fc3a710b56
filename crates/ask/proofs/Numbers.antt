-- The ask's numbers, what a refused ask says, and that no second outcome fits, nor a second answer of the code. Assumes nothing.
use Prim.Native.Nat.{ℕ}
use mathlib.Core.Path.{◌≡◌, sym, ap, ap₂}
use mathlib.Core.List.{List}
use Rattle.std.specs.Prelude.{Result, Ok, Err}
use Rattle.books.specs.Numbers.{Given}
use Rattle.books.specs.declared.refused.Refused.{Refused}
use Rattle.books.proofs.OneOutcome.{OneOutcome, one_outcome, number_of_one}
use Rattle.books.proofs.RefusalNumbers.{refusal_told}
use Rattle.books.proofs.Refusals.{first_given, refused}
use Rattle.ask.specs.Ask.{Answer, ask_refusals, ask_call, answer_in}
use Rattle.ask.specs.declared.Ask.{Ask}

-- each number exactly under its condition and no earlier one
pub ask_numbers : (k : ℕ) (file : List ℕ) → Given (ask_refusals k file) (ask_call k file).number
unfolding ask_call
ask_numbers k file = first_given _

-- a refused ask has every other number zero
pub ask_refused : (k : ℕ) (file : List ℕ) → ((ask_call k file).number ≡ 0 → ⊥) → ((ask_call k file).quorum ≡ 0) × ((ask_call k file).limit ≡ 0)
unfolding ask_call
ask_refused k file h = (refused _ _ 0 h, refused _ _ 0 h)

pub ask_one : (k : ℕ) (file : List ℕ) → OneOutcome (ask_call k file)
ask_one k file = one_outcome (ask_call k file)

-- Two answers that say the same are one, so that the promise of what an answer says determines the answer.
pub answer_in_one : (r s : Result Ask Refused) → answer_in r ≡ answer_in s → r ≡ s
answer_in_one (Ok a) (Ok b) h =
    ap₂ (λ (q n : ℕ). Ok (record { quorum = q; limit = n })) (ap (λ (o : Answer). o.quorum) h) (ap (λ (o : Answer). o.limit) h)
answer_in_one (Ok a) (Err f) h = absurd (refusal_told f (sym (ap (λ (o : Answer). o.number) h)))
answer_in_one (Err e) (Ok b) h = absurd (refusal_told e (ap (λ (o : Answer). o.number) h))
answer_in_one (Err e) (Err f) h = ap Err (number_of_one e f (ap (λ (o : Answer). o.number) h))
