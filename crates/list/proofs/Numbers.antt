-- The list call's numbers, what a refusal leaves, and that no second outcome fits, nor a second answer of the code. Assumes nothing.
use Prim.Native.Nat.{ℕ, ◌≤◌}
use mathlib.Core.Path.{◌≡◌, sym, ap, ap₂}
use mathlib.Core.Bool.{Bool, true, false, not, ◌&&◌, ◌||◌}
use lib.ListN.{length}
use lib.Dec.{ltb}
use borrow.Author.Tests.{eq-eqb, le-ltb}
use Rattle.std.specs.Prelude.{Result, Ok, Err}
use Rattle.books.specs.Numbers.{Given}
use Rattle.books.specs.declared.refused.Refused.{Refused}
use Rattle.list.specs.ListCall.{Asked, Listed, wrong_output, list_refusals, list_call, listed_in}
use Rattle.page.specs.declared.Page.{Page}
use Rattle.records.specs.JournalBook.{journals_of}
use Rattle.records.specs.Sizes.{word_record_size, longest_word}
use Rattle.records.specs.Sound.{right_sizes, sound}
use Rattle.records.specs.WordRecord.{word_form, word_of}
use Rattle.books.proofs.OneOutcome.{OneOutcome, one_outcome, number_of_one}
use Rattle.books.proofs.RefusalNumbers.{refusal_told}
use Rattle.books.proofs.Refusals.{first_given, refused}

-- each number exactly under its condition and no earlier one
pub list_numbers : (a : Asked) → Given (list_refusals a) (list_call a).answer.number
unfolding list_call
list_numbers a = first_given _

-- number 0, where no condition holds
pub list_accepts : (a : Asked) → right_sizes a.journals a.rows ≡ true → length a.word ≡ word_record_size → wrong_output a.out ≡ false
    → sound a.journals a.rows ≡ true → a.length_limit ≤ longest_word
    → (ltb a.quorum 1 || ltb (length (journals_of a.journals)) a.quorum) ≡ false
    → (a.after && (not (word_form a.word) || ltb a.length_limit (length (word_of a.word)))) ≡ false
    → (list_call a).answer.number ≡ 0
unfolding list_call
list_accepts a z l o s h k w =
    rw (z, eq-eqb (length a.word) word_record_size l, o, s, le-ltb longest_word a.length_limit h, k, w)

-- a refusal has every other number zero and says "no"; it writes nothing
pub list_refused : (a : Asked) → ((list_call a).answer.number ≡ 0 → ⊥)
    → ((list_call a).answer.written ≡ 0) × ((list_call a).answer.more ≡ false) × ((list_call a).out ≡ a.out)
unfolding list_call
list_refused a h = (refused _ _ 0 h, refused _ _ false h, refused _ _ a.out h)

pub list_one : (a : Asked) → OneOutcome (list_call a)
list_one a = one_outcome (list_call a)

-- Two answers that say the same are one, so that the promise of what an answer says determines the answer.
pub listed_in_one : (r s : Result Page Refused) → listed_in r ≡ listed_in s → r ≡ s
listed_in_one (Ok p) (Ok q) h =
    ap₂ (λ (n : ℕ) (b : Bool). Ok (record { written = n; more = b })) (ap (λ (l : Listed). l.written) h) (ap (λ (l : Listed). l.more) h)
listed_in_one (Ok p) (Err f) h = absurd (refusal_told f (sym (ap (λ (l : Listed). l.number) h)))
listed_in_one (Err e) (Ok q) h = absurd (refusal_told e (ap (λ (l : Listed). l.number) h))
listed_in_one (Err e) (Err f) h = ap Err (number_of_one e f (ap (λ (l : Listed). l.number) h))
