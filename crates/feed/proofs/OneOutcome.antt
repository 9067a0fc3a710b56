-- No second outcome fits an entry or a row of entries, nor a second answer of the code. Assumes nothing.
use Prim.Native.Nat.{ℕ}
use mathlib.Core.Path.{◌≡◌, sym, ap, ap₂}
use mathlib.Core.List.{List}
use Rattle.std.specs.Prelude.{Result, Ok, Err}
use Rattle.books.specs.declared.refused.Refused.{Refused}
use Rattle.books.proofs.OneOutcome.{OneOutcome, one_outcome, number_of_one}
use Rattle.books.proofs.RefusalNumbers.{refusal_told}
use Rattle.feed.specs.Entry.{AfterFeeding, entry_call, feed_call, fed}
use Rattle.feed.specs.declared.RefusedEntry.{RefusedEntry}

pub entry_one : (jb rb : List ℕ) (n s : ℕ) → OneOutcome (entry_call jb rb n s)
entry_one jb rb n s = one_outcome (entry_call jb rb n s)

pub feed_one : (jb rb entries : List ℕ) → OneOutcome (feed_call jb rb entries)
feed_one jb rb entries = one_outcome (feed_call jb rb entries)

-- Two answers that say the same, with whatever books, are one, so that the promise of what a row of entries says determines the
-- answer. The answer of one entry says its number alone, as do those of the calls that write.
module _ (jb rb jc rc : List ℕ) where
  pub fed_one : (r s : Result ℕ RefusedEntry) → fed r jb rb ≡ fed s jc rc → r ≡ s
  fed_one (Ok n) (Ok m) h = ap Ok (ap (λ (o : AfterFeeding). o.taken) h)
  fed_one (Ok n) (Err f) h = absurd (refusal_told f.refused (sym (ap (λ (o : AfterFeeding). o.number) h)))
  fed_one (Err e) (Ok m) h = absurd (refusal_told e.refused (ap (λ (o : AfterFeeding). o.number) h))
  fed_one (Err e) (Err f) h =
      ap₂ (λ (x : Refused) (n : ℕ). Err (record { refused = x; taken = n })) (number_of_one e.refused f.refused (ap (λ (o : AfterFeeding). o.number) h))
      (ap (λ (o : AfterFeeding). o.taken) h)
