-- What is taken isn't refused: each condition of a number fails by one part of what was given. Assumes nothing.
use Prim.Native.Nat.{ℕ, ◌%◌}
use mathlib.Core.Path.{◌≡◌}
use mathlib.Core.Bool.{false}
use mathlib.Core.List.{List}
use lib.ListN.{length}
use borrow.Author.Tests.{eq-eqb, le-ltb}
use Rattle.records.specs.Sizes.{word_record_size}
use Rattle.records.specs.WordRecord.{word_of}
use Rattle.records.proofs.Sound.{books_journals, books_sound, books_sizes}
use Rattle.words.proofs.Test.{test}
use Rattle.list.specs.ListCall.{Asked, largest_output, wrong_output, list_call}
use Rattle.list.proofs.Numbers.{list_accepts}
use Rattle.demands.specs.Taken.{AllowedOutput, Taken}

-- an output of an allowed size isn't wrong
pub right_output : {out : List ℕ} → AllowedOutput out → wrong_output out ≡ false
right_output {out} o =
    rw (eq-eqb (length out % word_record_size) 0 o.whole, le-ltb (length out) word_record_size o.least, le-ltb largest_output (length out) o.most)

-- the call is done
pub taken_done : {js : List (List ℕ)} {a : Asked} → Taken js a → (list_call a).answer.number ≡ 0
taken_done {js} {a} t =
    list_accepts a (books_sizes t.books) t.word_size (right_output t.output) (books_sound t.books) t.limit
    (rw (books_journals t.books, le-ltb a.quorum 1 t.quorum_least, le-ltb (length js) a.quorum t.quorum_most))
    (test a.after (λ y. rw (y, (t.word y).0, le-ltb a.length_limit (length (word_of a.word)) (t.word y).1)) (λ f. rw f))
