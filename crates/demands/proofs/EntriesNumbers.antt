-- The number of a row of entries is the first of its conditions that holds: one list of conditions behind another counts
-- where none of the first holds. Assumes nothing.
use Prim.Native.Nat.{ℕ, suc}
use native.Mathlib.Omega.{arith}
use mathlib.Core.Path.{◌≡◌, refl, ap₂, sym, ◌∙◌}
use mathlib.Core.Bool.{Bool, true, false, cond}
use mathlib.Core.List.{List, [], ◌∷◌, ◌++◌}
use lib.Dec.{eqb}
use borrow.Author.Tests.{ne_eqb}
use Rattle.words.proofs.Test.{test}
use Rattle.books.specs.Clear.{After}
use Rattle.books.specs.Numbers.{Refusal, first}
use Rattle.books.proofs.Refusals.{given_first}
use Rattle.feed.specs.Entry.{AfterFeeding, entry_call_refusals, entry_call, feed_from, feed_call}
use Rattle.feed.proofs.Numbers.{entry_call_numbers}
use Rattle.demands.specs.EntriesRefusals.{entries_refusals}
use Rattle.demands.specs.KeepsTaken.{fed_to}

-- no number is 0
abbrev Refusing : List Refusal → Type 0
Refusing [] = Unit {0}
Refusing (r ∷ rs) = (r.number ≡ 0 → ⊥) × Refusing rs

-- conditions behind others count where none of those holds
first_behind : (rs ss : List Refusal) → Refusing rs → first (rs ++ ss) ≡ cond (eqb (first rs) 0) (first ss) (first rs)
first_behind [] ss h = refl
first_behind (r ∷ rs) ss h = test r.holds (λ t. rw (t, ne_eqb r.number 0 h.0)) (λ f. rw f (first_behind rs ss h.1))

entering : (jb rb : List ℕ) (n s : ℕ) → Refusing (entry_call_refusals jb rb n s)
entering jb rb n s =
    (λ e. omega arith, (λ e. omega arith, (λ e. omega arith, (λ e. omega arith, (λ e. omega arith, (λ e. omega arith, (λ e. omega arith, (λ e. omega arith, tt))))))))

fed_number : (b : Bool) (x y : AfterFeeding) → (cond b x y).number ≡ cond b x.number y.number
fed_number true x y = refl
fed_number false x y = refl

from_number : (i : ℕ) (jb rb bytes : List ℕ) → (feed_from i jb rb bytes).number ≡ first (entries_refusals jb rb bytes)
unfolding feed_from
from_number i jb rb [] = refl
from_number i jb rb (n ∷ []) = refl
from_number i jb rb (n ∷ s ∷ rest) =
    let a : After = entry_call jb rb n s in
    fed_number (eqb a.number 0) (feed_from (suc i) a.journals a.rows rest) (fed_to a.number i jb rb)
    ∙ ap₂ (λ (m k : ℕ). cond (eqb m 0) k m) (given_first (entry_call_numbers jb rb n s)) (from_number (suc i) a.journals a.rows rest)
    ∙ sym (first_behind (entry_call_refusals jb rb n s) (entries_refusals a.journals a.rows rest) (entering jb rb n s))

pub entries_number : (jb rb bytes : List ℕ) → (feed_call jb rb bytes).number ≡ first (entries_refusals jb rb bytes)
unfolding feed_call
entries_number jb rb bytes = from_number 0 jb rb bytes
