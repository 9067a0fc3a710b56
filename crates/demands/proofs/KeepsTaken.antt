-- A row of entries splits behind those taken: the front alone leads to the same books, and from there the rest is refused at its
-- first entry, or is empty. Assumes nothing.
use Prim.Native.Nat.{ℕ, suc, ◌+◌, ◌*◌}
use native.Mathlib.Omega.{arith}
use mathlib.Core.Path.{◌≡◌, refl}
use mathlib.Core.Bool.{true, false}
use mathlib.Core.List.{List, [], ◌∷◌}
use lib.ListN.{take, drop}
use lib.Dec.{eqb}
use Rattle.words.proofs.Test.{test}
use Rattle.books.specs.Clear.{After}
use Rattle.feed.specs.Entry.{AfterFeeding, entry_call, feed_from, feed_call}
use Rattle.demands.specs.KeepsTaken.{fed_to, KeepsTaken}

-- where i entries were taken before: `more` are taken of these bytes
record Splits (i : ℕ) (jb rb bytes : List ℕ) (o : AfterFeeding) : Type 0 where
  more : ℕ
  all : o.taken ≡ i + more
  front : feed_from i jb rb (take (2 * more) bytes) ≡ fed_to 0 o.taken o.journals o.rows
  rest : (j : ℕ) → feed_from j o.journals o.rows (drop (2 * more) bytes) ≡ fed_to o.number j o.journals o.rows

module _ (i : ℕ) (jb rb : List ℕ) (n s : ℕ) (bytes : List ℕ) where
  abbrev entered : After
  entered = entry_call jb rb n s

  stops : eqb entered.number 0 ≡ false → Splits i jb rb (n ∷ s ∷ bytes) (feed_from i jb rb (n ∷ s ∷ bytes))
  unfolding feed_from
  stops f = rw f (record { more = 0; all = omega arith; front = refl; rest = λ j. rw f })

  goes_on : eqb entered.number 0 ≡ true → Splits (suc i) entered.journals entered.rows bytes (feed_from (suc i) entered.journals entered.rows bytes)
      → Splits i jb rb (n ∷ s ∷ bytes) (feed_from i jb rb (n ∷ s ∷ bytes))
  unfolding feed_from
  goes_on t p =
      let e : 2 * suc p.more ≡ suc (suc (2 * p.more)) = omega arith in
      rw t (record { more = suc p.more; all = omega (arith, p.all); front = rw (e, t) p.front; rest = λ j. rw e (p.rest j) })

splits : (i : ℕ) (jb rb bytes : List ℕ) → Splits i jb rb bytes (feed_from i jb rb bytes)
unfolding feed_from
splits i jb rb [] = record { more = 0; all = omega arith; front = refl; rest = λ j. refl }
splits i jb rb (n ∷ []) = record { more = 0; all = omega arith; front = refl; rest = λ j. refl }
splits i jb rb (n ∷ s ∷ bytes) =
    test (eqb (entry_call jb rb n s).number 0)
    (λ t. goes_on i jb rb n s bytes t (splits (suc i) (entry_call jb rb n s).journals (entry_call jb rb n s).rows bytes))
    (λ f. stops i jb rb n s bytes f)

pub keeps_taken : (jb rb bytes : List ℕ) → KeepsTaken jb rb bytes (feed_call jb rb bytes)
unfolding feed_call
keeps_taken jb rb bytes =
    let p = splits 0 jb rb bytes in
    let e : (feed_from 0 jb rb bytes).taken ≡ p.more = omega (arith, p.all) in
    record { taken = rw e (rw e at p.front); refused = rw e (p.rest 0) }
