-- On the book of the journals a walk goes from the row of each state to the row of the next, as long as they are live: every arc rises and every row's
-- count is 1 to 16, so that nothing is damage. Its last row's count is the word's count. Assumes nothing.
use Prim.Native.Nat.{ℕ, ◌≤◌, ◌<◌}
use native.Mathlib.Omega.{arith}
use mathlib.Core.Path.{◌≡◌, refl, ◌∙◌}
use mathlib.Core.Bool.{true, false, cond}
use mathlib.Core.List.{List, [], ◌∷◌, ◌++◌, append-nil, Memᴰ}
use lib.ListN.{length}
use lib.Seq.{append_snoc}
use borrow.Author.Tests.{eq-eqb, ne_eqb, lt-leb, le-ltb}
use Rattle.std.specs.Prelude.{Some, None, Ok}
use Rattle.rows.specs.Walk.{Walked, along, walk_from, walk}
use Rattle.books.specs.TableCount.{counted, table_count_call}
use Rattle.records.specs.RowBook.{row_book, count_at}
use Rattle.words.specs.Picture.{row_of, picture}
use Rattle.words.specs.Places.{state, step, live}
use Rattle.words.specs.Words.{IsWord, AreJournals, count}
use Rattle.records.proofs.RowBytes.{length_book, arc_bytes, count_least, count_most, row_counts}
use Rattle.records.proofs.Tests.{word_below}
use Rattle.words.proofs.Falls.{dead_stays}
use Rattle.words.proofs.Members.{state_snoc, picture_members, picture_ascending}
use Rattle.words.proofs.Place.{Short, short, held_count, dead_held}
use Rattle.words.proofs.Rows.{row_is, step_row, arc_after, start_mem, start_zero}
use Rattle.words.proofs.Test.{test}

-- an arc is taken that rises, is a row's number, and ends at a count of 1 to 16
along_on : (b : List ℕ) (r t : ℕ) (rest : Walked) → r < t → t < 1000 → 1 ≤ count_at b t → count_at b t ≤ 16 → along b r t rest ≡ rest
unfolding along
along_on b r t rest h k l m =
    rw (ne_eqb t 0 (omega arith), lt-leb t r h, lt-leb 1000 t k, ne_eqb (count_at b t) 0 (omega arith), le-ltb 16 (count_at b t) m)

-- where a walk to the state a ends: at its row, if it is live
abbrev ending : List (List ℕ) → List ℕ → Walked
ending js a = cond (live a) (Ok (Some (row_of a 0 (picture js)))) (Ok None)

module _ (js : List (List ℕ)) (h : Short js) (few : length js ≤ 16) (fits : length (picture js) ≤ 1000) where
  -- the arc of a row to a live state is taken
  taken : (a : List ℕ) → Memᴰ a (picture js) → (s : ℕ) → s < 16 → live (step js a s) ≡ true → (rest : Walked)
      → along (row_book js) (row_of a 0 (picture js)) (row_of (step js a s) 0 (picture js)) rest ≡ rest
  taken a m s b t rest =
      let i = step_row js h a m s b t in
      along_on (row_book js) (row_of a 0 (picture js)) (row_of (step js a s) 0 (picture js)) rest (rw t at (arc_after js h a m s b t))
      (omega (arith, row_is (step js a s) (picture js) (picture_ascending js) i)) (count_least js h few (step js a s) i) (count_most js h few (step js a s) i)

  -- from the row of v's state the walk along w ends where the walk to the state of both ends
  from_ends : (w v : List ℕ) → IsWord w → Memᴰ (state js v) (picture js)
      → walk_from (row_book js) (row_of (state js v) 0 (picture js)) w ≡ ending js (state js (v ++ w))
  unfolding walk_from along
  from_ends [] v k m = rw (append-nil, ((picture_members js h (state js v)).0 m).0)
  from_ends (s ∷ w) v k m =
      rw (arc_bytes js h few (state js v) m s k.0, ← append_snoc v s w)
      (test (live (step js (state js v) s))
      (λ t. rw t (taken (state js v) m s k.0 t _ ∙ (rw (state_snoc js v s) at (from_ends w (v ++ (s ∷ [])) k.1 (rw (state_snoc js v s) (step_row js h (state js v) m s k.0 t))))))
      (λ f. rw (f, dead_stays js (v ++ (s ∷ [])) w (rw (state_snoc js v s) f))))

empty_count : count_at (row_book []) 0 ≡ 0
unfolding row_book picture
empty_count = refl

-- the walk along w ends where the walk to its state ends
ends : (js : List (List ℕ)) → Short js → length js ≤ 16 → length (picture js) ≤ 1000 → (w : List ℕ) → IsWord w → walk (row_book js) w ≡ ending js (state js w)
unfolding walk
ends [] h few fits w k = rw empty_count
ends (j ∷ js) h few fits w k =
    let b : List ℕ = row_book (j ∷ js) in
    let a : List ℕ = state (j ∷ js) [] in
    let m : Memᴰ a (picture (j ∷ js)) = start_mem j js h in
    let z : row_of a 0 (picture (j ∷ js)) ≡ 0 = start_zero j js h in
    let most : count_at b 0 ≤ 16 = rw z at (count_most (j ∷ js) h few a m) in
    let least : 1 ≤ count_at b 0 = rw z at (count_least (j ∷ js) h few a m) in
    rw (le-ltb 16 (count_at b 0) most, ne_eqb (count_at b 0) 0 (omega arith)) (rw z at (from_ends (j ∷ js) h few fits w [] k m))

module _ (js : List (List ℕ)) (are : AreJournals js) (fits : length (picture js) ≤ 1000) (w : List ℕ) (k : IsWord w) where
  brief : Short js
  brief = short js are.each

  -- the walk along a word that is live ends at the row of its state
  pub walk_ends : live (state js w) ≡ true → walk (row_book js) w ≡ Ok (Some (row_of (state js w) 0 (picture js)))
  walk_ends t = rw t at (ends js brief are.few fits w k)

  -- the walk along any other word ends in no row
  pub walk_stops : live (state js w) ≡ false → walk (row_book js) w ≡ Ok None
  walk_stops f = rw f at (ends js brief are.few fits w k)

  -- on the book of the journals the table count is the word's count
  pub table_counts : table_count_call (row_book js) w ≡ counted 0 (count js w)
  unfolding table_count_call
  table_counts =
      rw (eq-eqb (length (row_book js)) 64000 (length_book js brief are.few fits), word_below w k)
      (test (live (state js w))
      (λ t. rw (walk_ends t, row_counts js are w k t))
      (λ f. rw (walk_stops f, ← held_count js w brief, dead_held (state js w) f)))
