-- The rows drawn from the keys are those of the picture: a key stepped is the key of the state stepped, and the rank of a row's key among
-- the rows' keys, which ascend as the rows do, is the row's number. So the records made of the keys are the picture's. Assumes nothing.
use Prim.Native.Nat.{ℕ, zero, suc, ◌+◌, ◌≤◌, ◌<◌}
use native.Mathlib.Omega.{arith}
use mathlib.Core.Path.{◌≡◌, refl, sym, ap, ap₂, ◌∙◌}
use mathlib.Core.List.Memᴰ
use mathlib.Core.List.{List, ◌∷◌, map, Memᴰ}
use lib.ListN.{length, take, length-map}
use Rattle.words.specs.Order.{Ascending}
use Rattle.words.specs.Words.{AreJournals}
use Rattle.words.specs.Places.{step, live}
use Rattle.words.specs.Picture.{codes, picture, row_of, arc}
use Rattle.words.proofs.Members.{picture_ascending}
use Rattle.words.proofs.Place.{Short, short}
use Rattle.words.proofs.Rows.{step_row, row_width}
use Rattle.words.proofs.Steps.{step_length}
use Rattle.words.proofs.Test.{test}
use Rattle.records.specs.RowBook.{record_of_row, place_bytes, count_byte, behind_count, row_bytes, row_book}
use Rattle.records.proofs.Keys.{Widths, key_back, key_length, keys_ascending, row_keys}
use Rattle.records.proofs.Flat.{flat_map}
use Rattle.keys.specs.Keys.{rank_of}
use Rattle.keys.proofs.Ranks.{rank_row}
use Rattle.states.specs.Table.{TableOf}
use Rattle.states.specs.Stepped.{key_of_stepped, stepped_key}
use Rattle.states.specs.declared.nexts.Nexts.{Nexts}
use Rattle.picture.specs.KeyRow.{key_arc, key_arcs, key_row, key_book}
use Rattle.states.proofs.Stepped.{stepped_key_lem}

-- the keys of the picture's rows
abbrev pub row_keys_lem : List (List ℕ) → List (List ℕ)
row_keys_lem js = map place_bytes (picture js)

-- there are as many of them as rows
pub keys_many : (js keys : List (List ℕ)) → keys ≡ row_keys_lem js → length keys ≡ length (picture js)
keys_many js keys e = ap length e ∙ length-map (picture js) place_bytes

module _ (js : List (List ℕ)) (are : AreJournals js) where
  each_short : Short js
  each_short = short js are.each

  widths : Widths (length js) (picture js)
  widths a m = row_width js each_short a m

  -- they ascend
  pub row_keys_ascending : Ascending (row_keys_lem js)
  row_keys_ascending = keys_ascending (length js) (picture js) widths (picture_ascending js)

  -- the rank of one of them is the row's number
  key_rank : (a : List ℕ) → Memᴰ a (picture js) → rank_of (place_bytes a) (row_keys_lem js) ≡ row_of a 0 (picture js)
  key_rank a m =
      rank_row (place_bytes a) (row_keys_lem js) row_keys_ascending (Memᴰ.map place_bytes m)
      ∙ row_keys (length js) a (picture js) (widths a m) widths 0

  module _ (nexts : Nexts) (tabled : TableOf js nexts) where
    module _ (a : List ℕ) (m : Memᴰ a (picture js)) where
      row_back : take nexts.k (place_bytes a) ≡ a
      row_back = rw (tabled.many, ← widths a m) (key_back a)

      stepped : (s : ℕ) → s < 16 → stepped_key nexts (place_bytes a) s ≡ place_bytes (step js a s)
      stepped s b =
          let room : length js ≤ length (place_bytes a) = omega (arith, are.few, widths a m, key_length a (omega (arith, are.few, widths a m))) in
          ap (λ (k : ℕ). key_of_stepped nexts.entries k (place_bytes a) s) tabled.many
          ∙ stepped_key_lem js are nexts.entries tabled.entries (place_bytes a) s room b
          ∙ ap (λ (q : List ℕ). place_bytes (step js q s)) (ap (λ (k : ℕ). take k (place_bytes a)) (sym tabled.many) ∙ row_back)

      -- the arc of a row's key under a step is the row's
      pub key_arc_lem : (s : ℕ) → s < 16 → key_arc nexts (row_keys_lem js) (place_bytes a) s ≡ arc js (picture js) a s
      unfolding key_arc
      key_arc_lem s b =
          let q = step js a s in
          let t : take nexts.k (place_bytes q) ≡ q = rw (tabled.many, ← step_length js a s (widths a m)) (key_back q) in
          rw (stepped s b, t) (test (live q) (λ y. rw y (key_rank q (step_row js each_short a m s b y))) (λ n. rw n))

      arcs_from : (i n : ℕ) → i + n ≡ 16 → map (key_arc nexts (row_keys_lem js) (place_bytes a)) (codes i n) ≡ map (arc js (picture js) a) (codes i n)
      arcs_from i zero e = refl
      arcs_from i (suc n) e = ap₂ (λ (x : ℕ) (l : List ℕ). x ∷ l) (key_arc_lem i (omega arith)) (arcs_from (suc i) n (omega arith))

      -- the record made of a row's key is the row's
      pub key_row_lem : key_row nexts (row_keys_lem js) (place_bytes a) ≡ row_bytes js a
      unfolding key_arcs
      key_row_lem = ap₂ (λ (l : List ℕ) (n : ℕ). record_of_row (place_bytes a) l n behind_count) (arcs_from 0 16 refl) (ap count_byte row_back)

    -- the records made of all rows' keys, and zeros behind them, are the picture's book
    pub keys_book : (keys : List (List ℕ)) → keys ≡ row_keys_lem js → key_book nexts keys ≡ row_book js
    unfolding row_book
    keys_book keys e =
        rw (e, length-map (picture js) place_bytes, flat_map (key_row nexts (row_keys_lem js)) (row_bytes js) place_bytes (picture js) key_row_lem)
