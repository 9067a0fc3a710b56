-- The sweep on keys. A turn that puts in the key that a step leads to from row i is a step of the sweep on states: the keys stand for the states in their
-- order, and what goes in stands after row i, so that row i keeps its key. Assumes nothing.
use Prim.Native.Nat.{ℕ, zero, suc, ◌+◌, ◌-◌, ◌≤◌, ◌<◌}
use native.Mathlib.Numerals.{add-one}
use native.Mathlib.Omega.{arith}
use mathlib.Core.Path.{◌≡◌, refl, sym, ap, ap₂, ◌∙◌}
use mathlib.Core.List.{List, [], ◌∷◌, ◌++◌, map}
use lib.ListN.{length, take, get_or, replicate, length-map}
use Rattle.words.specs.Places.{state, step, live}
use Rattle.words.specs.Picture.{keep, picture}
use Rattle.words.specs.Sweep.{Partial}
use Rattle.words.specs.Words.{AreJournals}
use Rattle.words.proofs.Place.{Short, short}
use Rattle.words.proofs.Rows.{at_mem, live_after}
use Rattle.words.proofs.Steps.{step_length}
use Rattle.words.proofs.Sweep.{sweep_start, partial_width, dead_step, live_step, too_many, row_done, all_done, insert_keeps}
use Rattle.words.proofs.Test.{test}
use Rattle.records.specs.RowBook.{place_bytes}
use Rattle.records.proofs.Keys.{key_at, key_length}
use Rattle.states.specs.Table.{TableOf}
use Rattle.states.specs.Stepped.{key_of_stepped, stepped_key, with_key}
use Rattle.states.specs.Found.{states_of, Sweeping, RowKeys}
use Rattle.states.specs.declared.nexts.Nexts.{Nexts}
use Rattle.states.proofs.Stepped.{stepped_key_lem}
use Rattle.states.proofs.Added.{keep_least, state_back, states_back, with_keys}

-- the sweep within row i, whose key is at hand
pub record Growing (js : List (List ℕ)) (i s : ℕ) (key : List ℕ) (keys : List (List ℕ)) : Type 0 where
  pub sweeping : Sweeping js i s keys
  pub row : i < length keys
  pub of_row : key ≡ place_bytes (get_or (states_of (length js) keys) i [])

-- after a step of row i: still so, or there are more live states than there is room for
pub record Grown (js : List (List ℕ)) (i s : ℕ) (key : List ℕ) (keys : List (List ℕ)) : Type 0 where
  pub few : length keys ≤ 1000 → Growing js i s key keys
  pub most : 1000 < length keys → 1000 < length (picture js)

module _ (js : List (List ℕ)) (are : AreJournals js) where
  limits : Short js
  limits = short js are.each

  how_many : (keys : List (List ℕ)) → length (states_of (length js) keys) ≡ length keys
  how_many keys = length-map keys (take (length js))

  module _ (i s : ℕ) (keys : List (List ℕ)) (w : Sweeping js i s keys) where
    -- row i, with its key
    pub row_begins : i < length keys → {key : List ℕ} → key ≡ get_or keys i [] → Growing js i s key keys
    row_begins h read =
        record {
          sweeping = w;
          row = h;
          of_row = read ∙ ap (λ (x : List (List ℕ)). get_or x i []) w.padded ∙ key_at (states_of (length js) keys) i [] (omega (arith, how_many keys));
        }

  module _ (nexts : Nexts) (tabled : TableOf js nexts) (i s : ℕ) (key : List ℕ) (keys : List (List ℕ)) (g : Growing js i s key keys) (small : s < 16) where
    abbrev l : List (List ℕ)
    l = states_of (length js) keys

    abbrev from : List ℕ
    from = get_or l i []

    -- the state that the step leads to
    abbrev q : List ℕ
    q = step js from s

    partial : Partial js i s l
    partial = g.sweeping.partial

    within : i < length l
    within = omega (arith, how_many keys, g.row)

    width : length from ≡ length js
    width = partial_width js limits i s l partial from (at_mem l i within)

    long : length key ≡ 16
    long = ap length g.of_row ∙ key_length from (omega (arith, width, are.few))

    stepped : stepped_key nexts key s ≡ place_bytes q
    stepped =
        ap (λ (k : ℕ). key_of_stepped nexts.entries k key s) tabled.many
        ∙ stepped_key_lem js are nexts.entries tabled.entries key s (omega (arith, long, are.few)) small
        ∙ ap (λ (a : List ℕ). place_bytes (step js a s)) (ap (take (length js)) g.of_row ∙ state_back (length js) from width)

    partial_after : Partial js i (suc s) (keep q l)
    partial_after =
        test (live q) (λ v. rw v (live_step js limits i s l partial within small v)) (λ f. rw f (dead_step js limits i s l partial f))

    row_stays : get_or (keep q l) i [] ≡ from
    row_stays =
        test (live q)
        (λ v. rw v (insert_keeps q l partial.ascending i within (live_after js from s limits (partial.each from (at_mem l i within)) v) i (omega arith)))
        (λ f. rw f)

    -- after the key is put in
    module _ (after : List (List ℕ)) (e : after ≡ with_key nexts.k (stepped_key nexts key s) keys) where
      keys_are : after ≡ map place_bytes (keep q l)
      keys_are =
          e ∙ ap (λ (k : ℕ). with_key k (stepped_key nexts key s) keys) tabled.many
          ∙ ap₂ (λ (x : List ℕ) (y : List (List ℕ)). with_key (length js) x y) stepped g.sweeping.padded
          ∙ with_keys (length js) q l (step_length js from s width) (partial_width js limits i s l partial)

      states_are : states_of (length js) after ≡ keep q l
      states_are =
          ap (map (take (length js))) keys_are ∙ states_back (length js) (keep q l) (partial_width js limits i (suc s) (keep q l) partial_after)

      many : length after ≡ length (keep q l)
      many = sym (how_many after) ∙ ap length states_are

      pub grown : Grown js i (s + 1) key after
      grown =
          record {
            few = λ h. record {
              sweeping = record { room = h; partial = rw (add-one, states_are) partial_after; padded = keys_are ∙ ap (map place_bytes) (sym states_are) };
              row = omega (arith, many, keep_least q l, within);
              of_row = g.of_row ∙ ap place_bytes (sym row_stays ∙ ap (λ (x : List (List ℕ)). get_or x i []) (sym states_are));
            };
            most = λ h. omega (arith, many, too_many js limits i (suc s) (keep q l) partial_after);
          }

  -- after the 16 steps of a row
  pub row_ends : (i : ℕ) (keys : List (List ℕ)) → Sweeping js i 16 keys → Sweeping js (i + 1) 0 keys
  row_ends i keys w = record { room = w.room; partial = rw add-one (row_done js i (states_of (length js) keys) w.partial); padded = w.padded }

  -- after the last row
  pub sweep_ends : (i : ℕ) (keys : List (List ℕ)) → length keys ≤ i → Sweeping js i 0 keys → RowKeys js keys
  sweep_ends i keys h w =
      let e : states_of (length js) keys ≡ picture js = all_done js limits i (states_of (length js) keys) (omega (arith, how_many keys)) w.partial in
      record { room = omega (arith, w.room, how_many keys, ap length e); all = w.padded ∙ ap (map place_bytes) e }

-- the empty word's state, and its key
start_state : (js : List (List ℕ)) (m : ℕ) → length js ≤ m → take (length js) (replicate m 0) ≡ state js []
start_state [] m h = refl
start_state (j ∷ js) zero h = absurd (omega arith)
start_state (j ∷ js) (suc m) h = ap (λ (x : List ℕ). 0 ∷ x) (start_state js m (omega arith))

start_key : (js : List (List ℕ)) (m : ℕ) → length js ≤ m → replicate m 0 ≡ state js [] ++ replicate (m - length (state js [])) 0
start_key [] m h = let e : m - 0 ≡ m = omega arith in rw e
start_key (j ∷ js) zero h = absurd (omega arith)
start_key (j ∷ js) (suc m) h =
    let e : suc m - suc (length (state js [])) ≡ m - length (state js []) = omega arith in
    rw e (ap (λ (x : List ℕ). 0 ∷ x) (start_key js m (omega arith)))

-- The first key is that of the empty word's state.
pub sweep_begins : (js : List (List ℕ)) → AreJournals js → (length js ≡ 0 → ⊥) → Sweeping js 0 0 (replicate 16 0 ∷ [])
sweep_begins [] are some = absurd (some refl)
sweep_begins (j ∷ js) are some =
    let states : states_of (suc (length js)) (replicate 16 0 ∷ []) ≡ state (j ∷ js) [] ∷ [] =
    ap (λ (x : List ℕ). x ∷ []) (start_state (j ∷ js) 16 are.few) in
    record {
      room = omega arith;
      partial = rw states (sweep_start j js);
      padded = ap (λ (x : List ℕ). x ∷ []) (start_key (j ∷ js) 16 are.few) ∙ ap (map place_bytes) (sym states);
    }

-- no journals have no live state
pub none_found : (js : List (List ℕ)) → length js ≡ 0 → RowKeys js []
unfolding picture
none_found [] e = record { room = omega arith; all = refl }
none_found (j ∷ js) e = absurd (omega arith)
