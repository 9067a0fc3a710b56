-- One ascending pass that inserts each row's live successors builds the picture: a live successor stands after its row, so no row that is done moves,
-- and when none is left the rows are closed under the steps. Assumes nothing.
use Prim.Native.Nat.{ℕ, zero, suc, ◌≤◌, ◌<◌}
use native.Mathlib.Omega.{arith}
use mathlib.Core.Path.{◌≡◌, refl, sym, ◌∙◌}
use mathlib.Core.Logic.{⊎_elim}
use mathlib.Core.Bool.{true, false, false≢true}
use mathlib.Core.List.Memᴰ
use mathlib.Core.List.{List, [], ◌∷◌, Memᴰ}
use lib.ListN.{length, get_or}
use lib.Dec.{eqb}
use borrow.Author.Tests.{eqb-true, eqb-false}
use Rattle.words.specs.Order.{before, Ascending}
use Rattle.words.specs.Picture.{insert, picture}
use Rattle.words.specs.Places.{state, step, live, LiveState}
use Rattle.words.specs.Sweep.{Partial}
use Rattle.words.proofs.Closed.{closed_picture, sub_length}
use Rattle.words.proofs.Members.{picture_members, picture_ascending}
use Rattle.words.proofs.Order.{before_asym, before_trans, insert_here, insert_old, insert_only, insert_ascending}
use Rattle.words.proofs.Place.{Short}
use Rattle.words.proofs.Rows.{at_mem, mem_index, live_width, step_live, live_after}
use Rattle.words.proofs.Test.{test}

abbrev Mem : List ℕ → List (List ℕ) → Type 0
Mem a l = Memᴰ a l

-- what stands after row i leaves the rows up to i where they are
pub insert_keeps : (q : List ℕ) (l : List (List ℕ)) → Ascending l → (i : ℕ) → i < length l → before (get_or l i []) q ≡ true
    → (k : ℕ) → k ≤ i → get_or (insert q l) k [] ≡ get_or l k []
insert_keeps q [] h i b t k c = absurd (omega arith)
insert_keeps q (a ∷ l) h zero b t zero c = rw (before_asym a q t, t)
insert_keeps q (a ∷ l) h zero b t (suc k) c = absurd (omega arith)
insert_keeps q (a ∷ l) h (suc i) b t k c =
    let u : before a q ≡ true = before_trans a (get_or l i []) q (h.0 (get_or l i []) (at_mem l i (omega arith))) t in
    rw (before_asym a q u, u) (go (λ k d. insert_keeps q l h.1 i (omega arith) t k d) k c)
  where
    go : ((k : ℕ) → k ≤ i → get_or (insert q l) k [] ≡ get_or l k []) → (k : ℕ) → k ≤ suc i → get_or (a ∷ insert q l) k [] ≡ get_or (a ∷ l) k []
    go ih zero c = refl
    go ih (suc k) c = ih k (omega arith)

-- an insertion makes the rows no fewer
pub length_insert : (q : List ℕ) (l : List (List ℕ)) → length l ≤ length (insert q l)
length_insert q [] = omega arith
length_insert q (a ∷ l) =
    test (before q a) (λ t. rw t (omega arith)) (λ f. test (before a q) (λ t. rw (f, t) (omega (arith, length_insert q l))) (λ g. rw (f, g) (omega arith)))

-- the pass begins with the empty word's state alone
pub sweep_start : (j : List ℕ) (js : List (List ℕ)) → Partial (j ∷ js) 0 0 (state (j ∷ js) [] ∷ [])
sweep_start j js =
    record {
      ascending = (λ b m. absurd (Memᴰ.not-nil m), tt);
      each = λ x m. first x (Memᴰ.eq_of_singleton m);
      start = λ t. Memᴰ.head refl;
      rows = λ k c. absurd (omega arith);
      row = λ t c. absurd (omega arith);
    }
  where
    first : (x : List ℕ) → x ≡ state (j ∷ js) [] → LiveState (j ∷ js) x
    first x e = rw e (refl, ([], tt, refl))

module _ (js : List (List ℕ)) (h : Short js) (i s : ℕ) (l : List (List ℕ)) (p : Partial js i s l) where
  -- each row has a place for each journal
  pub partial_width : (x : List ℕ) → Mem x l → length x ≡ length js
  partial_width x m = live_width js x (p.each x m)

  -- a step that reaches no live state adds none
  pub dead_step : live (step js (get_or l i []) s) ≡ false → Partial js i (suc s) l
  dead_step f =
      record {
        ascending = p.ascending;
        each = p.each;
        start = p.start;
        rows = p.rows;
        row = λ t b v. test (eqb t s) (λ e. absurd (false≢true (sym f ∙ (rw (eqb-true t s e) at v)))) (λ n. p.row t (omega (arith, eqb-false t s n)) v);
      }

  module _ (b : i < length l) (small : s < 16) (t : live (step js (get_or l i []) s) ≡ true) where
    abbrev q : List ℕ
    q = step js (get_or l i []) s

    from : LiveState js (get_or l i [])
    from = p.each (get_or l i []) (at_mem l i b)

    same : (k : ℕ) → k ≤ i → get_or (insert q l) k [] ≡ get_or l k []
    same k c = insert_keeps q l p.ascending i b (live_after js (get_or l i []) s h from t) k c

    -- a step that reaches a live state adds it
    pub live_step : Partial js i (suc s) (insert q l)
    live_step =
        record {
          ascending = insert_ascending q l p.ascending;
          each = λ x m. ⊎_elim (λ (e : x ≡ q). rw e (step_live js (get_or l i []) s from small t)) (λ (k : Mem x l). p.each x k) (insert_only q x l m);
          start = λ v. insert_old q (state js []) l (p.start v);
          rows = λ k c u d. rw (same k (omega arith)) (λ v. insert_old q (step js (get_or l k []) u) l (p.rows k c u d v));
          row = λ u c. rw (same i (omega arith)) (last u c);
        }
      where
        last : (u : ℕ) → u < suc s → live (step js (get_or l i []) u) ≡ true → Mem (step js (get_or l i []) u) (insert q l)
        last u c v =
            test (eqb u s) (λ e. rw (eqb-true u s e) (insert_here q l))
            (λ n. insert_old q (step js (get_or l i []) u) l (p.row u (omega (arith, eqb-false u s n)) v))

  -- there are never more rows than live states
  pub too_many : length l ≤ length (picture js)
  too_many = sub_length l (picture js) p.ascending (picture_ascending js) (λ x m. (picture_members js h x).1 (p.each x m))

-- a row is done after its 16 steps
pub row_done : (js : List (List ℕ)) (i : ℕ) (l : List (List ℕ)) → Partial js i 16 l → Partial js (suc i) 0 l
row_done js i l p =
    record {
      ascending = p.ascending;
      each = p.each;
      start = p.start;
      rows = λ k c t d. test (eqb k i) (λ e. rw (eqb-true k i e) (p.row t d)) (λ n. p.rows k (omega (arith, eqb-false k i n)) t d);
      row = λ t c. absurd (omega arith);
    }

-- when no row is left, the rows are the picture
pub all_done : (js : List (List ℕ)) → Short js → (i : ℕ) (l : List (List ℕ)) → length l ≤ i → Partial js i 0 l → l ≡ picture js
all_done js h i l b p = closed_picture js l h (record { ascending = p.ascending; each = p.each; start = p.start; steps = closed })
  where
    closed : (x : List ℕ) → Mem x l → (s : ℕ) → s < 16 → live (step js x s) ≡ true → Mem (step js x s) l
    closed x m s c =
        let k = mem_index x l m in
        rw (← k.2) (p.rows k.0 (omega arith) s c)
