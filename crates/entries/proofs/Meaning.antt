-- What an entry means, by its cases: a step that is asked for is a code and has a journal to go to, an entry that is taken meets none
-- of the conditions, and it leads from journals to journals of at most 1,000 live states. Assumes nothing.
use Prim.Native.Nat.{ℕ, ◌+◌, ◌≤◌, ◌<◌}
use native.Mathlib.Omega.{arith}
use mathlib.Core.Path.{◌≡◌, refl, ap, ◌∙◌}
use mathlib.Core.Bool.{Bool, true, false, cond, ◌&&◌}
use mathlib.Core.List.{List, [], ◌∷◌}
use lib.ListN.{length}
use lib.Dec.{eqb, ltb}
use lib.Seq.{get_or-append-add}
use borrow.Author.Tests.{eqb-true, ltb-true, ltb-false, leb-false}
use Rattle.records.proofs.Tests.{both}
use Rattle.std.specs.Prelude.{Option, Some, None}
use Rattle.words.specs.Journals.{opened, appended, last_of, steps_at}
use Rattle.words.specs.Picture.{picture}
use Rattle.words.specs.Words.{AreJournals}
use Rattle.words.proofs.Journals.{length_opened, opened_journals, appended_at_journals}
use Rattle.entries.specs.Entry.{entry_of}
use Rattle.entries.specs.Meaning.{means, is_broken, none_free, last_full, rows_passed, entry_number}
use Rattle.entries.specs.declared.entry.Entry.{Entry}
use Rattle.entries.specs.declared.entry.Entry.TheVariants.{Append, Open, OpenAppend}

-- a step is a code, and it goes to a journal that is open
abbrev pub Asks : List (List ℕ) → Option Entry → Type 0
Asks js None = Unit {0}
Asks js (Some (Append s)) = (s < 16) × (1 ≤ length js)
Asks js (Some Open) = Unit {0}
Asks js (Some (OpenAppend s)) = s < 16

module _ (js : List (List ℕ)) where
  either : (b : Bool) (x y : Option Entry) → (b ≡ true → Asks js x) → (b ≡ false → Asks js y) → Asks js (cond b x y)
  either true x y p q = p refl
  either false x y p q = q refl

  -- what an entry's two bytes ask for
  pub asks : (n s : ℕ) → Asks js (entry_of (length js) n s)
  unfolding entry_of
  asks n s =
      let code : Bool = ltb s 16 in
      let last : Bool = eqb (n + 1) (length js) && code in
      let only : Option Entry = cond (eqb s 255) (Some Open) None in
      either (eqb n (length js)) (cond code (Some (OpenAppend s)) only) (cond last (Some (Append s)) None)
      (λ t. either code (Some (OpenAppend s)) only (λ c. ltb-true s 16 c) (λ f. either (eqb s 255) (Some Open) None (λ o. tt) (λ w. tt)))
      (λ f. either last (Some (Append s)) None (λ (l : last ≡ true). there l) (λ w. tt))
    where
      there : (eqb (n + 1) (length js) && ltb s 16) ≡ true → (s < 16) × (1 ≤ length js)
      there l =
          let p = both (eqb (n + 1) (length js)) (ltb s 16) l in
          let e = eqb-true (n + 1) (length js) p.0 in
          (ltb-true s 16 p.1, omega arith)

-- a journal just opened has no step
pub last_opened : (js : List (List ℕ)) → steps_at (last_of (opened js)) (opened js) ≡ 0
unfolding opened
last_opened js =
    let l : last_of (opened js) ≡ length js + 0 = omega (arith, length_opened js) in
    ap (λ (i : ℕ). steps_at i (opened js)) l ∙ ap length (get_or-append-add js ([] ∷ []) 0 [])

-- a number is 0 where no condition holds
none_holds : (a b c d : Bool) → cond {A = ℕ} a 11 (cond b 7 (cond c 5 (cond d 6 0))) ≡ 0 → (a ≡ false) × (b ≡ false) × (c ≡ false) × (d ≡ false)
none_holds true b c d e = absurd (omega arith)
none_holds false true c d e = absurd (omega arith)
none_holds false false true d e = absurd (omega arith)
none_holds false false false true e = absurd (omega arith)
none_holds false false false false e = (refl, refl, refl, refl)

module _ (js : List (List ℕ)) where
  taken : (e : Option Entry) → entry_number e js ≡ 0 → (is_broken e ≡ false) × (none_free e js ≡ false) × (last_full e js ≡ false) × (rows_passed e js ≡ false)
  unfolding entry_number
  taken e z = none_holds (is_broken e) (none_free e js) (last_full e js) (rows_passed e js) z

  -- after an entry that is taken there are at most 1,000 live states
  pub means_fits : (e : Option Entry) → entry_number e js ≡ 0 → length (picture (means e js)) ≤ 1000
  means_fits e z = ltb-false 1000 (length (picture (means e js))) (taken e z).3

  -- and they are those of journals
  pub means_journals : AreJournals js → (e : Option Entry) → Asks js e → entry_number e js ≡ 0 → AreJournals (means e js)
  unfolding appended
  means_journals k None a z = k
  means_journals k (Some (Append s)) a z = appended_at_journals (last_of js) s js k a.0 (leb-false 200 (steps_at (last_of js) js) (taken (Some (Append s)) z).2)
  means_journals k (Some Open) a z = opened_journals js k (leb-false 16 (length js) (taken (Some Open) z).1)
  means_journals k (Some (OpenAppend s)) a z =
      let o = opened_journals js k (leb-false 16 (length js) (taken (Some (OpenAppend s)) z).1) in
      appended_at_journals (last_of (opened js)) s (opened js) o a (omega (arith, last_opened js))
