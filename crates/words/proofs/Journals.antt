-- Opening and appending leave journals: at most 200 steps each, all of them codes. Assumes nothing.
use Prim.Native.Nat.{ℕ, zero, suc, ◌+◌, ◌<◌}
use native.Mathlib.Omega.{arith}
use mathlib.Core.Path.{◌≡◌, refl, ap}
use mathlib.Core.List.{List, [], ◌∷◌}
use lib.ListN.{length, length-append}
use Rattle.words.specs.Journals.{opened, appended_at, steps_at}
use Rattle.words.specs.Words.{EachJournal, AreJournals}
use Rattle.words.proofs.Members.{snoc_steps}

-- one journal more
pub length_opened : (js : List (List ℕ)) → length (opened js) ≡ length js + 1
unfolding opened
length_opened js = length-append js ([] ∷ [])

each_opened : (js : List (List ℕ)) → EachJournal js → EachJournal (opened js)
unfolding opened
each_opened [] k = ((omega arith, tt), tt)
each_opened (j ∷ js) k = (k.0, each_opened js k.1)

-- opening leaves journals while there is room for one more
pub opened_journals : (js : List (List ℕ)) → AreJournals js → length js < 16 → AreJournals (opened js)
opened_journals js k h = record { few = omega (arith, length_opened js); each = each_opened js k.each }

-- as many journals
pub length_appended_at : (i s : ℕ) (js : List (List ℕ)) → length (appended_at i s js) ≡ length js
length_appended_at i s [] = refl
length_appended_at zero s (j ∷ js) = refl
length_appended_at (suc i) s (j ∷ js) = ap suc (length_appended_at i s js)

each_appended : (i s : ℕ) (js : List (List ℕ)) → EachJournal js → s < 16 → steps_at i js < 200 → EachJournal (appended_at i s js)
each_appended i s [] k b h = tt
each_appended zero s (j ∷ js) k b h = ((omega (arith, length-append j (s ∷ [])), snoc_steps j s k.0.1 b), k.1)
each_appended (suc i) s (j ∷ js) k b h = (k.0, each_appended i s js k.1 b h)

-- a step at the end of journal i leaves journals while there is room for it
pub appended_at_journals : (i s : ℕ) (js : List (List ℕ)) → AreJournals js → s < 16 → steps_at i js < 200 → AreJournals (appended_at i s js)
appended_at_journals i s js k b h = record { few = omega (arith, k.few, length_appended_at i s js); each = each_appended i s js k.each b h }
