-- A table of next places, and the journals whose table it is. Assumes nothing.
use Rattle.std.specs.Prelude.{◌≡◌, List, ℕ, length}
use Rattle.words.specs.Words.{AreJournals}
use Rattle.states.specs.Nexts.{Tabled}
use Rattle.states.specs.declared.nexts.Nexts.{Nexts}

-- there are as many journals as it says, and its entries are theirs
pub record TableOf (js : List (List ℕ)) (nexts : Nexts) : Type 0 where
  pub many : nexts.k ≡ length js
  pub entries : Tabled js nexts.entries

-- P holds of the journals whose table this is, whichever they are
abbrev pub AnyTabled : Nexts → (List (List ℕ) → Type 0) → Type 0
AnyTabled nexts P = (js : List (List ℕ)) → AreJournals js → TableOf js nexts → P js
