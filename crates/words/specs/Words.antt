-- Words, journals, "in" and the count. A word and a journal are rows of step codes, the first step first. Assumes nothing.
use Rattle.std.specs.Prelude.{ℕ, zero, suc, ◌≤◌, ◌<◌, Bool, true, false, cond, length, eqb}
use mathlib.Core.List.{List, [], ◌∷◌, Sublistᴰ}
use Rattle.words.specs.Limits.{step_codes, longest_journal, most_journals}

-- A word is a row of steps, of any finite length; each step is a code below 16.
abbrev pub IsWord : List ℕ → Type 0
IsWord [] = Unit {0}
IsWord (s ∷ w) = (s < step_codes) × IsWord w

-- A journal has 0 to 200 steps.
abbrev pub IsJournal : List ℕ → Type 0
IsJournal j = (length j ≤ longest_journal) × IsWord j

abbrev pub EachJournal : List (List ℕ) → Type 0
EachJournal [] = Unit {0}
EachJournal (j ∷ js) = IsJournal j × EachJournal js

-- There are k journals, 0 to 16.
pub record AreJournals (js : List (List ℕ)) : Type 0 where
  pub few : length js ≤ most_journals
  pub each : EachJournal js

-- A word is in a journal when striking out some of its steps, or none, leaves the word.
abbrev pub In : List ℕ → List ℕ → Type 0
In w j = Sublistᴰ w j

-- The same as a test. The empty word passes; any other has its first step looked for, and its rest behind that.
abbrev pub is_in : List ℕ → List ℕ → Bool
is_in [] j = true
is_in (s ∷ w) [] = false
is_in (s ∷ w) (x ∷ j) = cond (eqb x s) (is_in w j) (is_in (s ∷ w) j)

-- The count of a word: how many journals have it in them. Two equal journals count twice.
abbrev pub count : List (List ℕ) → List ℕ → ℕ
count [] w = zero
count (j ∷ js) w = cond (is_in w j) (suc (count js w)) (count js w)

-- The same as a relation: n of the journals have the word in them.
pub data Counts (w : List ℕ) : List (List ℕ) → ℕ → Type 0 where
  none_left : Counts w [] zero
  one_more : {j : List ℕ} {js : List (List ℕ)} {n : ℕ} → In w j → Counts w js n → Counts w (j ∷ js) (suc n)
  no_more : {j : List ℕ} {js : List (List ℕ)} {n : ℕ} → (In w j → ⊥) → Counts w js n → Counts w (j ∷ js) n
