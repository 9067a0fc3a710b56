-- How far one ascending pass over the rows has come that puts in what each row's steps lead to. Assumes nothing.
use Rattle.std.specs.Prelude.{ℕ, ◌<◌, ◌≡◌, true, get_or}
use mathlib.Core.List.{List, [], Memᴰ}
use Rattle.words.specs.Limits.{step_codes}
use Rattle.words.specs.Order.{Ascending}
use Rattle.words.specs.Places.{state, step, live, LiveState}

-- the rows l are live states, with the empty word's among them; the rows before i are done, and of row i the steps below s
pub record Partial (js : List (List ℕ)) (i s : ℕ) (l : List (List ℕ)) : Type 0 where
  pub ascending : Ascending l
  pub each : (x : List ℕ) → Memᴰ x l → LiveState js x
  pub start : live (state js []) ≡ true → Memᴰ (state js []) l
  pub rows : (k : ℕ) → k < i → (t : ℕ) → t < step_codes → live (step js (get_or l k []) t) ≡ true → Memᴰ (step js (get_or l k []) t) l
  pub row : (t : ℕ) → t < s → live (step js (get_or l i []) t) ≡ true → Memᴰ (step js (get_or l i []) t) l
