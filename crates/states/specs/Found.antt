-- What the search for the live states has found on its way, and at its end. Assumes nothing.
use Rattle.std.specs.Prelude.{ℕ, ◌≤◌, ◌<◌, ◌≡◌, List, map, length, take, Option, MatchOption}
use Rattle.words.specs.Picture.{picture}
use Rattle.words.specs.Sweep.{Partial}
use Rattle.records.specs.Sizes.{most_rows}
use Rattle.records.specs.RowBook.{place_bytes}

-- the states that keys stand for, of k places each
abbrev pub states_of : ℕ → List (List ℕ) → List (List ℕ)
states_of k keys = map (take k) keys

-- the keys are those of live states; what the rows before i lead to is among them, and what row i leads to by the steps below s
pub record Sweeping (js : List (List ℕ)) (i s : ℕ) (keys : List (List ℕ)) : Type 0 where
  pub room : length keys ≤ most_rows
  pub partial : Partial js i s (states_of (length js) keys)
  pub padded : keys ≡ map place_bytes (states_of (length js) keys)

-- after the rows before i: still sweeping, or there are more live states than there is room for
abbrev pub Swept : List (List ℕ) → ℕ → Option (Unit {0}) → List (List ℕ) → Type 0
Swept js i result keys = MatchOption result (most_rows < length (picture js)) (λ _. Sweeping js i 0 keys)

-- these keys are those of the picture's rows
pub record RowKeys (js keys : List (List ℕ)) : Type 0 where
  pub room : length (picture js) ≤ most_rows
  pub all : keys ≡ map place_bytes (picture js)

-- the keys of the picture's rows were found, or there are more than there is room for
abbrev pub Found : List (List ℕ) → Option (Unit {0}) → List (List ℕ) → Type 0
Found js result keys = MatchOption result (most_rows < length (picture js)) (λ _. RowKeys js keys)
