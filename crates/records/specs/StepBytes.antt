-- A row of steps as bytes: its length, the steps, and zeros behind. A word record is such bytes, and so is a journal record behind its first byte.
-- Assumes nothing.
use Rattle.std.specs.Prelude.{ℕ, ◌+◌, ◌-◌, Bool, ◌&&◌, List, ◌∷◌, ◌++◌, length, take, drop, get_or, replicate, leb}
use Rattle.words.specs.Limits.{step_codes}
use Rattle.records.specs.Bytes.{all_below, all_zero}

-- the steps that the bytes hold, step 0 among them
abbrev pub steps_of : List ℕ → List ℕ
steps_of b = take (get_or b 0 0) (drop 1 b)

-- the length is at most what is allowed, each step is a code, and the bytes beyond the length are zero
abbrev pub steps_form : ℕ → List ℕ → Bool
steps_form most b = leb (get_or b 0 0) most && (all_below step_codes (steps_of b) && all_zero (drop (1 + get_or b 0 0) b))

-- the bytes of the steps w, with room for that many
unfoldable pub step_bytes : ℕ → List ℕ → List ℕ
step_bytes room w = length w ∷ w ++ replicate (room - length w) 0
