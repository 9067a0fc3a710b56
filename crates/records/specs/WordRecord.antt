-- The word record: a word's length, its steps, and zeros up to 16 bytes. Assumes nothing.
use Rattle.std.specs.Prelude.{ℕ, Bool, List}
use Rattle.records.specs.Sizes.{longest_word}
use Rattle.records.specs.StepBytes.{steps_of, steps_form, step_bytes}

abbrev pub word_form : List ℕ → Bool
word_form r = steps_form longest_word r

-- the word of a record
abbrev pub word_of : List ℕ → List ℕ
word_of r = steps_of r

-- the record of a word
abbrev pub word_record : List ℕ → List ℕ
word_record w = step_bytes longest_word w
