-- The numbers of document 01 that words, journals and places speak of. Assumes nothing.
use Rattle.std.specs.Prelude.{ℕ}

-- Step codes run from 0 to 15.
abbrev pub step_codes : ℕ
step_codes = 16

-- A journal has 0 to 200 steps.
abbrev pub longest_journal : ℕ
longest_journal = 200

-- There are k journals, 0 to 16.
abbrev pub most_journals : ℕ
most_journals = 16

-- The mark of a place that is lost. No journal is that long.
abbrev pub lost : ℕ
lost = 255
