-- The word that the list goes on after. Assumes nothing.
use Rattle.std.specs.Prelude.{ℕ, ◌≤◌, ◌≡◌, Bool, true, cond, List, length, get_or, Option, None, Some}
use Rattle.words.specs.Listing.{past}
use Rattle.records.specs.WordRecord.{word_form, word_of}

-- for "after", the word record is one, of right form and of at most n steps
abbrev pub WordIfAfter : Bool → ℕ → List ℕ → Type 0
WordIfAfter after n r = after ≡ true → (length r ≡ 16) × (word_form r ≡ true) × (get_or r 0 0 ≤ n)

-- for "after", the word of the word record
abbrev pub word_if : Bool → List ℕ → Option (List ℕ)
word_if after r = cond after (Some (word_of r)) None

-- a list from there on: from the start, or what stands after the word, which need not be in the list itself
abbrev pub due_from : List (List ℕ) → Option (List ℕ) → List (List ℕ)
due_from l None = l
due_from l (Some w) = past w l
