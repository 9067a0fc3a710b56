-- Clear: what it answers and leaves. Assumes nothing.
use Rattle.std.specs.Prelude.{ℕ, not, List, [], ◌∷◌, length, replicate}
use Rattle.books.specs.Numbers.{Refusal, first, wrong_size, unless}
use Rattle.records.specs.Sound.{right_sizes}

-- what a call that may change the books answers, and the books after it
pub record After : Type 0 where
  pub number : ℕ
  pub journals : List ℕ
  pub rows : List ℕ

-- its number, the journal book and the row book, as one value
abbrev pub after : ℕ → List ℕ → List ℕ → After
after n jb rb = record { number = n; journals = jb; rows = rb }

-- Clear: 1.
abbrev pub clear_refusals : List ℕ → List ℕ → List Refusal
clear_refusals jb rb = record { holds = not (right_sizes jb rb); number = wrong_size } ∷ []

-- as many zeros
unfoldable pub zeros : List ℕ → List ℕ
zeros b = replicate (length b) 0

-- done: the new books; refused: the books as they were
abbrev pub leaves : ℕ → List ℕ → List ℕ → List ℕ → List ℕ → After
leaves n new_j new_r jb rb = record { number = n; journals = unless n new_j jb; rows = unless n new_r rb }

-- Clear leaves zeros alone in both books.
unfoldable pub clear_call : List ℕ → List ℕ → After
clear_call jb rb = leaves (first (clear_refusals jb rb)) (zeros jb) (zeros rb) jb rb
