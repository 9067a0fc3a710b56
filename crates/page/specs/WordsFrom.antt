-- What a page is written of. Assumes nothing.
use Rattle.std.specs.Prelude.{ℕ, List, Option, option_to_list}
use Rattle.next_word.specs.Next.{from_there}
use Rattle.next_word.specs.Searching.{words_of}
use Rattle.next_word.specs.declared.search.Search.{Search}

-- the words of the list from the first one on, if there is one
abbrev pub words_from : Search → Option (List ℕ) → List (List ℕ)
words_from s first = from_there (option_to_list first) (words_of s)
