-- What a search goes through. Assumes nothing.
use Rattle.std.specs.Prelude.{ℕ, List}
use Rattle.words.specs.Listing.{list_of}
use Rattle.next_word.specs.Next.{table_of}
use Rattle.next_word.specs.declared.search.Search.{Search}

-- the list that a search goes through: the words that the quorum admits, up to the length, in dictionary order
abbrev pub words_of : Search → List (List ℕ)
words_of s = list_of (table_of s.rows.now) s.quorum s.limit
