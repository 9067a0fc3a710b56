-- What the list call takes, by what it is given alone. Assumes nothing.
use Rattle.std.specs.Prelude.{ℕ, ◌%◌, ◌≤◌, ◌≡◌, true, List, length}
use Rattle.records.specs.Sizes.{word_record_size, longest_word}
use Rattle.records.specs.Sound.{BooksOf}
use Rattle.records.specs.WordRecord.{word_form, word_of}
use Rattle.list.specs.ListCall.{Asked, largest_output}

-- an output of whole records: one at least, and 65,536 bytes at most
pub record AllowedOutput (out : List ℕ) : Type 0 where
  pub whole : length out % word_record_size ≡ 0
  pub least : word_record_size ≤ length out
  pub most : length out ≤ largest_output

-- The books are sound and those of the journals js, and everything else that is given is allowed.
pub record Taken (js : List (List ℕ)) (a : Asked) : Type 0 where
  pub books : BooksOf js a.journals a.rows
  pub quorum_least : 1 ≤ a.quorum
  pub quorum_most : a.quorum ≤ length js
  pub limit : a.length_limit ≤ longest_word
  pub word_size : length a.word ≡ word_record_size
  pub word : a.after ≡ true → (word_form a.word ≡ true) × (length (word_of a.word) ≤ a.length_limit)
  pub output : AllowedOutput a.out
