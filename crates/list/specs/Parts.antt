-- Fetching the list in parts. Assumes nothing.
use Rattle.std.specs.Prelude.{ℕ, zero, suc, ◌≤◌, ◌<◌, ◌≡◌, true, false, List, [], ◌∷◌, ◌++◌, map}
use Rattle.records.specs.Sizes.{word_record_size}
use Rattle.books.specs.Numbers.{done}
use Rattle.records.specs.Bytes.{records}
use Rattle.records.specs.WordRecord.{word_of, word_record}
use Rattle.list.specs.ListCall.{Asked, Wrote, list_call}

-- the words that a call wrote, read from the first records of the output
abbrev pub words_in : Wrote → List (List ℕ)
words_in o = map word_of (records word_record_size o.answer.written o.out)

abbrev pub last_word : List (List ℕ) → List ℕ
last_word [] = []
last_word (w ∷ []) = w
last_word (w ∷ v ∷ ws) = last_word (v ∷ ws)

-- the same call for what stands after the word w, into another output: books, quorum and length unchanged
abbrev pub go_on : Asked → List ℕ → List ℕ → Asked
go_on a w out = record {
  journals = a.journals;
  rows = a.rows;
  quorum = a.quorum;
  length_limit = a.length_limit;
  after = true;
  word = word_record w;
  out = out;
}

-- The calls that fetch the list in parts, each into an output of its own: part 0 by the call a itself, each further part
-- after the last word of the part before.
unfoldable pub part_asked : Asked → (ℕ → List ℕ) → ℕ → Asked
part_asked a outs zero = a
part_asked a outs (suc i) = let b : Asked = part_asked a outs i in go_on b (last_word (words_in (list_call b))) (outs (suc i))

-- what the call for part i answers and writes
abbrev pub part : Asked → (ℕ → List ℕ) → ℕ → Wrote
part a outs i = list_call (part_asked a outs i)

-- the words of the first i parts, joined
abbrev pub joined : Asked → (ℕ → List ℕ) → ℕ → List (List ℕ)
joined a outs zero = []
joined a outs (suc i) = joined a outs i ++ words_in (part a outs i)

-- Parts 0 to `last` are all of them: each call is done, and a further word remains after each part but the last.
pub record Fetched (a : Asked) (outs : ℕ → List ℕ) (last : ℕ) : Type 0 where
  pub all_done : (i : ℕ) → i ≤ last → (part a outs i).answer.number ≡ done
  pub go_on_is : (i : ℕ) → i < last → (part a outs i).answer.more ≡ true
  pub ended : (part a outs last).answer.more ≡ false
