-- What demand 3 says of the list that is fetched in parts. Assumes nothing.
use Rattle.std.specs.Prelude.{ℕ, suc, ◌≤◌, ◌≡◌, ◌↔◌, length}
use mathlib.Core.List.{List, Memᴰ}
use Rattle.words.specs.Listing.{list_of}
use Rattle.words.specs.Order.{Ascending}
use Rattle.words.specs.Words.{IsWord, count, Counts}
use Rattle.list.specs.ListCall.{Asked}
use Rattle.list.specs.Parts.{joined, Fetched}

-- w is a word of at most n steps, and as many journals as the quorum, or more, have it in them
pub record SharedBy (js : List (List ℕ)) (q n : ℕ) (w : List ℕ) : Type 0 where
  pub word : IsWord w
  pub short : length w ≤ n
  pub holders : ℕ
  pub counted : Counts w js holders
  pub reaches : q ≤ holders

-- Fetching from the call a on, into the outputs, ends after the part `last` with no call refused, and the words of all parts,
-- joined, are those that the quorum shares, each once, in dictionary order: the list.
pub record InParts (js : List (List ℕ)) (q n : ℕ) (a : Asked) (outs : ℕ → List ℕ) : Type 0 where
  pub last : ℕ
  pub fetched : Fetched a outs last
  pub members : (w : List ℕ) → Memᴰ w (joined a outs (suc last)) ↔ SharedBy js q n w
  pub in_order : Ascending (joined a outs (suc last))
  pub is_list : joined a outs (suc last) ≡ list_of (count js) q n
