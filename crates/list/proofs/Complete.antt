-- The list that the call reads from is complete: the laws of any falling count, at the number of journals that a word is in. Assumes nothing.
use Prim.Native.Nat.{ℕ}
use mathlib.Core.Path.{◌≡◌}
use mathlib.Core.Logic.{◌↔◌}
use mathlib.Core.List.{List, Memᴰ}
use Rattle.list.specs.ListCall.{Asked, whole_list}
use Rattle.records.specs.JournalBook.{journals_of}
use Rattle.words.specs.Listing.{Shared}
use Rattle.words.specs.Order.{Ascending}
use Rattle.words.specs.Words.{count}
use Rattle.words.proofs.Dictionary.{list_ascending, list_members, list_unique}
use Rattle.words.proofs.Falls.{count_falls}

-- w has at most as many steps as asked for, and as many journals as the quorum hold it
abbrev pub Admitted : Asked → List ℕ → Type 0
Admitted a w = Shared (count (journals_of a.journals)) a.quorum a.length_limit w

-- every word up to the length whose count reaches the quorum, and no other
pub list_complete : (a : Asked) (w : List ℕ) → Memᴰ w (whole_list a) ↔ Admitted a w
list_complete a w =
    let js : List (List ℕ) = journals_of a.journals in
    list_members (count js) a.quorum (count_falls js) a.length_limit w

-- each once, in dictionary order
pub list_in_order : (a : Asked) → Ascending (whole_list a)
list_in_order a = list_ascending (count (journals_of a.journals)) a.quorum a.length_limit

-- and no other list is so
pub list_only : (a : Asked) (l : List (List ℕ)) → Ascending l → ((w : List ℕ) → Memᴰ w l ↔ Admitted a w) → l ≡ whole_list a
list_only a l h k =
    let js : List (List ℕ) = journals_of a.journals in
    list_unique (count js) a.quorum (count_falls js) a.length_limit l h k
