-- What keys are, and a key's rank among them. Assumes nothing.
use Rattle.std.specs.Prelude.{ℕ, zero, suc, ◌≡◌, cond, length}
use mathlib.Core.List.{List, [], ◌∷◌, Memᴰ}
use Rattle.words.specs.Limits.{most_journals}
use Rattle.words.specs.Order.{before, Ascending}

-- they ascend, and each has a place for each journal that there can be
pub record AreKeys (l : List (List ℕ)) : Type 0 where
  pub ascending : Ascending l
  pub wide : (a : List ℕ) → Memᴰ a l → length a ≡ most_journals

-- how many keys at the front come before the key
unfoldable pub rank_of : List ℕ → List (List ℕ) → ℕ
rank_of key [] = zero
rank_of key (x ∷ l) = cond (before x key) (suc (rank_of key l)) zero
