-- The words of the list, by the relation: the count that the list goes by is the number of journals that a word is in.
-- Assumes nothing.
use Prim.Native.Nat.{ℕ}
use native.Mathlib.Omega.{arith}
use mathlib.Core.Logic.{◌↔◌}
use mathlib.Core.List.{List, Memᴰ}
use Rattle.words.specs.Listing.{list_of, Shared}
use Rattle.words.specs.Words.{count}
use Rattle.words.proofs.Dictionary.{list_members}
use Rattle.words.proofs.Falls.{count_falls}
use Rattle.words.proofs.Place.{count_counts, counts_count}
use Rattle.demands.specs.InParts.{SharedBy}

module _ (js : List (List ℕ)) (q n : ℕ) (w : List ℕ) where
  by_relation : Shared (count js) q n w → SharedBy js q n w
  by_relation s = record { word = s.word; short = s.short; holders = count js w; counted = count_counts js w; reaches = s.reaches }

  by_count : SharedBy js q n w → Shared (count js) q n w
  by_count s = record { word = s.word; short = s.short; reaches = omega (arith, s.reaches, counts_count s.counted) }

  -- the list has exactly the words that the quorum shares
  pub list_shared : Memᴰ w (list_of (count js) q n) ↔ SharedBy js q n w
  list_shared =
      let m = list_members (count js) q (count_falls js) n w in
      (λ i. by_relation (m.0 i), λ s. m.1 (by_count s))
