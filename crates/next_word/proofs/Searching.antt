-- Where the list of a search goes on from a word, by the word that it climbs to, if there is one. Assumes nothing.
use Prim.Native.Nat.{ℕ, ◌≤◌}
use native.Mathlib.Omega.{arith}
use mathlib.Core.Path.{◌≡◌, sym, ap, ◌∙◌}
use mathlib.Core.Bool.{true, false}
use mathlib.Core.List.{List, [], ◌∷◌}
use lib.ListN.{length, take}
use lib.Dec.{leb}
use borrow.Author.Tests.{leb-true, leb-false}
use Rattle.words.specs.Listing.{past}
use Rattle.words.specs.Words.{IsWord}
use Rattle.next_word.specs.Searching.{words_of}
use Rattle.next_word.specs.Next.{climbed, from_on, from_there, table_of}
use Rattle.next_word.specs.declared.search.Search.{Search}
use Rattle.next_word.proofs.Climb.{climb_skips, here}
use Rattle.next_word.proofs.WordMoves.{climbed_past}

module _ (s : Search) where
  module _ (w : List ℕ) (ds : List (List ℕ)) (to : ds ≡ climbed w) where
    from_to : from_there (climbed w) (words_of s) ≡ from_there ds (words_of s)
    from_to = ap (λ (es : List (List ℕ)). from_there es (words_of s)) (sym to)

    -- from a word below the quorum on, it goes on from where that climbs to
    pub below : false ≡ leb s.quorum (table_of s.rows.now w) → from_on w (words_of s) ≡ from_there ds (words_of s)
    below f =
        let low = leb-false s.quorum (table_of s.rows.now w) (sym f) in
        climb_skips (table_of s.rows.now) s.falls s.quorum s.limit w (λ h. omega arith) ∙ from_to

    -- and after a word that has no room for a further step too
    pub behind : s.limit ≤ length w → past w (words_of s) ≡ from_there ds (words_of s)
    behind h = climbed_past (table_of s.rows.now) s.falls s.quorum s.limit w ds h to

  -- a word that reaches the quorum is the first from itself on
  pub itself : (w : List ℕ) → IsWord w → length w ≤ s.limit → true ≡ leb s.quorum (table_of s.rows.now w) → take 1 (from_on w (words_of s)) ≡ w ∷ []
  itself w k h t = here (table_of s.rows.now) s.falls s.quorum s.limit w k h (leb-true s.quorum (table_of s.rows.now w) (sym t))
