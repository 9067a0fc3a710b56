-- The ask by its cases: a length above 15, a quorum below 1 or above k, an ask; and the file's: empty, of two bytes, of any other size, and three bytes of it are enough to tell. Assumes nothing.
use Prim.Native.Nat.{ℕ, ◌≤◌, ◌<◌}
use native.Mathlib.Omega.{arith}
use mathlib.Core.Path.{◌≡◌, refl, sym, ◌∙◌}
use mathlib.Core.List.{List, [], ◌∷◌}
use lib.ListN.{length, get_or, take}
use borrow.Author.Tests.{eq-eqb, ne_eqb, lt-ltb, le-ltb}
use Rattle.books.specs.Numbers.{done, wrong_quorum, wrong_length, wrong_ask}
use Rattle.ask.specs.Ask.{default_length, answer, ask_of, ask_call}

module _ (k quorum limit : ℕ) where
  pub too_long : 15 < limit → ask_of k quorum limit ≡ answer wrong_length quorum limit
  unfolding ask_of
  too_long h = rw (lt-ltb 15 limit h)

  module _ (l : limit ≤ 15) where
    pub quorum_low : quorum < 1 → ask_of k quorum limit ≡ answer wrong_quorum quorum limit
    unfolding ask_of
    quorum_low h = rw (le-ltb 15 limit l, lt-ltb quorum 1 h)

    pub quorum_high : 1 ≤ quorum → k < quorum → ask_of k quorum limit ≡ answer wrong_quorum quorum limit
    unfolding ask_of
    quorum_high m h = rw (le-ltb 15 limit l, le-ltb quorum 1 m, lt-ltb k quorum h)

    pub asked : 1 ≤ quorum → quorum ≤ k → ask_of k quorum limit ≡ answer done quorum limit
    unfolding ask_of
    asked m h = rw (le-ltb 15 limit l, le-ltb quorum 1 m, le-ltb k quorum h)

module _ (k : ℕ) (ask : List ℕ) where
  pub empty_file : length ask ≡ 0 → ask_call k ask ≡ ask_of k k default_length
  unfolding ask_of ask_call
  empty_file e = rw (eq-eqb (length ask) 0 e)

  pub two_bytes_is : length ask ≡ 2 → ask_call k ask ≡ ask_of k (get_or ask 0 0) (get_or ask 1 0)
  unfolding ask_of ask_call
  two_bytes_is e = rw e

  pub wrong_file : (length ask ≡ 0 → ⊥) → (length ask ≡ 2 → ⊥) → ask_call k ask ≡ answer wrong_ask 0 0
  unfolding ask_call
  wrong_file n m = rw (ne_eqb (length ask) 0 n, ne_eqb (length ask) 2 m)

-- an ask of three bytes or more is one of the first three
pub ask_enough : (k : ℕ) (ask : List ℕ) → ask_call k (take 3 ask) ≡ ask_call k ask
ask_enough k [] = refl
ask_enough k (a ∷ []) = refl
ask_enough k (a ∷ b ∷ []) = refl
ask_enough k (a ∷ b ∷ d ∷ ask) =
    wrong_file k (take 3 (a ∷ b ∷ d ∷ ask)) (λ e. omega arith) (λ e. omega arith)
    ∙ sym (wrong_file k (a ∷ b ∷ d ∷ ask) (λ e. omega arith) (λ e. omega arith))
