-- Clear by its cases: wrong sizes are refused, and right ones done. Assumes nothing.
use Prim.Native.Nat.{ℕ}
use mathlib.Core.Path.{◌≡◌}
use mathlib.Core.Bool.{true, false}
use mathlib.Core.List.{List}
use Rattle.records.specs.Sound.{right_sizes}
use Rattle.books.specs.Numbers.{done, wrong_size}
use Rattle.books.specs.Clear.{after, zeros, clear_call}

module _ (jb rb : List ℕ) where
  pub clear_size : right_sizes jb rb ≡ false → clear_call jb rb ≡ after wrong_size jb rb
  unfolding clear_call
  clear_size f = rw f

  pub clear_done : right_sizes jb rb ≡ true → clear_call jb rb ≡ after done (zeros jb) (zeros rb)
  unfolding clear_call
  clear_done t = rw t
