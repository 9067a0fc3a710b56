-- The entry at a byte of the entries, by what is read there and what became of it. Assumes nothing.
use Prim.Native.Nat.{ℕ, zero, suc}
use mathlib.Core.Path.{◌≡◌, refl, sym, ap, ◌∙◌}
use mathlib.Core.List.{List}
use Rattle.std.specs.Prelude.{Ok, Err}
use Rattle.books.specs.Clear.{After, after}
use Rattle.feed.specs.Entry.{entry_call, take_call}
use Rattle.entries.specs.Reading.{read_at}
use Rattle.feed.specs.Take.{Next, Refused, took, came_of, take_read, take_at}
use Rattle.entries.specs.declared.read.Read.{Read}
use Rattle.entries.specs.declared.read.Read.TheVariants.{Entry, Lone}

came_refused : (m next : ℕ) → (m ≡ 0 → ⊥) → Refused m ≡ came_of m next
came_refused zero next h = absurd (h refl)
came_refused (suc m) next h = refl

module _ (jb rb es : List ℕ) (at : ℕ) where
  -- what is taken is what was read
  pub take_read_is : (r : Read) → r ≡ read_at es at → take_read jb rb r ≡ take_at jb rb es at
  unfolding take_at
  take_read_is r e = ap (take_read jb rb) e

  module _ (n s next : ℕ) (r : Entry n s next ≡ read_at es at) (m : ℕ) (nj nr : List ℕ) (e : after m nj nr ≡ entry_call jb rb n s) where
    came : took (came_of m next) nj nr ≡ take_at jb rb es at
    came = ap (λ (a : After). took (came_of a.number next) a.journals a.rows) e ∙ take_read_is (Entry n s next) r

    pub take_refused : (m ≡ 0 → ⊥) → took (Refused m) nj nr ≡ take_at jb rb es at
    take_refused h = rw (came_refused m next h) came

    pub take_done : m ≡ 0 → took (Next next) nj nr ≡ take_at jb rb es at
    take_done z = ap (λ (k : ℕ). took (came_of k next) nj nr) (sym z) ∙ came

  -- so is what the code takes: it is handed what a reader gives there
  pub take_call_entry : (n s next : ℕ) → Entry n s next ≡ read_at es at
      → took (came_of (take_call jb rb (Ok (n, s))).number next) (take_call jb rb (Ok (n, s))).journals (take_call jb rb (Ok (n, s))).rows ≡ take_at jb rb es at
  take_call_entry n s next r = take_read_is (Entry n s next) r

  pub take_call_lone : Lone ≡ read_at es at
      → took (Refused (take_call jb rb (Err (record {}))).number) (take_call jb rb (Err (record {}))).journals (take_call jb rb (Err (record {}))).rows ≡ take_at jb rb es at
  take_call_lone r = take_read_is Lone r
