-- An entry is taken whole or not at all: a refused one leaves both books. Assumes nothing.
use Prim.Native.Nat.{ℕ}
use mathlib.Core.Path.{◌≡◌, refl}
use mathlib.Core.Bool.{Bool, true, false, cond}
use mathlib.Core.List.{List}
use lib.ListN.{length}
use lib.Dec.{eqb}
use Rattle.std.specs.Prelude.{Option, Some, None}
use Rattle.records.specs.JournalBook.{journals_of}
use Rattle.books.specs.Numbers.{first}
use Rattle.books.specs.Clear.{After, after}
use Rattle.books.specs.OpenJournals.{open_journals_refusals}
use Rattle.books.specs.Runs.{opens, appends}
use Rattle.books.proofs.Refusals.{refused, call_refused}
use Rattle.entries.specs.Entry.{entry_of}
use Rattle.entries.specs.declared.entry.Entry.{Entry}
use Rattle.entries.specs.declared.entry.Entry.TheVariants.{Append, Open, OpenAppend}
use Rattle.feed.specs.Entry.{open_append, open_append_whole, enter, entry_call}

-- refused, it leaves the books jb and rb
abbrev Whole : List ℕ → List ℕ → After → Type 0
Whole jb rb a = (a.number ≡ 0 → ⊥) → (a.journals ≡ jb) × (a.rows ≡ rb)

either : (jb rb : List ℕ) (b : Bool) (x y : After) → Whole jb rb x → Whole jb rb y → Whole jb rb (cond b x y)
either jb rb true x y p q = p
either jb rb false x y p q = q

module _ (jb rb : List ℕ) where
  open_append_whole_lem : (s : ℕ) → Whole jb rb (open_append_whole jb rb s)
  unfolding open_append_whole
  open_append_whole_lem s h =
      let a : After = open_append jb rb s in
      (refused a.number a.journals jb h, refused a.number a.rows rb h)

  enter_whole : (e : Option Entry) → Whole jb rb (enter e jb rb)
  unfolding enter
  enter_whole None h = (refl, refl)
  enter_whole (Some (Append s)) h = call_refused (appends s) jb rb h
  enter_whole (Some Open) h = call_refused opens jb rb h
  enter_whole (Some (OpenAppend s)) h = open_append_whole_lem s h

  -- a refused entry leaves both books
  pub entry_whole : (n s : ℕ) → ((entry_call jb rb n s).number ≡ 0 → ⊥) → ((entry_call jb rb n s).journals ≡ jb) × ((entry_call jb rb n s).rows ≡ rb)
  unfolding entry_call
  entry_whole n s =
      let m : ℕ = first (open_journals_refusals jb) in
      let e : Option Entry = entry_of (length (journals_of jb)) n s in
      either jb rb (eqb m 0) (enter e jb rb) (after m jb rb) (enter_whole e) (λ h. (refl, refl))
