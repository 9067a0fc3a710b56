-- One entry, once the number of open journals is told: refused as that is, or what the entry asks for. Assumes nothing.
use Prim.Native.Nat.{ℕ, ◌<◌}
use native.Mathlib.Omega.{arith}
use mathlib.Core.Path.{◌≡◌, sym, ap, ◌∙◌}
use mathlib.Core.List.{List}
use borrow.Author.Tests.{eq-eqb, ne_eqb}
use Rattle.std.specs.Prelude.{Option}
use Rattle.books.specs.Numbers.{first}
use Rattle.books.specs.OpenJournals.{OpenJournals, open_journals_refusals, open_journals_call}
use Rattle.books.specs.Clear.{after}
use Rattle.books.proofs.OpenJournalsCases.{open_told, open_few}
use Rattle.entries.specs.Entry.{entry_of}
use Rattle.entries.specs.declared.entry.Entry.{Entry}
use Rattle.feed.specs.Entry.{enter, entry_call}

module _ (jb : List ℕ) (o : OpenJournals) (e : o ≡ open_journals_call jb) where
  same_number : o.number ≡ first (open_journals_refusals jb)
  unfolding open_journals_call
  same_number = ap (λ (a : OpenJournals). a.number) e

  -- the journal book is refused
  pub entry_refused : (o.number ≡ 0 → ⊥) → (rb : List ℕ) (n s : ℕ) → after o.number jb rb ≡ entry_call jb rb n s
  unfolding entry_call
  entry_refused h rb n s =
      rw (ne_eqb (first (open_journals_refusals jb)) 0 (λ z. h (same_number ∙ z))) (ap (λ (k : ℕ). after k jb rb) same_number)

  -- a journal number has room for every journal
  pub byte_enough : o.journals < 256
  byte_enough = omega (arith, ap (λ (a : OpenJournals). a.journals) e, open_few jb)

  -- what the entry asks for is done
  pub entered : o.number ≡ 0 → (a : Option Entry) (rb : List ℕ) (n s : ℕ) → a ≡ entry_of o.journals n s → enter a jb rb ≡ entry_call jb rb n s
  unfolding entry_call
  entered z a rb n s f =
      let told = ap (λ (a : OpenJournals). a.journals) e ∙ open_told jb (sym (ap (λ (a : OpenJournals). a.number) e) ∙ z) in
      rw (eq-eqb (first (open_journals_refusals jb)) 0 (sym same_number ∙ z)) (ap (λ (x : Option Entry). enter x jb rb) (f ∙ ap (λ (k : ℕ). entry_of k n s) told))
