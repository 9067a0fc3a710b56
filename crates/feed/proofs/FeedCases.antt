-- A row of entries is what is read in it taken one by one, and one entry more by what came of it at its byte: past one that is
-- taken, at a refused one, and at the end. Assumes nothing.
use Prim.Native.Nat.{ℕ, zero, suc, ◌+◌, ◌≤◌, ◌<◌}
use native.Mathlib.Omega.{arith}
use native.Mathlib.Numerals.{add-one}
use mathlib.Core.Path.{◌≡◌, refl, sym, ap, subst, ◌∙◌}
use mathlib.Core.Bool.{cond}
use mathlib.Core.List.{List, [], ◌∷◌}
use lib.ListN.{length, drop}
use lib.Dec.{eqb}
use borrow.Author.Tests.{eq-eqb, ne_eqb}
use Rattle.std.specs.Prelude.{Result, Ok, Err}
use Rattle.books.specs.Clear.{After}
use Rattle.entries.specs.Reading.{read_at, entries_in, entries_from}
use Rattle.entries.specs.declared.read.Read.{Read}
use Rattle.entries.specs.declared.read.Read.TheVariants.{Entry, Lone, End}
use Rattle.entries.specs.declared.reader.LoneByte.{LoneByte}
use Rattle.entries.proofs.Reading.{Stands, read_stands}
use Rattle.feed.specs.Entry.{AfterFeeding, entry_call, feed_from, take_call}
use Rattle.feed.specs.Take.{Taken, Next, Refused, All, AfterTaking, took, came_of, take_read, take_at}
use Rattle.feed.proofs.Entries.{entry_whole}

-- what ends a row of entries
abbrev pub ended : ℕ → ℕ → List ℕ → List ℕ → AfterFeeding
ended n i jb rb = record { number = n; taken = i; journals = jb; rows = rb }

-- what was read, taken one by one
abbrev pub take_from : ℕ → List ℕ → List ℕ → List (Result (ℕ × ℕ) LoneByte) → AfterFeeding
take_from i jb rb [] = ended 0 i jb rb
take_from i jb rb (r ∷ rest) =
    let a : After = take_call jb rb r in
    cond (eqb a.number 0) (take_from (suc i) a.journals a.rows rest) (ended a.number i jb rb)

-- is a row of entries
pub feeds : (i : ℕ) (jb rb es : List ℕ) → feed_from i jb rb es ≡ take_from i jb rb (entries_in es)
unfolding feed_from
feeds i jb rb [] = refl
feeds i jb rb (n ∷ []) = refl
feeds i jb rb (n ∷ s ∷ rest) =
    let a : After = take_call jb rb (Ok (n, s)) in
    ap (λ (on : AfterFeeding). cond (eqb a.number 0) on (ended a.number i jb rb)) (feeds (suc i) a.journals a.rows rest)

-- no more is read than there are bytes
pub few_in : (es : List ℕ) → length (entries_in es) ≤ length es
few_in [] = omega arith
few_in (n ∷ []) = omega arith
few_in (n ∷ s ∷ rest) = omega (arith, few_in rest)

take_whole : (jb rb : List ℕ) (r : Result (ℕ × ℕ) LoneByte) → ((take_call jb rb r).number ≡ 0 → ⊥) → ((take_call jb rb r).journals ≡ jb) × ((take_call jb rb r).rows ≡ rb)
take_whole jb rb (Ok e) h = entry_whole jb rb e.0 e.1 h
take_whole jb rb (Err e) h = (refl, refl)

-- what is refused ends it, and leaves the books
pub taken_refused : (i : ℕ) (jb rb : List ℕ) (r : Result (ℕ × ℕ) LoneByte) (rest : List (Result (ℕ × ℕ) LoneByte)) → ((take_call jb rb r).number ≡ 0 → ⊥)
    → take_from i jb rb (r ∷ rest) ≡ ended (take_call jb rb r).number i (take_call jb rb r).journals (take_call jb rb r).rows
taken_refused i jb rb r rest h = let w = take_whole jb rb r h in rw (ne_eqb (take_call jb rb r).number 0 h, w.0, w.1)

-- where the feeding goes by what came of an entry: on behind it, or to its end
abbrev pub Leads : ℕ → List ℕ → ℕ → AfterFeeding → Taken → List ℕ → List ℕ → Type 0
Leads i es at f (Next next) jb rb = (at < next) × (next ≤ length es) × (f ≡ feed_from (i + 1) jb rb (drop next es))
Leads i es at f (Refused n) jb rb = ended n i jb rb ≡ f
Leads i es at f All jb rb = ended 0 i jb rb ≡ f

module _ (i : ℕ) (jb rb : List ℕ) where
  none_left : feed_from i jb rb [] ≡ ended 0 i jb rb
  unfolding feed_from
  none_left = refl

  lone_refused : (n : ℕ) → feed_from i jb rb (n ∷ []) ≡ ended 11 i jb rb
  unfolding feed_from
  lone_refused n = refl

  module _ (n s : ℕ) (rest : List ℕ) where
    entry_on : (entry_call jb rb n s).number ≡ 0 → feed_from i jb rb (n ∷ s ∷ rest) ≡ feed_from (i + 1) (entry_call jb rb n s).journals (entry_call jb rb n s).rows rest
    unfolding feed_from
    entry_on z = rw (eq-eqb (entry_call jb rb n s).number 0 z, add-one)

    entry_refused : ((entry_call jb rb n s).number ≡ 0 → ⊥)
        → feed_from i jb rb (n ∷ s ∷ rest) ≡ ended (entry_call jb rb n s).number i (entry_call jb rb n s).journals (entry_call jb rb n s).rows
    entry_refused h = feeds i jb rb (n ∷ s ∷ rest) ∙ taken_refused i jb rb (Ok (n, s)) (entries_in rest) h

  module _ (es : List ℕ) (at : ℕ) where
    entry_leads : (n s next : ℕ) → Stands es at (Entry n s next) → (m : ℕ) → m ≡ (entry_call jb rb n s).number
        → Leads i es at (feed_from i jb rb (drop at es)) (came_of m next) (entry_call jb rb n s).journals (entry_call jb rb n s).rows
    entry_leads n s next w zero z = (w.0, w.1, ap (feed_from i jb rb) w.2 ∙ entry_on n s _ (sym z))
    entry_leads n s next w (suc m) z =
        ap (λ (k : ℕ). ended k i (entry_call jb rb n s).journals (entry_call jb rb n s).rows) z
        ∙ sym (ap (feed_from i jb rb) w.2 ∙ entry_refused n s _ (λ e. omega arith))

    read_leads : (r : Read) → Stands es at r → Leads i es at (feed_from i jb rb (drop at es)) (take_read jb rb r).came (take_read jb rb r).journals (take_read jb rb r).rows
    read_leads (Entry n s next) w = entry_leads n s next w (entry_call jb rb n s).number refl
    read_leads Lone w = sym (ap (feed_from i jb rb) w.1 ∙ lone_refused w.0)
    read_leads End w = sym (ap (feed_from i jb rb) w ∙ none_left)

    -- what came of the entry at a byte says what feeding from there on leaves
    pub taken_leads : (r t : Taken) → r ≡ t → (nj nr : List ℕ) → took r nj nr ≡ take_at jb rb es at → Leads i es at (feed_from i jb rb (drop at es)) t nj nr
    unfolding take_at
    taken_leads r t f nj nr e =
        subst
        (λ (a : AfterTaking). Leads i es at (feed_from i jb rb (drop at es)) a.came a.journals a.rows)
        (sym e ∙ ap (λ (u : Taken). took u nj nr) f)
        (read_leads (read_at es at) (read_stands es at))

    -- and what taking one by one leaves where a reader stands at that byte
    pub reader_leads : (t : Taken) (nj nr : List ℕ) → took t nj nr ≡ take_at jb rb es at → Leads i es at (take_from i jb rb (entries_from es at)) t nj nr
    unfolding entries_from
    reader_leads t nj nr e = subst (λ (f : AfterFeeding). Leads i es at f t nj nr) (feeds i jb rb (drop at es)) (taken_leads t t refl nj nr e)
