-- What the check tells, as the numbers of a call that first checks the books: a fault's, or the call's others. Assumes nothing.
use Prim.Native.Nat.{ℕ}
use mathlib.Core.Path.{◌≡◌, sym, ap, ◌∙◌}
use mathlib.Core.List.{List}
use Rattle.books.specs.Numbers.{Refusal, first}
use Rattle.books.specs.Check.{Checked, checked, check_call, all_right}
use Rattle.books.specs.Answers.{number_of, fault_at, refused_by}
use Rattle.books.specs.declared.fault.Fault.{Fault}
use Rattle.books.proofs.RefusalNumbers.{refusal_told, refused_number}
use Rattle.books.proofs.Checks.{checked_first, check_sound, verdict_check, seen_refused, seen_sound}

module _ (jb rb : List ℕ) where
  -- a fault that the check tells: its refusal's number is the check's
  pub fault_number : (f : Fault) → fault_at f ≡ check_call jb rb → number_of (refused_by f) ≡ (check_call jb rb).number
  fault_number f e = refused_number f ∙ ap (λ (k : Checked). k.number) e

  -- and that of a call that first checks the books
  pub fault_refused : (rest : List Refusal) (f : Fault) → fault_at f ≡ check_call jb rb → number_of (refused_by f) ≡ first (checked_first jb rb rest)
  fault_refused rest f e =
      let n = fault_number f e in
      n ∙ seen_refused jb rb rest (λ z. refusal_told (refused_by f) (n ∙ z))

  -- no fault: the check's number is 0, and the call's other numbers count
  pub none_number : checked 0 0 0 0 ≡ check_call jb rb → (check_call jb rb).number ≡ 0
  none_number e = ap (λ (k : Checked). k.number) (sym e)

  -- and where it is 0, there is no fault
  pub number_none : (check_call jb rb).number ≡ 0 → checked 0 0 0 0 ≡ check_call jb rb
  number_none e = verdict_check jb rb (all_right ((check_sound jb rb).0 e))

  pub none_refused : (rest : List Refusal) → checked 0 0 0 0 ≡ check_call jb rb → first (checked_first jb rb rest) ≡ first rest
  none_refused rest e = seen_sound jb rb rest (none_number e)
