-- Append at journal i by its cases: the early refusals, and what stands when none of them holds. Assumes nothing.
use Prim.Native.Nat.{ℕ, ◌≤◌, ◌<◌}
use mathlib.Core.Path.{◌≡◌, refl, sym, ◌∙◌}
use mathlib.Core.Bool.{true, false, not}
use mathlib.Core.List.{List, [], ◌∷◌, ◌++◌}
use lib.ListN.{length}
use lib.Dec.{leb, ltb, eqb}
use borrow.Author.Tests.{leb-false, le-leb, lt-leb, eqb-true, eqb-false, not-false, ltb-false}
use Rattle.words.specs.Journals.{appended_at, last_of, steps_at}
use Rattle.words.specs.Picture.{picture}
use Rattle.words.specs.Words.{AreJournals}
use Rattle.words.proofs.Journals.{appended_at_journals}
use Rattle.words.proofs.Test.{test}
use Rattle.records.specs.JournalBook.{journal_form, journals_of}
use Rattle.records.specs.Sound.{right_sizes, sound, BooksOf}
use Rattle.records.proofs.Sound.{sound_books}
use Rattle.books.specs.Numbers.{Refusal, first, wrong_size}
use Rattle.books.specs.Clear.{after}
use Rattle.books.specs.Write.{rows_refusal, write_call}
use Rattle.books.specs.Append.{early_refusals, append_refusals, append_at_call, append_call}
use Rattle.books.specs.Answers.{number_of, fault_at, refused_by}
use Rattle.books.specs.Check.{checked, check_call}
use Rattle.books.specs.declared.fault.Fault.{Fault}
use Rattle.books.proofs.Checks.{parts_of}
use Rattle.books.proofs.Faults.{fault_refused, none_refused}
use Rattle.books.proofs.Refusals.{pass}
use Rattle.books.proofs.WriteCases.{written_refused, written_last}

-- an early refusal is the call's
first_early : (rs qs : List Refusal) → (first rs ≡ 0 → ⊥) → first (rs ++ qs) ≡ first rs
first_early [] qs h = absurd (h refl)
first_early (r ∷ rs) qs h = test r.holds (λ t. rw t) (λ f. rw f (first_early rs qs (rw f at h)))

module _ (jb rb : List ℕ) (i s : ℕ) where
  -- the journals with the step
  abbrev longer : List (List ℕ)
  longer = appended_at i s (journals_of jb)

  -- the early numbers by what the code asks, in its order
  more : List Refusal
  more =
      record { holds = leb 16 s; number = 3 }
      ∷ record { holds = leb (length (journals_of jb)) i; number = 4 }
      ∷ record { holds = leb 200 (steps_at i (journals_of jb)); number = 5 }
      ∷ []

  module _ (e : checked 0 0 0 0 ≡ check_call jb rb) where
    pub append_step : 16 ≤ s → 3 ≡ first (early_refusals jb rb i s)
    unfolding more
    append_step h = sym (none_refused jb rb more e ∙ rw (le-leb 16 s h))

    pub append_none : s < 16 → length (journals_of jb) ≤ i → 4 ≡ first (early_refusals jb rb i s)
    unfolding more
    append_none h n = sym (none_refused jb rb more e ∙ rw (lt-leb 16 s h, le-leb (length (journals_of jb)) i n))

    pub append_long : s < 16 → i < length (journals_of jb) → 200 ≤ steps_at i (journals_of jb) → 5 ≡ first (early_refusals jb rb i s)
    unfolding more
    append_long h n l = sym (none_refused jb rb more e ∙ rw (lt-leb 16 s h, lt-leb (length (journals_of jb)) i n, le-leb 200 (steps_at i (journals_of jb)) l))

    pub append_free : s < 16 → i < length (journals_of jb) → steps_at i (journals_of jb) < 200 → 0 ≡ first (early_refusals jb rb i s)
    unfolding more
    append_free h n l = sym (none_refused jb rb more e ∙ rw (lt-leb 16 s h, lt-leb (length (journals_of jb)) i n, lt-leb 200 (steps_at i (journals_of jb)) l))

  pub append_seen : (f : Fault) → fault_at f ≡ check_call jb rb → number_of (refused_by f) ≡ first (early_refusals jb rb i s)
  unfolding more
  append_seen f e = fault_refused jb rb more f e

  -- the books hold journals, journal i is one of them and has room, and the step is a code
  pub record CanAppend : Type 0 where
    pub books : BooksOf (journals_of jb) jb rb
    pub one : i < length (journals_of jb)
    pub room : steps_at i (journals_of jb) < 200
    pub journals : AreJournals longer
    pub form : journal_form jb ≡ true
    pub others : (qs : List Refusal) → first (early_refusals jb rb i s ++ qs) ≡ first qs

  -- what stands when no early refusal holds
  pub can_append : first (early_refusals jb rb i s) ≡ 0 → CanAppend
  can_append e =
      let js : List (List ℕ) = journals_of jb in
      let p1 = pass (not (right_sizes jb rb)) 0 _ e in
      let p2 = pass (not (sound jb rb)) 1 _ p1.1 in
      let p3 = pass (leb 16 s) 2 _ p2.1 in
      let p4 = pass (leb (length js) i) 3 _ p3.1 in
      let p5 = pass (leb 200 (steps_at i js)) 4 _ p4.1 in
      let t = not-false (sound jb rb) p2.0 in
      let b = sound_books jb rb t in
      let r = leb-false 200 (steps_at i js) p5.0 in
      record {
        books = b;
        one = leb-false (length js) i p4.0;
        room = r;
        journals = appended_at_journals i s js b.journals (leb-false 16 s p3.0) r;
        form = (parts_of jb rb t).0;
        others = λ qs. rw (p1.0, p2.0, p3.0, p4.0, p5.0);
      }

  -- the call: refused early, or left to the writer
  pub append_refused : (n : ℕ) → n ≡ first (early_refusals jb rb i s) → (n ≡ 0 → ⊥) → after n jb rb ≡ append_at_call jb rb i s
  unfolding append_at_call
  append_refused n e h =
      written_refused longer jb rb n (first (append_refusals jb rb i s))
      (e ∙ sym (first_early (early_refusals jb rb i s) (rows_refusal longer ∷ []) (λ z. h (e ∙ z)))) h

  pub append_written : CanAppend → write_call longer jb rb ≡ append_at_call jb rb i s
  unfolding append_at_call
  append_written c = written_last longer jb rb (first (append_refusals jb rb i s)) (c.others (rows_refusal longer ∷ []))

  -- what stands when append isn't refused at all
  pub append_fits : first (append_refusals jb rb i s) ≡ 0 → AreJournals longer × (length (picture longer) ≤ 1000)
  append_fits e = test (eqb (first (early_refusals jb rb i s)) 0) (λ t. fits (can_append (eqb-true _ 0 t))) (λ f. absurd (not_early (eqb-false (first (early_refusals jb rb i s)) 0 f)))
    where
      fits : CanAppend → AreJournals longer × (length (picture longer) ≤ 1000)
      fits c =
          let p = pass (ltb 1000 (length (picture longer))) 5 0 (sym (c.others (rows_refusal longer ∷ [])) ∙ e) in
          (c.journals, ltb-false 1000 (length (picture longer)) p.0)

      not_early : (first (early_refusals jb rb i s) ≡ 0 → ⊥) → ⊥
      not_early h = h (sym (first_early (early_refusals jb rb i s) (rows_refusal longer ∷ []) h) ∙ e)

module _ (jb rb : List ℕ) (s : ℕ) where
  -- at the last journal, wrong sizes come before it is asked which that is
  pub append_size : right_sizes jb rb ≡ false → after wrong_size jb rb ≡ append_call jb rb s
  unfolding append_call append_at_call
  append_size f = rw f

  -- append is that at the last journal
  pub append_last : (i : ℕ) → i ≡ last_of (journals_of jb) → append_at_call jb rb i s ≡ append_call jb rb s
  unfolding append_call
  append_last i e = rw e
