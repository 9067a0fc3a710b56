-- Open by its cases: what a refusal leaves, and what stands when there is none. Assumes nothing.
use Prim.Native.Nat.{ℕ, ◌≤◌, ◌<◌}
use native.Mathlib.Omega.{arith}
use mathlib.Core.Path.{◌≡◌, sym, ◌∙◌}
use mathlib.Core.Bool.{true, not}
use mathlib.Core.List.{List, [], ◌∷◌}
use lib.ListN.{length}
use lib.Dec.{leb}
use borrow.Author.Tests.{leb-false, le-leb, lt-leb, le-ltb, not-false}
use Rattle.words.specs.Journals.{opened}
use Rattle.words.specs.Picture.{picture}
use Rattle.words.specs.Words.{AreJournals}
use Rattle.words.proofs.Journals.{opened_journals}
use Rattle.words.proofs.Opening.{never_more}
use Rattle.words.proofs.Place.{short}
use Rattle.records.specs.JournalBook.{journal_form, journals_of}
use Rattle.records.specs.Sound.{right_sizes, sound, BooksOf}
use Rattle.records.proofs.Sound.{sound_books}
use Rattle.books.specs.Numbers.{Refusal, first}
use Rattle.books.specs.Clear.{after}
use Rattle.books.specs.Write.{write_call}
use Rattle.books.specs.Open.{open_refusals, open_call}
use Rattle.books.specs.Answers.{number_of, fault_at, refused_by}
use Rattle.books.specs.Check.{checked, check_call}
use Rattle.books.specs.declared.fault.Fault.{Fault}
use Rattle.books.proofs.Checks.{parts_of}
use Rattle.books.proofs.Faults.{fault_refused, none_refused}
use Rattle.books.proofs.Refusals.{pass}
use Rattle.books.proofs.WriteCases.{written_refused, written_last}

module _ (jb rb : List ℕ) where
  -- the books hold journals, and there is room for one more
  pub record CanOpen : Type 0 where
    pub books : BooksOf (journals_of jb) jb rb
    pub form : journal_form jb ≡ true
    pub few : length (journals_of jb) < 16
    pub journals : AreJournals (opened (journals_of jb))
    pub fits : length (picture (opened (journals_of jb))) ≤ 1000

  -- what stands when open isn't refused; opening never passes 1,000 rows
  pub can_open : first (open_refusals jb rb) ≡ 0 → CanOpen
  can_open e =
      let js : List (List ℕ) = journals_of jb in
      let p1 = pass (not (right_sizes jb rb)) 0 _ e in
      let p2 = pass (not (sound jb rb)) 1 _ p1.1 in
      let p3 = pass (leb 16 (length js)) 6 _ p2.1 in
      let t = not-false (sound jb rb) p2.0 in
      let b = sound_books jb rb t in
      let k : length js < 16 = leb-false 16 (length js) p3.0 in
      record {
        books = b;
        form = (parts_of jb rb t).0;
        few = k;
        journals = opened_journals js b.journals k;
        fits = omega (arith, never_more js (short js b.journals.each), b.fits);
      }

  -- the number by what the code asks: what the check says, and how many journals there are
  full : Refusal
  full = record { holds = leb 16 (length (journals_of jb)); number = 7 }

  pub open_seen : (f : Fault) → fault_at f ≡ check_call jb rb → number_of (refused_by f) ≡ first (open_refusals jb rb)
  unfolding full
  open_seen f e = fault_refused jb rb (full ∷ []) f e

  pub open_full : checked 0 0 0 0 ≡ check_call jb rb → 16 ≤ length (journals_of jb) → 7 ≡ first (open_refusals jb rb)
  unfolding full
  open_full e h = sym (none_refused jb rb (full ∷ []) e ∙ rw (le-leb 16 (length (journals_of jb)) h))

  pub open_free : checked 0 0 0 0 ≡ check_call jb rb → length (journals_of jb) < 16 → 0 ≡ first (open_refusals jb rb)
  unfolding full
  open_free e h = sym (none_refused jb rb (full ∷ []) e ∙ rw (lt-leb 16 (length (journals_of jb)) h))

  -- the call, refused and done
  pub open_refused : (n : ℕ) → n ≡ first (open_refusals jb rb) → (n ≡ 0 → ⊥) → after n jb rb ≡ open_call jb rb
  unfolding open_call
  open_refused n e h = written_refused (opened (journals_of jb)) jb rb n (first (open_refusals jb rb)) e h

  -- the writer has no number for the new journals, since they fit
  pub open_written : CanOpen → first (open_refusals jb rb) ≡ 0 → write_call (opened (journals_of jb)) jb rb ≡ open_call jb rb
  unfolding open_call
  open_written c e =
      let js : List (List ℕ) = opened (journals_of jb) in
      written_last js jb rb (first (open_refusals jb rb)) (e ∙ rw (le-ltb 1000 (length (picture js)) c.fits))
