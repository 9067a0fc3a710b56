-- The check says what document 01 says of the books: 0 exactly when they are sound, and otherwise the first record and byte
-- that are wrong. Assumes nothing.
use Prim.Native.Nat.{ℕ, ◌+◌, ◌*◌, ◌/◌, ◌%◌, ◌≤◌, ◌<◌}
use native.Mathlib.Omega.{arith}
use mathlib.Core.Path.{◌≡◌, refl, sym, ap, ap₂, subst, ◌∙◌}
use mathlib.Core.Logic.{◌↔◌}
use mathlib.Core.Bool.{Bool, true, false, not, ◌&&◌, false≢true}
use mathlib.Core.List.{List, [], ◌∷◌}
use lib.ListN.{length, get_or}
use lib.Dec.{eqb, leb, ltb}
use borrow.Author.Tests.{eqb-true, eqb-false, leb-true, le-leb, ltb-true, ltb-false}
use Rattle.books.specs.Numbers.{Refusal, first, Given}
use Rattle.books.specs.Check.{checked, check_call, Verdict, wrong_sizes, book_one, too_many, book_two, all_right}
use Rattle.records.specs.Bytes.{same, differ, First}
use Rattle.records.specs.JournalBook.{journal_form, journals_of, first_wrong_record}
use Rattle.records.specs.RowBook.{row_book}
use Rattle.records.specs.Sound.{right_sizes, sound}
use Rattle.words.specs.Picture.{picture}
use Rattle.records.proofs.FirstWrong.{wrong_first, form_right, wrong_unique}
use Rattle.records.proofs.Form.{form_book}
use Rattle.records.proofs.RowBytes.{length_book}
use Rattle.records.proofs.Sound.{sound_books, books_sizes}
use Rattle.records.proofs.Tests.{both, same_eq, differ_first, first_unique}
use Rattle.words.proofs.Place.{short}
use Rattle.words.proofs.Test.{test}
use Rattle.books.specs.Check.{Checked}
use Rattle.books.proofs.Refusals.{first_given}
use Rattle.books.proofs.BookSizes.{both_sized}
use Rattle.books.proofs.CheckCases.{check_size, check_book_one, check_formed, rows_many, rows_compared, compared_right, compared_wrong}

module _ (jb rb : List ℕ) where
  abbrev js : List (List ℕ)
  js = journals_of jb

  check_many : right_sizes jb rb ≡ true → journal_form jb ≡ true → 1000 < length (picture js) → check_call jb rb ≡ checked 2 2 1000 0
  check_many w f m = check_formed jb rb w f ∙ rows_many js rb m

  check_two : right_sizes jb rb ≡ true → journal_form jb ≡ true → length (picture js) ≤ 1000 → same rb (row_book js) ≡ false
      → check_call jb rb ≡ checked 2 2 (differ rb (row_book js) / 64) (differ rb (row_book js) % 64)
  check_two w f m s = check_formed jb rb w f ∙ rows_compared js rb m ∙ compared_wrong rb (row_book js) s

  check_right : right_sizes jb rb ≡ true → journal_form jb ≡ true → length (picture js) ≤ 1000 → same rb (row_book js) ≡ true
      → check_call jb rb ≡ checked 0 0 0 0
  check_right w f m s = check_formed jb rb w f ∙ rows_compared js rb m ∙ compared_right rb (row_book js) s

  -- a row book that differs from the picture differs in a first byte
  difference : right_sizes jb rb ≡ true → journal_form jb ≡ true → length (picture js) ≤ 1000 → same rb (row_book js) ≡ false
      → First rb (row_book js) (differ rb (row_book js))
  difference w f m s =
      let k = (form_book jb f).0 in
      differ_first rb (row_book js) s ((both_sized jb rb w).1 ∙ sym (length_book js (short js k.each) k.few m))

  whole : journal_form jb ≡ true → length (picture js) ≤ 1000 → same rb (row_book js) ≡ true → sound jb rb ≡ true
  unfolding sound
  whole f m s = rw (f, le-leb (length (picture js)) 1000 m, s)

  pub parts_of : sound jb rb ≡ true → (journal_form jb ≡ true) × (length (picture js) ≤ 1000) × (same rb (row_book js) ≡ true)
  unfolding sound
  parts_of t =
      let p = both (journal_form jb) (leb (length (picture js)) 1000 && same rb (row_book js)) t in
      let q = both (leb (length (picture js)) 1000) (same rb (row_book js)) p.1 in
      (p.0, leb-true (length (picture js)) 1000 q.0, q.1)

  -- what the check answers is where the books are wrong
  pub check_verdict : Verdict jb rb (check_call jb rb)
  check_verdict = test (right_sizes jb rb) sized (λ w. rw (check_size jb rb w) (wrong_sizes w))
    where
      split : (d : ℕ) → 64 * (d / 64) + d % 64 ≡ d
      split d = omega arith

      differing : right_sizes jb rb ≡ true → journal_form jb ≡ true → length (picture js) ≤ 1000 → same rb (row_book js) ≡ false → Verdict jb rb (check_call jb rb)
      differing w f m s =
          let d : ℕ = differ rb (row_book js) in
          rw (check_two w f m s) (book_two {r = d / 64} {i = d % 64} w f m (omega arith) (rw (split d) (difference w f m s)))

      formed : right_sizes jb rb ≡ true → journal_form jb ≡ true → Verdict jb rb (check_call jb rb)
      formed w f =
          test (ltb 1000 (length (picture js))) (λ t. let m = ltb-true 1000 (length (picture js)) t in rw (check_many w f m) (too_many w f m))
          (λ u. let m = ltb-false 1000 (length (picture js)) u in
          test (same rb (row_book js)) (λ s. rw (check_right w f m s) (all_right (whole f m s))) (λ s. differing w f m s))

      sized : right_sizes jb rb ≡ true → Verdict jb rb (check_call jb rb)
      sized w = test (journal_form jb) (λ f. formed w f) (λ f. rw (check_book_one jb rb w f) (book_one w (wrong_first jb (both_sized jb rb w).0 f)))

  -- sound books have their sizes
  pub sound_sizes : sound jb rb ≡ true → right_sizes jb rb ≡ true
  sound_sizes t = books_sizes (sound_books jb rb t)

  -- and it is the only answer
  pub verdict_check : {c : Checked} → Verdict jb rb c → c ≡ check_call jb rb
  verdict_check (wrong_sizes w) = sym (check_size jb rb w)
  verdict_check (book_one {r = r} w f) =
      test (journal_form jb) (λ t. absurd (form_right jb t r f.within f.wrong))
      (λ s. ap (λ (n : ℕ). checked 2 1 n 0) (wrong_unique jb r (first_wrong_record jb) f (wrong_first jb (both_sized jb rb w).0 s)) ∙ sym (check_book_one jb rb w s))
  verdict_check (too_many w f m) = sym (check_many w f m)
  verdict_check (book_two {r = r} {i = i} w f m b d) =
      test (same rb (row_book js)) (λ s. absurd (equal s))
      (λ s. let e = first_unique rb (row_book js) (64 * r + i) (differ rb (row_book js)) d (difference w f m s) in
      let x : r ≡ differ rb (row_book js) / 64 = omega arith in
      let y : i ≡ differ rb (row_book js) % 64 = omega arith in
      ap₂ (λ (p q : ℕ). checked 2 2 p q) x y ∙ sym (check_two w f m s))
    where
      equal : same rb (row_book js) ≡ true → ⊥
      equal s = d.differs (ap (λ (l : List ℕ). get_or l (64 * r + i) 0) (same_eq rb (row_book js) s))
  verdict_check (all_right t) = let p = parts_of t in sym (check_right (sound_sizes t) p.0 p.1 p.2)

  -- the check says 0 exactly when the books are sound
  pub check_sound : ((check_call jb rb).number ≡ 0) ↔ (sound jb rb ≡ true)
  check_sound = (λ e. says check_verdict e, λ t. ap (λ (c : Checked). c.number) (sym (verdict_check (all_right t))))
    where
      says : {c : Checked} → Verdict jb rb c → c.number ≡ 0 → sound jb rb ≡ true
      says (wrong_sizes w) e = absurd (omega arith)
      says (book_one w f) e = absurd (omega arith)
      says (too_many w f m) e = absurd (omega arith)
      says (book_two w f m b d) e = absurd (omega arith)
      says (all_right t) e = t

  wrong_two : right_sizes jb rb ≡ true → sound jb rb ≡ false → {c : Checked} → Verdict jb rb c → c.number ≡ 2
  wrong_two w f (wrong_sizes n) = absurd (false≢true (sym n ∙ w))
  wrong_two w f (book_one s g) = refl
  wrong_two w f (too_many s g m) = refl
  wrong_two w f (book_two s g m b d) = refl
  wrong_two w f (all_right t) = absurd (false≢true (sym f ∙ t))

  -- what a call that first checks the books answers, by the number that the check gives
  module _ (rest : List Refusal) where
    abbrev pub checked_first : List Refusal
    checked_first = record { holds = not (right_sizes jb rb); number = 1 } ∷ record { holds = not (sound jb rb); number = 2 } ∷ rest

    -- a fault is answered as it is
    pub seen_refused : ((check_call jb rb).number ≡ 0 → ⊥) → (check_call jb rb).number ≡ first checked_first
    seen_refused h =
        test (right_sizes jb rb)
        (λ w. test (sound jb rb) (λ t. absurd (h (check_sound.1 t))) (λ f. rw (w, f) (wrong_two w f check_verdict)))
        (λ w. rw w (ap (λ (c : Checked). c.number) (check_size jb rb w)))

    -- and sound books leave it to the other numbers
    pub seen_sound : (check_call jb rb).number ≡ 0 → first checked_first ≡ first rest
    seen_sound e = let t = check_sound.0 e in rw (sound_sizes t, t)

-- what a check that says 0 tells
pub checked_sizes : (jb rb : List ℕ) → (check_call jb rb).number ≡ 0 → (length jb ≡ 4096) × (length rb ≡ 64000) × (journal_form jb ≡ true)
checked_sizes jb rb e =
    let t = (check_sound jb rb).0 e in
    let l = both_sized jb rb (sound_sizes jb rb t) in
    (l.0, l.1, (parts_of jb rb t).0)

-- the check's numbers: 1 for size, else 2 exactly when the books aren't sound
pub check_numbers : (jb rb : List ℕ)
    → Given (record { holds = not (right_sizes jb rb); number = 1 } ∷ record { holds = not (sound jb rb); number = 2 } ∷ []) (check_call jb rb).number
check_numbers jb rb = subst (Given _) (sym (is (eqb (check_call jb rb).number 0) refl)) (first_given _)
  where
    is : (t : Bool) → eqb (check_call jb rb).number 0 ≡ t → (check_call jb rb).number ≡ first (record { holds = not (right_sizes jb rb); number = 1 } ∷ record { holds = not (sound jb rb); number = 2 } ∷ [])
    is true e = eqb-true (check_call jb rb).number 0 e ∙ sym (seen_sound jb rb [] (eqb-true (check_call jb rb).number 0 e))
    is false e = seen_refused jb rb [] (eqb-false (check_call jb rb).number 0 e)
