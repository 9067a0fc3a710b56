-- The list call by its cases: each number by what the code asks, in its order, what stands when there is none, and what is answered then. Assumes nothing.
use Prim.Native.Nat.{ℕ, ◌/◌, ◌%◌, ◌≤◌, ◌<◌}
use native.Mathlib.Omega.{arith}
use mathlib.Core.Path.{◌≡◌, refl, sym, ap, ap₂, ◌∙◌}
use mathlib.Core.Bool.{Bool, true, false, not, ◌&&◌, ◌||◌}
use mathlib.Core.List.{List, [], ◌∷◌}
use lib.ListN.{length, take, drop, get_or, length-drop}
use lib.Seq.{length-take-le}
use lib.Dec.{eqb, ltb}
use borrow.Author.Tests.{eq-eqb, eqb-true, lt-ltb, le-ltb, ltb-false, not-false}
use Rattle.std.specs.Prelude.{Option}
use Rattle.words.specs.Listing.{list_of}
use Rattle.words.proofs.Dictionary.{list_ascending}
use Rattle.words.proofs.Past.{past_suffix}
use Rattle.words.proofs.Test.{test}
use Rattle.records.specs.JournalBook.{journals_of}
use Rattle.records.specs.Sizes.{word_record_size, longest_word}
use Rattle.records.specs.Sound.{right_sizes, sound}
use Rattle.records.specs.WordRecord.{word_form, word_of}
use Rattle.books.specs.Check.{check_call}
use Rattle.books.specs.JournalCount.{journal_count_call}
use Rattle.books.specs.Numbers.{Refusal, first}
use Rattle.books.proofs.Checks.{check_sound, checked_sizes, seen_refused, seen_sound}
use Rattle.books.proofs.JournalCountCases.{word_wrong, word_counted, word_room}
use Rattle.books.proofs.Refusals.{pass, neither, refused}
use Rattle.page.specs.Written.{written}
use Rattle.list.specs.ListCall.{Asked, wrong_output, list_refusals, due_in, due, fitting, wrote, list_call}
use Rattle.list.specs.AfterWord.{WordIfAfter, word_if, due_from}
use Rattle.next_word.specs.Next.{from_there, table_of}
use Rattle.page.proofs.Ends.{EndOf, end_there}
use Rattle.list.proofs.TableOf.{same_list, empty_count}

-- what a call that is done was given
pub record Allowed (a : Asked) : Type 0 where
  pub sizes : right_sizes a.journals a.rows ≡ true
  pub right : sound a.journals a.rows ≡ true
  pub limit : a.length_limit ≤ longest_word
  pub quorum : (ltb a.quorum 1 || ltb (length (journals_of a.journals)) a.quorum) ≡ false
  pub some_room : 1 ≤ length a.out / word_record_size
  pub word : WordIfAfter a.after a.length_limit a.word

-- a word record of right form says its word's length
form_length : (r : List ℕ) → length r ≡ 16 → word_form r ≡ true → length (word_of r) ≡ get_or r 0 0
form_length r l f = length-take-le (get_or r 0 0) (drop 1 r) (omega (arith, word_room r f, length-drop 1 r))

module _ (a : Asked) where
  abbrev jb : List ℕ
  jb = a.journals

  abbrev rb : List ℕ
  rb = a.rows

  abbrev q : ℕ
  q = a.quorum

  abbrev n : ℕ
  n = a.length_limit

  abbrev after : Bool
  after = a.after

  abbrev r : List ℕ
  r = a.word

  abbrev out : List ℕ
  out = a.out

  -- the conditions behind those of the books
  abbrev others : List Refusal
  others =
      record { holds = ltb longest_word n; number = 9 }
      ∷ record { holds = ltb q 1 || ltb (length (journals_of jb)) q; number = 8 }
      ∷ record { holds = after && (not (word_form r) || ltb n (length (word_of r))); number = 10 }
      ∷ []

  -- a word record or an output of a wrong size
  pub size_wrong : (not (eqb (length r) 16) || wrong_output out) ≡ true → 1 ≡ first (list_refusals a)
  size_wrong t = test (right_sizes jb rb) (λ w. rw (w, t)) (λ w. rw w)

  -- what is known where the sizes are right and the check has found no fault
  pub record Seen : Type 0 where
    pub word_sized : length r ≡ 16
    pub out_sized : wrong_output out ≡ false
    pub books_sound : (check_call jb rb).number ≡ 0

  books_first : length r ≡ 16 → wrong_output out ≡ false
      → first (list_refusals a) ≡ first (record { holds = not (right_sizes jb rb); number = 1 } ∷ record { holds = not (sound jb rb); number = 2 } ∷ others)
  books_first l o = test (right_sizes jb rb) (λ w. rw (w, eq-eqb (length r) 16 l, o)) (λ w. rw w)

  -- a fault of the books
  pub books_wrong : length r ≡ 16 → wrong_output out ≡ false → ((check_call jb rb).number ≡ 0 → ⊥) → (check_call jb rb).number ≡ first (list_refusals a)
  books_wrong l o h = seen_refused jb rb others h ∙ sym (books_first l o)

  module _ (seen : Seen) where
    behind : first (list_refusals a) ≡ first others
    behind = books_first seen.word_sized seen.out_sized ∙ seen_sound jb rb others seen.books_sound

    -- a length above 15
    pub limit_wrong : 15 < n → 9 ≡ first (list_refusals a)
    limit_wrong h = sym (behind ∙ rw (lt-ltb 15 n h))

    module _ (h : n ≤ 15) where
      quorum_said : (ltb q 1 || ltb (table_of rb []) q) ≡ (ltb q 1 || ltb (length (journals_of jb)) q)
      quorum_said = ap (λ (k : ℕ). ltb q 1 || ltb k q) (empty_count jb rb ((check_sound jb rb).0 seen.books_sound))

      word_said : (eqb (journal_count_call jb r).number 10 || ltb n (get_or r 0 0)) ≡ (not (word_form r) || ltb n (length (word_of r)))
      word_said =
          let s = checked_sizes jb rb seen.books_sound in
          let l = seen.word_sized in
          test (word_form r) (λ t. rw (word_counted jb r s.0 l t s.2, t, form_length r l t)) (λ f. rw (word_wrong jb r s.0 l f, f))

      -- a quorum below 1 or above the number of journals
      pub quorum_wrong : (ltb q 1 || ltb (table_of rb []) q) ≡ true → 8 ≡ first (list_refusals a)
      quorum_wrong t = sym (behind ∙ rw (le-ltb 15 n h, sym quorum_said ∙ t))

      module _ (k : (ltb q 1 || ltb (table_of rb []) q) ≡ false) where
        -- a word that is refused
        pub word_refused : after ≡ true → (eqb (journal_count_call jb r).number 10 || ltb n (get_or r 0 0)) ≡ true → 10 ≡ first (list_refusals a)
        word_refused y t = sym (behind ∙ rw (le-ltb 15 n h, sym quorum_said ∙ k, y, sym word_said ∙ t))

        -- nothing
        pub word_taken : after ≡ true → (eqb (journal_count_call jb r).number 10 || ltb n (get_or r 0 0)) ≡ false → 0 ≡ first (list_refusals a)
        word_taken y f = sym (behind ∙ rw (le-ltb 15 n h, sym quorum_said ∙ k, y, sym word_said ∙ f))

        pub word_unasked : after ≡ false → 0 ≡ first (list_refusals a)
        word_unasked y = sym (behind ∙ rw (le-ltb 15 n h, sym quorum_said ∙ k, y))

  pub allowed : (list_call a).answer.number ≡ 0 → Allowed a
  unfolding list_call
  allowed e =
      let books : Bool = not (right_sizes a.journals a.rows) in
      let size : Bool = not (eqb (length a.word) word_record_size) in
      let wrong : Bool = not (word_form a.word) || ltb a.length_limit (length (word_of a.word)) in
      let p = pass (books || (size || wrong_output a.out)) 0 _ e in
      let b = pass (not (sound a.journals a.rows)) 1 _ p.1 in
      let m = pass (ltb longest_word a.length_limit) 8 _ b.1 in
      let k = pass (ltb a.quorum 1 || ltb (length (journals_of a.journals)) a.quorum) 7 _ m.1 in
      let w = pass (a.after && wrong) 9 _ k.1 in
      let o = neither size (wrong_output a.out) (neither books _ p.0).1 in
      let s = (neither (ltb (length a.out) word_record_size) _ (neither (not (eqb (length a.out % word_record_size) 0)) _ o.1).1).0 in
      let l = eqb-true (length a.word) word_record_size (not-false _ o.0) in
      record {
        sizes = not-false _ (neither books _ p.0).0;
        right = not-false _ b.0;
        limit = ltb-false _ _ m.0;
        quorum = k.0;
        some_room = omega (arith, ltb-false (length a.out) word_record_size s);
        word = λ y. let v = neither (not (word_form a.word)) _ (rw y at w.0) in
            let f = not-false _ v.0 in
            (l, f, omega (arith, form_length a.word l f, ltb-false a.length_limit (length (word_of a.word)) v.1));
      }

  -- what stands when nothing is refused
  pub list_allowed : (m : ℕ) → m ≡ first (list_refusals a) → m ≡ 0 → Allowed a
  unfolding list_call
  list_allowed m e z = allowed (sym e ∙ z)

  -- the call refused
  pub list_wrong : (m : ℕ) → m ≡ first (list_refusals a) → (m ≡ 0 → ⊥) → wrote (record { number = m; written = 0; more = false }) out ≡ list_call a
  unfolding list_call
  list_wrong m e h =
      let z : first (list_refusals a) ≡ 0 → ⊥ = λ y. h (e ∙ y) in
      rw (refused (first (list_refusals a)) (length (fitting a)) 0 z, refused (first (list_refusals a)) (ltb (length (fitting a)) (length (due a))) false z, refused (first (list_refusals a)) (written (fitting a) out) out z)
      (ap (λ (k : ℕ). wrote (record { number = k; written = 0; more = false }) out) e)

  -- the list by the table count
  abbrev listed : List (List ℕ)
  listed = list_of (table_of rb) q n

  due_end : EndOf (due_in listed after r) listed
  due_end = test after (λ t. rw t (past_suffix (word_of r) listed (list_ascending (table_of rb) q n))) (λ f. rw f ([], refl))

  -- what comes from the first word that is due on is what is due
  from_due : (m : List (List ℕ)) → m ≡ take 1 (due_in listed after r) → from_there m listed ≡ due_in listed after r
  from_due m e = rw e (end_there (due_in listed after r) listed (list_ascending (table_of rb) q n) due_end)

  -- the first word that is due, after the word that the list goes on after
  pub due_after : {w : Option (List ℕ)} {m : List (List ℕ)} → w ≡ word_if after r → m ≡ take 1 (due_from listed w) → m ≡ take 1 (due_in listed after r)
  due_after e d = d ∙ ap (λ (w : Option (List ℕ)). take 1 (due_from listed w)) e

  pub due_first : (m : List (List ℕ)) → m ≡ take 1 (due_in listed after r) → m ≡ take 1 (from_there m listed)
  due_first m e = e ∙ ap (take 1) (sym (from_due m e))

  -- the call done, by the page from the first word that is due on
  pub list_done : (k : ℕ) → k ≡ first (list_refusals a) → k ≡ 0 → (m : List (List ℕ)) → m ≡ take 1 (due_in listed after r)
      → (w : ℕ) (more : Bool) (o : List ℕ) → w ≡ length (take (length out / 16) (from_there m listed)) → more ≡ ltb w (length (from_there m listed))
      → o ≡ written (take (length out / 16) (from_there m listed)) out
      → wrote (record { number = 0; written = w; more = more }) o ≡ list_call a
  unfolding list_call
  list_done k c v m t w more o x y z =
      let e : first (list_refusals a) ≡ 0 = sym c ∙ v in
      let s : from_there m listed ≡ due a = from_due m t ∙ ap (λ (l : List (List ℕ)). due_in l after r) (same_list jb rb (allowed e).right q n) in
      let b : w ≡ length (fitting a) = x ∙ ap (λ (l : List (List ℕ)). length (take (length out / 16) l)) s in
      let u : more ≡ ltb (length (fitting a)) (length (due a)) = y ∙ ap₂ (λ (i : ℕ) (l : List (List ℕ)). ltb i (length l)) b s in
      let f : o ≡ written (fitting a) out = z ∙ ap (λ (l : List (List ℕ)). written (take (length out / 16) l) out) s in
      rw (e, b, u, f)
