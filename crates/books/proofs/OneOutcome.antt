-- No second outcome fits: a promise is an equation between what a call answers and leaves and a function of what it was
-- given, so two outcomes that keep it are equal. Assumes nothing.
use Rattle.std.specs.Prelude.{◌≡◌, ℕ, List, cond, eqb, Result, Ok, Err, MatchResult, [], refl}
use Rattle.std.proofs.Common.{sym, ◌∙◌, ap}
use Rattle.books.specs.Answers.{number_of, number_in, counted_in, open_journals_in, live_rows_in, fault_at, checked_in, refused_by}
use Rattle.books.specs.Numbers.{done, damaged, wrong_step, no_journal, journal_full, rows_full, journals_full, wrong_quorum, wrong_length, wrong_word, broken_entry, wrong_ask, wrong_row}
use Rattle.books.specs.declared.refused.Refused.{Refused}
use Rattle.books.specs.declared.refused.Refused.TheVariants.{WrongSize, Damaged, WrongStep, NoJournal, JournalFull, RowsFull, JournalsFull, WrongQuorum, WrongLength, WrongWord, BrokenEntry, WrongAsk, WrongRow}
use Rattle.books.specs.declared.fault.Fault.{Fault}
use Rattle.books.specs.declared.fault.Fault.TheVariants.{WrongSizes, Journal, Row}
use Rattle.books.specs.Append.{append_call}
use Rattle.books.specs.Check.{Checked, checked, check_call}
use Rattle.books.specs.Clear.{clear_call}
use Rattle.books.specs.JournalCount.{journal_count_call}
use Rattle.books.specs.LiveRows.{LiveRows, live_rows_call}
use Rattle.books.specs.Open.{open_call}
use Rattle.books.specs.OpenJournals.{OpenJournals, open_journals_call}
use Rattle.books.specs.Rebuild.{rebuild_call}
use Rattle.books.specs.RowRecord.{row_record_call, row_record_number_call}
use Rattle.books.specs.TableCount.{Counted, table_count_call}
use Rattle.books.proofs.RefusalNumbers.{refusal_told, refused_number}

-- two outcomes that keep the promise are equal
abbrev pub OneOutcome : {A : Type 0} → A → Type 0
OneOutcome {A} promised = (o p : A) → o ≡ promised → p ≡ promised → o ≡ p

-- of every promise that is an equation
pub one_outcome : {A : Type 0} (promised : A) → OneOutcome promised
one_outcome promised o p e f = e ∙ sym f

pub clear_one : (jb rb : List ℕ) → OneOutcome (clear_call jb rb)
clear_one jb rb = one_outcome (clear_call jb rb)

pub open_one : (jb rb : List ℕ) → OneOutcome (open_call jb rb)
open_one jb rb = one_outcome (open_call jb rb)

pub append_one : (jb rb : List ℕ) (s : ℕ) → OneOutcome (append_call jb rb s)
append_one jb rb s = one_outcome (append_call jb rb s)

pub rebuild_one : (jb rb : List ℕ) → OneOutcome (rebuild_call jb rb)
rebuild_one jb rb = one_outcome (rebuild_call jb rb)

pub table_count_one : (rb w : List ℕ) → OneOutcome (table_count_call rb w)
table_count_one rb w = one_outcome (table_count_call rb w)

pub journal_count_one : (jb r : List ℕ) → OneOutcome (journal_count_call jb r)
journal_count_one jb r = one_outcome (journal_count_call jb r)

pub check_one : (jb rb : List ℕ) → OneOutcome (check_call jb rb)
check_one jb rb = one_outcome (check_call jb rb)

pub row_record_one : (rb : List ℕ) (r : ℕ) → OneOutcome (row_record_call rb r)
row_record_one rb r = one_outcome (row_record_call rb r)

pub row_record_number_one : (rb : List ℕ) (r : ℕ) → OneOutcome (row_record_number_call rb r)
row_record_number_one rb r = one_outcome (row_record_number_call rb r)

pub open_journals_one : (jb : List ℕ) → OneOutcome (open_journals_call jb)
open_journals_one jb = one_outcome (open_journals_call jb)

pub live_rows_one : (jb rb : List ℕ) → OneOutcome (live_rows_call jb rb)
live_rows_one jb rb = one_outcome (live_rows_call jb rb)

-- The code's answers say no less than their numbers and values: two answers that say the same are one, so that a promise of what
-- an answer says determines the answer.

-- the refusal that has a number
refused_at : ℕ → Refused
refused_at n =
    cond (eqb n damaged) Damaged (cond (eqb n wrong_step) WrongStep (cond (eqb n no_journal) NoJournal (cond (eqb n journal_full) JournalFull
    (cond (eqb n rows_full) RowsFull (cond (eqb n journals_full) JournalsFull (cond (eqb n wrong_quorum) WrongQuorum (cond (eqb n wrong_length) WrongLength
    (cond (eqb n wrong_word) WrongWord (cond (eqb n broken_entry) BrokenEntry (cond (eqb n wrong_ask) WrongAsk (cond (eqb n wrong_row) WrongRow WrongSize)))))))))))

refused_back : (e : Refused) → refused_at (number_of e) ≡ e
unfolding refused_at
refused_back WrongSize = refl
refused_back Damaged = refl
refused_back WrongStep = refl
refused_back NoJournal = refl
refused_back JournalFull = refl
refused_back RowsFull = refl
refused_back JournalsFull = refl
refused_back WrongQuorum = refl
refused_back WrongLength = refl
refused_back WrongWord = refl
refused_back BrokenEntry = refl
refused_back WrongAsk = refl
refused_back WrongRow = refl

pub number_of_one : (e f : Refused) → number_of e ≡ number_of f → e ≡ f
number_of_one e f h = sym (refused_back e) ∙ ap refused_at h ∙ refused_back f

-- which case an answer is, without what it says where it is done
abbrev case_of : {A : Type 0} → Result A Refused → Result (Unit {0}) Refused
case_of (Ok x) = Ok tt
case_of (Err e) = Err e

-- its number says which
pub number_in_case : {A : Type 0} (r s : Result A Refused) → number_in r ≡ number_in s → case_of r ≡ case_of s
number_in_case (Ok x) (Ok y) h = refl
number_in_case (Ok x) (Err f) h = absurd (refusal_told f (sym h))
number_in_case (Err e) (Ok y) h = absurd (refusal_told e h)
number_in_case (Err e) (Err f) h = ap Err (number_of_one e f h)

case_is : (r : Result (Unit {0}) Refused) → case_of r ≡ r
case_is (Ok x) = refl
case_is (Err e) = refl

pub number_in_one : (r s : Result (Unit {0}) Refused) → number_in r ≡ number_in s → r ≡ s
number_in_one r s h = sym (case_is r) ∙ number_in_case r s h ∙ case_is s

-- a row record's answer, with the bytes of the part that it hands back in the part's place
abbrev bytes_in : {A : Type 0} → (A → List ℕ) → Result A Refused → Result (List ℕ) Refused
bytes_in bytes (Ok x) = Ok (bytes x)
bytes_in bytes (Err e) = Err e

-- what the row record's two clauses leave open: nothing but where the part lies
pub row_record_in_one : {A : Type 0} (bytes : A → List ℕ) (rb : List ℕ) (n : ℕ) (r s : Result A Refused)
    → number_in r ≡ row_record_number_call rb n → MatchResult r (λ x. bytes x ≡ row_record_call rb n) (λ _. row_record_call rb n ≡ [])
    → number_in s ≡ row_record_number_call rb n → MatchResult s (λ x. bytes x ≡ row_record_call rb n) (λ _. row_record_call rb n ≡ [])
    → bytes_in bytes r ≡ bytes_in bytes s
row_record_in_one bytes rb n (Ok x) (Ok y) k b l d = ap Ok (b ∙ sym d)
row_record_in_one bytes rb n (Ok x) (Err f) k b l d = absurd (refusal_told f (l ∙ sym k))
row_record_in_one bytes rb n (Err e) (Ok y) k b l d = absurd (refusal_told e (k ∙ sym l))
row_record_in_one bytes rb n (Err e) (Err f) k b l d = ap Err (number_of_one e f (k ∙ sym l))

pub counted_in_one : (r s : Result ℕ Refused) → counted_in r ≡ counted_in s → r ≡ s
counted_in_one (Ok c) (Ok d) h = ap Ok (ap (λ (c : Counted). c.count) h)
counted_in_one (Ok c) (Err f) h = absurd (refusal_told f (sym (ap (λ (c : Counted). c.number) h)))
counted_in_one (Err e) (Ok d) h = absurd (refusal_told e (ap (λ (c : Counted). c.number) h))
counted_in_one (Err e) (Err f) h = ap Err (number_of_one e f (ap (λ (c : Counted). c.number) h))

pub open_journals_in_one : (r s : Result ℕ Refused) → open_journals_in r ≡ open_journals_in s → r ≡ s
open_journals_in_one (Ok c) (Ok d) h = ap Ok (ap (λ (o : OpenJournals). o.journals) h)
open_journals_in_one (Ok c) (Err f) h = absurd (refusal_told f (sym (ap (λ (o : OpenJournals). o.number) h)))
open_journals_in_one (Err e) (Ok d) h = absurd (refusal_told e (ap (λ (o : OpenJournals). o.number) h))
open_journals_in_one (Err e) (Err f) h = ap Err (number_of_one e f (ap (λ (o : OpenJournals). o.number) h))

pub live_rows_in_one : (r s : Result ℕ Refused) → live_rows_in r ≡ live_rows_in s → r ≡ s
live_rows_in_one (Ok c) (Ok d) h = ap Ok (ap (λ (l : LiveRows). l.rows) h)
live_rows_in_one (Ok c) (Err f) h = absurd (refusal_told f (sym (ap (λ (l : LiveRows). l.number) h)))
live_rows_in_one (Err e) (Ok d) h = absurd (refusal_told e (ap (λ (l : LiveRows). l.number) h))
live_rows_in_one (Err e) (Err f) h = ap Err (number_of_one e f (ap (λ (l : LiveRows). l.number) h))

-- the fault that is at a place
fault_of : Checked → Fault
fault_of c = cond (eqb c.book 0) WrongSizes (cond (eqb c.book 1) (Journal c.at) (Row c.at c.byte))

fault_back : (f : Fault) → fault_of (fault_at f) ≡ f
unfolding fault_of
fault_back WrongSizes = refl
fault_back (Journal r) = refl
fault_back (Row r b) = refl

-- and no fault has the number 0
fault_told : (f : Fault) → checked done 0 0 0 ≡ fault_at f → ⊥
fault_told f h = refusal_told (refused_by f) (refused_number f ∙ ap (λ (c : Checked). c.number) (sym h))

pub checked_in_one : (r s : Result (Unit {0}) Fault) → checked_in r ≡ checked_in s → r ≡ s
checked_in_one (Ok x) (Ok y) h = refl
checked_in_one (Ok x) (Err f) h = absurd (fault_told f h)
checked_in_one (Err e) (Ok y) h = absurd (fault_told e (sym h))
checked_in_one (Err e) (Err f) h = ap Err (sym (fault_back e) ∙ ap fault_of h ∙ fault_back f)
