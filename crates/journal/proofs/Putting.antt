-- The next journal opened, and a step put at the end of a journal that has room for it: the book after it. Assumes nothing.
use Rattle.std.proofs.Common.{◌≡◌, ℕ, ◌+◌, ◌*◌, ◌<◌, true, List, length, set, ap, ◌∙◌}
use Rattle.words.specs.Journals.{opened, appended_at, steps_at}
use Rattle.records.specs.JournalBook.{journal_form, journals_of, journal_book}
use Rattle.records.proofs.Form.{form_book}
use Rattle.records.proofs.Writing.{open_bytes, append_bytes}

-- the byte behind the open records says open
pub opened_book : (b : List ℕ) → journal_form b ≡ true → (k : ℕ) → k ≡ length (journals_of b) → k < 16
    → set b (256 * k) 1 ≡ journal_book (opened (journals_of b))
opened_book b t k e h =
    let f = form_book b t in
    ap (λ (c : List ℕ). set c (256 * k) 1) f.1 ∙ rw e (open_bytes (journals_of b) f.0 (rw e at h))

-- the step behind the others, and one more in the length byte
pub put_book : (b : List ℕ) → journal_form b ≡ true → (i : ℕ) → i < length (journals_of b) → (s n : ℕ) → n ≡ steps_at i (journals_of b) → n < 200
    → set (set b (256 * i + (2 + n)) s) (256 * i + 1) (n + 1) ≡ journal_book (appended_at i s (journals_of b))
put_book b t i h s n e l =
    let f = form_book b t in
    ap (λ (c : List ℕ). set (set c (256 * i + (2 + n)) s) (256 * i + 1) (n + 1)) f.1 ∙ rw e (append_bytes i s (journals_of b) f.0 h (rw e at l))
