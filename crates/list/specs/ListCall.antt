-- The list call: what it answers and writes. Assumes nothing.
use Rattle.std.specs.Prelude.{ℕ, Result, Ok, Err, ◌/◌, ◌%◌, Bool, false, not, ◌&&◌, ◌||◌, List, [], ◌∷◌, length, take, eqb, ltb}
use Rattle.words.specs.Words.{count}
use Rattle.words.specs.Listing.{list_of}
use Rattle.records.specs.Sizes.{word_record_size, longest_word}
use Rattle.books.specs.Numbers.{Refusal, first, done, wrong_size, damaged, wrong_length, wrong_quorum, wrong_word, unless}
use Rattle.records.specs.JournalBook.{journals_of}
use Rattle.records.specs.Sound.{right_sizes, sound}
use Rattle.records.specs.WordRecord.{word_form, word_of}
use Rattle.page.specs.Written.{written}
use Rattle.list.specs.AfterWord.{word_if, due_from}
use Rattle.books.specs.Answers.{number_of}
use Rattle.books.specs.declared.refused.Refused.{Refused}
use Rattle.page.specs.declared.Page.{Page}

-- the most bytes that an output may have
abbrev pub largest_output : ℕ
largest_output = 65536

-- an output takes whole word records, at least one and at most 4,096
abbrev pub wrong_output : List ℕ → Bool
wrong_output out = not (eqb (length out % word_record_size) 0) || (ltb (length out) word_record_size || ltb largest_output (length out))

-- what the call is given: the books, a quorum and a length, where to begin (at the start, or behind a word), and an output
pub record Asked : Type 0 where
  pub journals : List ℕ
  pub rows : List ℕ
  pub quorum : ℕ
  pub length_limit : ℕ
  pub after : Bool
  pub word : List ℕ
  pub out : List ℕ

abbrev pub asked : List ℕ → List ℕ → ℕ → ℕ → Bool → List ℕ → List ℕ → Asked
asked jb rb q n after r out = record {
  journals = jb;
  rows = rb;
  quorum = q;
  length_limit = n;
  after = after;
  word = r;
  out = out;
}

-- List: 1, 2, 9, 8, 10. What the word record holds is looked at only where the list goes on after it.
abbrev pub list_refusals : Asked → List Refusal
list_refusals a =
    record { holds = not (right_sizes a.journals a.rows) || (not (eqb (length a.word) word_record_size) || wrong_output a.out); number = wrong_size }
    ∷ record { holds = not (sound a.journals a.rows); number = damaged }
    ∷ record { holds = ltb longest_word a.length_limit; number = wrong_length }
    ∷ record { holds = ltb a.quorum 1 || ltb (length (journals_of a.journals)) a.quorum; number = wrong_quorum }
    ∷ record { holds = a.after && (not (word_form a.word) || ltb a.length_limit (length (word_of a.word))); number = wrong_word }
    ∷ []

-- the whole list of the journals, by quorum and length
abbrev pub whole_list : Asked → List (List ℕ)
whole_list a = list_of (count (journals_of a.journals)) a.quorum a.length_limit

-- the list from there on
abbrev pub due_in : List (List ℕ) → Bool → List ℕ → List (List ℕ)
due_in l after r = due_from l (word_if after r)

abbrev pub due : Asked → List (List ℕ)
due a = due_in (whole_list a) a.after a.word

-- the first words from there on, as many as fit or as remain
abbrev pub fitting : Asked → List (List ℕ)
fitting a = take (length a.out / word_record_size) (due a)

-- what is answered: a number, how many words were written, and whether there are more
pub record Listed : Type 0 where
  pub number : ℕ
  pub written : ℕ
  pub more : Bool

-- what the code's answer says
abbrev pub listed_in : Result Page Refused → Listed
listed_in (Ok p) = record { number = done; written = p.written; more = p.more }
listed_in (Err e) = record { number = number_of e; written = 0; more = false }

-- what is answered, and the output after it
pub record Wrote : Type 0 where
  pub answer : Listed
  pub out : List ℕ

abbrev pub wrote : Listed → List ℕ → Wrote
wrote r out = record { answer = r; out = out }

-- The answer: how many words were written, and whether there are more. Refused, it writes none and says "no".
unfoldable pub list_call : Asked → Wrote
list_call a =
    let n : ℕ = first (list_refusals a) in
    let ws : List (List ℕ) = fitting a in
    record {
      answer = record { number = n; written = unless n (length ws) 0; more = unless n (ltb (length ws) (length (due a))) false };
      out = unless n (written ws a.out) a.out;
    }
