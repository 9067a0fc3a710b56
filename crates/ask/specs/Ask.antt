-- The ask file `ask.bin`: quorum, length. Assumes nothing.
use Rattle.std.specs.Prelude.{ℕ, Result, Ok, Err, cond, not, ◌||◌, List, [], ◌∷◌, length, get_or, eqb, ltb}
use Rattle.records.specs.Sizes.{longest_word}
use Rattle.ask.specs.declared.Ask.{Ask}
use Rattle.books.specs.Answers.{number_of}
use Rattle.books.specs.declared.refused.Refused.{Refused}
use Rattle.books.specs.Numbers.{Refusal, first, done, wrong_quorum, wrong_length, wrong_ask, unless}

-- Empty or missing: quorum k, length 8.
abbrev pub default_length : ℕ
default_length = 8

abbrev pub quorum_of : ℕ → List ℕ → ℕ
quorum_of k ask = cond (eqb (length ask) 0) k (get_or ask 0 0)

abbrev pub length_of : List ℕ → ℕ
length_of ask = cond (eqb (length ask) 0) default_length (get_or ask 1 0)

-- then 9, then 8
abbrev pub limit_refusals : ℕ → ℕ → ℕ → List Refusal
limit_refusals k quorum limit =
    record { holds = ltb longest_word limit; number = wrong_length }
    ∷ record { holds = ltb quorum 1 || ltb k quorum; number = wrong_quorum }
    ∷ []

-- neither empty nor of two bytes: 12; then those
abbrev pub ask_refusals : ℕ → List ℕ → List Refusal
ask_refusals k ask =
    record { holds = not (eqb (length ask) 0 || eqb (length ask) 2); number = wrong_ask } ∷ limit_refusals k (quorum_of k ask) (length_of ask)

-- what the ask says: a number, the quorum and the list length
pub record Answer : Type 0 where
  pub number : ℕ
  pub quorum : ℕ
  pub limit : ℕ

abbrev pub answer : ℕ → ℕ → ℕ → Answer
answer n quorum limit = record { number = n; quorum = unless n quorum 0; limit = unless n limit 0 }

unfoldable pub ask_of : ℕ → ℕ → ℕ → Answer
ask_of k quorum limit = answer (first (limit_refusals k quorum limit)) quorum limit

unfoldable pub ask_call : ℕ → List ℕ → Answer
ask_call k ask = answer (first (ask_refusals k ask)) (quorum_of k ask) (length_of ask)

-- what the code's answer says
abbrev pub answer_in : Result Ask Refused → Answer
answer_in (Ok a) = record { number = done; quorum = a.quorum; limit = a.limit }
answer_in (Err e) = record { number = number_of e; quorum = 0; limit = 0 }
