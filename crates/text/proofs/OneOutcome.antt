-- No second line fits what a function promises: the promise is an equation for the whole line, the bytes behind its text
-- with it. Assumes nothing.
use Prim.Native.Nat.{ℕ}
use mathlib.Core.Path.{◌≡◌, sym, ◌∙◌}
use mathlib.Core.Bool.{cond}
use mathlib.Core.List.{List, []}
use lib.ListN.{length}
use lib.Dec.{leb}
use Rattle.text.specs.declared.line.Line.{Line}
use Rattle.text.specs.Lines.{line_of}
use Rattle.text.specs.Text.{first_line, word_line, last_line, refused_entry_line, refused_ask_line}

-- two lines that hold the text, zeros behind it, are equal
abbrev pub OneLine : List ℕ → Type 0
OneLine t = (l m : Line) → l ≡ line_of t → m ≡ line_of t → l ≡ m

-- of every text
one_line : (t : List ℕ) → OneLine t
one_line t l m e f = e ∙ sym f

pub first_line_one : (k rows : ℕ) → OneLine (first_line k rows)
first_line_one k rows = one_line (first_line k rows)

pub word_line_one : (count : ℕ) (word : List ℕ) → OneLine (cond (leb (length word) 15) (word_line count word) [])
word_line_one count word = one_line (cond (leb (length word) 15) (word_line count word) [])

pub last_line_one : (words : ℕ) → OneLine (last_line words)
last_line_one words = one_line (last_line words)

pub refused_entry_line_one : (number entry : ℕ) → OneLine (refused_entry_line number entry)
refused_entry_line_one number entry = one_line (refused_entry_line number entry)

pub refused_ask_line_one : (number : ℕ) → OneLine (refused_ask_line number)
refused_ask_line_one number = one_line (refused_ask_line number)
