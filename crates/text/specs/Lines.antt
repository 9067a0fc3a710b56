-- A line by value: the one that holds a text, one with more behind it, and the text of a line. Assumes nothing.
use Rattle.std.specs.Prelude.{ℕ, ◌+◌, ◌-◌, ◌≡◌, List, ◌++◌, length, take, replicate}
use Rattle.text.specs.declared.line.Line.{Line}

-- A line has room for 96 bytes.
abbrev pub line_size : ℕ
line_size = 96

-- a text, zeros behind it
unfoldable pub line_of : List ℕ → Line
line_of t = record { bytes = t ++ replicate (line_size - length t) 0; len = length t }

-- r is the line l with more behind it: longer by as many bytes, and where l is a text, zeros behind it, r is that text and more, zeros behind them
pub record Longer (l : Line) (more : List ℕ) (r : Line) : Type 0 where
  pub size : r.len ≡ l.len + length more
  pub text : (t : List ℕ) → l ≡ line_of t → r ≡ line_of (t ++ more)

-- the text of a line, whatever stands behind it
unfoldable pub text_of : Line → List ℕ
text_of l = take l.len l.bytes
