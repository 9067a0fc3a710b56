-- The text of a line. Assumes nothing.
use Rattle.std.specs.Prelude.{ℕ, zero, suc, ◌+◌, ◌/◌, ◌%◌, cond, List, [], ◌∷◌, ◌++◌, length, ltb}

abbrev pub space : ℕ
space = 32

abbrev pub line_end : ℕ
line_end = 10

-- the last n digits of a number, in decimal without leading zeros
abbrev pub digits : ℕ → ℕ → List ℕ
digits zero x = []
digits (suc n) x = let more = digits n (x / 10) ++ ((48 + x % 10) ∷ []) in cond (ltb x 10) ((48 + x) ∷ []) more

-- a number in decimal: it has no more digits than it counts, and at least one
unfoldable pub decimal : ℕ → List ℕ
decimal x = digits (suc x) x

-- numbers in decimal, a space before each
abbrev pub spaced : List ℕ → List ℕ
spaced [] = []
spaced (x ∷ xs) = (space ∷ decimal x) ++ spaced xs

-- texts
abbrev texts_name : List ℕ
texts_name = 116 ∷ 101 ∷ 120 ∷ 116 ∷ 115 ∷ []

-- rows
abbrev rows_name : List ℕ
rows_name = 114 ∷ 111 ∷ 119 ∷ 115 ∷ []

-- end
abbrev end_name : List ℕ
end_name = 101 ∷ 110 ∷ 100 ∷ []

-- refused
abbrev refused_name : List ℕ
refused_name = 114 ∷ 101 ∷ 102 ∷ 117 ∷ 115 ∷ 101 ∷ 100 ∷ []

-- record
abbrev record_name : List ℕ
record_name = 114 ∷ 101 ∷ 99 ∷ 111 ∷ 114 ∷ 100 ∷ []

-- ask
abbrev ask_name : List ℕ
ask_name = 97 ∷ 115 ∷ 107 ∷ []

-- First line: k and the live rows.
unfoldable pub first_line : ℕ → ℕ → List ℕ
first_line k rows = texts_name ++ spaced (k ∷ []) ++ (space ∷ rows_name) ++ spaced (rows ∷ []) ++ (line_end ∷ [])

-- A word's line: how long it is, how many journals show it, and which steps it has.
unfoldable pub word_line : ℕ → List ℕ → List ℕ
word_line count w = decimal (length w) ++ spaced (count ∷ w) ++ (line_end ∷ [])

-- Last line: the number of words.
unfoldable pub last_line : ℕ → List ℕ
last_line words = end_name ++ spaced (words ∷ []) ++ (line_end ∷ [])

-- The line of a refused entry: its refusal's number, and how many entries came before it.
unfoldable pub refused_entry_line : ℕ → ℕ → List ℕ
refused_entry_line n r = refused_name ++ spaced (n ∷ []) ++ (space ∷ record_name) ++ spaced (r ∷ []) ++ (line_end ∷ [])

-- The line of a refused ask: its refusal's number.
unfoldable pub refused_ask_line : ℕ → List ℕ
refused_ask_line n = refused_name ++ spaced (n ∷ []) ++ (space ∷ ask_name) ++ (line_end ∷ [])
