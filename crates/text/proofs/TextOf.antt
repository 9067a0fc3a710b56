-- The text of a line: of one that holds a text, and of one with more behind it. Assumes nothing.
use Prim.Native.Nat.{ℕ, ◌+◌, ◌-◌, ◌≤◌}
use mathlib.Core.Path.{◌≡◌, refl, ap, ◌∙◌}
use mathlib.Core.List.{List, ◌++◌}
use lib.ListN.{length, take, replicate}
use borrow.Rule.Slice.PartMut.{put_mid}
use Rattle.std.proofs.lemmas.List.{take_at}
use Rattle.std.proofs.lemmas.Slice.{take-put_mid}
use Rattle.text.specs.declared.line.Line.{Line}
use Rattle.text.specs.Lines.{line_size, line_of, text_of}

-- a line that holds a text has that text
pub text_line : (t : List ℕ) → text_of (line_of t) ≡ t
unfolding line_of text_of
text_line t = take_at t (replicate (line_size - length t) 0) (length t) refl

-- so have the bytes that count
pub line_text : (l : Line) (t : List ℕ) → l ≡ line_of t → take l.len l.bytes ≡ t
unfolding text_of
line_text l t e = ap text_of e ∙ text_line t

-- a text stored at the end of a line is behind the line's text
pub text_put : (l : Line) (more : List ℕ) (k n : ℕ) → n ≡ l.len + length more → l.len ≤ length l.bytes
    → text_of (record { bytes = put_mid l.len k l.bytes more; len = n }) ≡ text_of l ++ more
unfolding text_of
text_put l more k n e h = take-put_mid l.len k l.bytes more n e h
