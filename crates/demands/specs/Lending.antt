-- How a book is lent to a call that may write it. Assumes nothing.
use Rattle.std.specs.Prelude.{ℕ, List, ◌++◌, length, take, drop}

-- The book itself, a part of it, or something longer that the book stands in.
pub data Lending : Type 0 where
  whole : Lending
  part : (start size : ℕ) → Lending
  within : (front behind : List ℕ) → Lending

-- the bytes that are lent of the book b
abbrev pub lent : Lending → List ℕ → List ℕ
lent whole b = b
lent (part start size) b = take size (drop start b)
lent (within front behind) b = front ++ (b ++ behind)

-- the book b once the bytes lent have become x: what wasn't lent stays
abbrev pub handed_back : Lending → List ℕ → List ℕ → List ℕ
handed_back whole b x = x
handed_back (part start size) b x = take start b ++ (x ++ drop size (drop start b))
handed_back (within front behind) b x = take (length b) (drop (length front) x)
