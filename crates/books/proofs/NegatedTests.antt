-- A branch on what a call answered, read as what the call's promise says. Assumes nothing.
use mathlib.Core.Path.{◌≡◌, sym, ◌∙◌}
use mathlib.Core.Bool.{Bool, true, false, not}
use borrow.Author.Tests.{not-true, not-false}

-- the answer a is b, and `!a` was taken
pub said_no : {a b : Bool} → a ≡ b → not a ≡ true → b ≡ false
said_no e t = sym e ∙ not-true _ t

-- the answer a is b, and `!a` was passed
pub said_yes : {a b : Bool} → a ≡ b → not a ≡ false → b ≡ true
said_yes e f = sym e ∙ not-false _ f
