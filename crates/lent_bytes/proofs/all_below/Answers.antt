-- `lent_bytes::all_below` meets its contract: the definition goes byte by byte, as the chain does. Assumes nothing.
use Rattle.std.proofs.Common.{ℕ, true, false, cond, ◌&&◌, List, ◌∷◌, ◌≡◌, refl, nat_lt, rules}
use Rattle.std.proofs.iter.runs.Made.{chains}
use Rattle.std.proofs.lemmas.List.Recursion.{and_is}
use Rattle.records.specs.Bytes.{all_below}
use Rattle.lent_bytes.proofs.all_below.Goals as goal

by_byte : (n x : ℕ) (b : List ℕ) → all_below n (x ∷ b) ≡ (nat_lt x n && all_below n b)
by_byte n x b = elim (nat_lt x n) as (λ v. cond v (all_below n b) false ≡ (v && all_below n b)) [ true ↦ refl | false ↦ refl ]

pub returns : goal.returns
returns c =
    and_is (all_below c.args.limit) (λ x. nat_lt x c.args.limit) refl (by_byte c.args.limit) c.args.b.now 0 c.all.result
    (λ t. search (rules, chains)) (λ f. search (rules, chains))
