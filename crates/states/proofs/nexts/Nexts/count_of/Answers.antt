-- `states::Nexts::count_of` meets its contract, by what `count` says of the first k places. Assumes nothing.
use Prim.Native.Nat.{ℕ}
use mathlib.Core.Bool.{not}
use mathlib.Core.Path.{◌≡◌, sym, ◌∙◌}
use lib.Dec.{eqb}
use lib.ListN.{take}
use Rattle.std.proofs.Common.{rules}
use Rattle.std.specs.List.{count_by}
use Rattle.states.proofs.Live.{held_count}
use Rattle.states.proofs.nexts.Nexts.count_of.Goals as goal

pub returns : goal.returns
returns c =
    let places = take c.args.self.now.k c.args.key in
    let found : c.count.result ≡ count_by (λ (p : ℕ). not (eqb p 255)) places = search rules in
    found ∙ sym (held_count places)
