-- `states::Nexts::is_live` meets its contract, by what `any` says of the first k places. Assumes nothing.
use Prim.Native.Nat.{ℕ}
use mathlib.Core.Bool.{not}
use mathlib.Core.Path.{◌≡◌, sym, ◌∙◌}
use lib.Dec.{eqb}
use lib.ListN.{take}
use Rattle.std.proofs.Common.{rules, tests}
use Rattle.std.proofs.lemmas.Iterator.{YieldsList-from_slice}
use Rattle.std.proofs.lemmas.Iterator.Search.{any_from_yields_List}
use Rattle.std.specs.List.{list_any}
use Rattle.states.proofs.Live.{live_any}
use Rattle.states.proofs.nexts.Nexts.is_live.Goals as goal

pub returns : goal.returns
returns c =
    let places = take c.args.self.now.k c.args.key in
    let found : c.any.result ≡ list_any (λ (p : ℕ). not (eqb p 255)) places =
    any_from_yields_List _ _ _ _ c.any.ensures.ran (YieldsList-from_slice places (search rules)) (λ x b q k. search (rules, tests)) in
    found ∙ sym (live_any places)
