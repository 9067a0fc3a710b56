-- `Keys::rank` meets its contract: the keys ascend, so that halving finds where those that come before the key end. Assumes nothing.
use mathlib.Core.List.{List}
use Prim.Native.Nat.{ℕ}
use Rattle.std.proofs.Common.{rules}
use Rattle.std.proofs.lemmas.List.Sorted.{IsPartitionPoint-from_clause}
use Rattle.words.specs.Order.{before}
use Rattle.keys.proofs.Ranks.{parted, rank_is}
use Rattle.keys.proofs.Keys.rank.Goals as goal

pub returns-clause-place : goal.returns-clause-place
returns-clause-place c =
    let key = c.args.key in
    let keys = c.self.inside.held.items in
    let found = c.partition_point in
    let point = IsPartitionPoint-from_clause (λ (x : List ℕ). before x key) _ _ found.ensures.partitioned
    (rw c.as_slice.ensures.value (parted key keys c.self.invariant.ascending)) (λ a r q k. search rules) in
    rw (← c.self.view_is) (rank_is key keys found.result (rw c.as_slice.ensures.value at found.ensures.bound) (rw c.as_slice.ensures.value at point))
