-- `selquorin::selquorin_list` meets its contract: the list writes 4,096 words at most. Assumes nothing.
use Rattle.selquorin.proofs.Bounds.{few}
use Rattle.selquorin.proofs.selquorin_list.Goals as goal

pub packed_page-requires : goal.packed_page-requires
packed_page-requires c = few _ c.in-Ok.ensures
