-- What the list answers, packed into one number. Assumes nothing.
use Rattle.std.specs.Prelude.{ℕ}
use Rattle.list.specs.ListCall.{Listed}
use Rattle.packing.specs.Packed.{packed_page}

abbrev pub packed_list : Listed → ℕ
packed_list l = packed_page l.number l.more l.written
