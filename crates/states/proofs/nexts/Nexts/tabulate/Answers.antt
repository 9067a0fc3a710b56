use Prim.Native.Nat.{◌+◌, ◌*◌, ◌≤◌}
use native.Mathlib.Omega.{arith}
use mathlib.Core.Path.{ap, ◌∙◌}
use lib.ListN.{length}
use Rattle.records.specs.JournalBook.{journals_of}
use Rattle.journal.proofs.Journals.{few, journal_short}
use Rattle.states.proofs.Entries.{part_size, right_put}
use Rattle.states.proofs.nexts.Nexts.tabulate.Goals as goal

pub loop-i-init : goal.loop-i-init
loop-i-init c = record { few = omega (arith, c.open_count-self.ensures, few c.args.journals.now.bytes.now); many = c.open_count-self.ensures; right = λ i x h to. omega arith }

pub fill_nexts-requires : goal.fill_nexts-requires
fill_nexts-requires c =
    let a = c.args in
    let l = c.loop-i in (
      omega (arith, ap length c.journal_at.ensures, journal_short a.journals.now.bytes.now a.journals.now.form l.i (omega arith)),
      part_size (3216 * l.i) 3216 l.self.entries (omega arith),
    )

pub loop-i-preserved : goal.loop-i-preserved
loop-i-preserved c =
    let js = journals_of c.args.journals.now.bytes.now in
    let l = c.loop-i in
    let within : 3216 * l.i + 3216 ≤ length l.self.entries = omega arith in
    record {
      few = l.invariant.few;
      many = l.invariant.many;
      right = right_put js l.i l.self.entries c.fill_nexts.new.entries _ (omega arith) (c.fill_nexts.auto.entries ∙ part_size (3216 * l.i) 3216 l.self.entries within) l.invariant.right
          (rw c.journal_at.ensures at c.fill_nexts.ensures);
    }

pub invariant_of-self : goal.invariant_of-self
invariant_of-self c = record { few = omega (arith, c.open_count-self.ensures, few c.args.journals.now.bytes.now) }

pub returns : goal.returns
returns c = let l = c.loop-i in record { many = l.invariant.many; entries = λ i x h y. l.invariant.right i x (omega (arith, l.invariant.many)) y }
