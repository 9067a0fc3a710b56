use Prim.Native.Nat.{ℕ, ◌/◌}
use native.Mathlib.Omega.{arith}
use mathlib.Core.Path.{◌≡◌}
use lib.ListN.{length}
use Rattle.std.specs.Prelude.{option_to_list}
use Rattle.words.proofs.Dictionary.{list_ascending}
use Rattle.next_word.specs.Searching.{words_of}
use Rattle.next_word.specs.Next.{table_of}
use Rattle.page.proofs.Ends.{there_end}
use Rattle.page.proofs.Paging.{page_start, page_turn, page_stop, page_full}
use Rattle.page.proofs.write_page.Goals as goal

pub loop-i-init : goal.loop-i-init
loop-i-init c = (page_start _ c.args.out.now c.args.first c.requires.first, c.requires.short)

pub loop-i-preserved : goal.loop-i-preserved
loop-i-preserved c =
    let s = c.args.search.now in
    let part = c.write_record.new.out in
    let rising = list_ascending (table_of s.rows.now) s.quorum s.limit in
    let full : length part ≡ 16 = omega (arith, c.write_record.auto.out) in (
      page_turn _ c.args.out.now c.loop-i.invariant.0 c.in-Some.word c.in-Some.is (omega arith) (words_of s) rising
          (there_end (option_to_list c.args.first) (words_of s) rising) c.next_word-at.result c.next_word-at.ensures.to part c.write_record.ensures full,
      c.next_word-at.ensures.short,
    )

pub returns-in_default-clause-count : goal.returns-in_default-clause-count
returns-in_default-clause-count c =
    omega (arith, (page_stop _ c.args.out.now c.loop-i.invariant.0 (length c.args.out.now / 16) c.loop-i-test.true c.in_default.is).0)

pub returns-in_default-clause-more : goal.returns-in_default-clause-more
returns-in_default-clause-more c =
    let p = page_stop _ c.args.out.now c.loop-i.invariant.0 (length c.args.out.now / 16) c.loop-i-test.true c.in_default.is in p.1.0

pub returns-in_default-clause-out_after : goal.returns-in_default-clause-out_after
returns-in_default-clause-out_after c =
    let p = page_stop _ c.args.out.now c.loop-i.invariant.0 (length c.args.out.now / 16) c.loop-i-test.true c.in_default.is in p.1.1

pub returns : goal.returns
returns c =
    let room : ℕ = length c.args.out.now / 16 in
    let all : c.loop-i.i ≡ room = omega arith in
    let p = page_full _ c.args.out.now c.loop-i.invariant.0 room all in
    record { count = omega (arith, p.0); more = let q = p.1.0 in cc; out_after = p.1.1 }
