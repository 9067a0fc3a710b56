use Prim.Native.Nat.{ℕ, ◌+◌, min}
use mathlib.Core.Path.{◌≡◌, ap, ◌∙◌}
use lib.ListN.{length, take, drop, replicate}
use borrow.Author.Rules.{rules}
use Rattle.std.specs.Prelude.{Ok, refl, true}
use Rattle.std.specs.Option.{is_some, unwrap_or}
use Rattle.list.specs.ListCall.{Asked, asked, whole_list, due_in, listed_in}
use Rattle.load.proofs.WordsLeft.{words_left, words_all}
use Rattle.load.proofs.report.print_words.Goals as goal

pub returns-then-not-more : goal.returns-then-not-more
returns-then-not-more g c =
    let a = c.args in
    let l = c.loop in
    let call : Asked = asked a.journals.now a.rows.now a.ask.quorum a.ask.limit (is_some l.last) (unwrap_or l.last (replicate 16 0)) l.page in
    let listed = rw c.in-Ok.is at c.fetch.ensures in
    let written : c.min-written.result ≡ min c.in-Ok.field-0.written 1024 = search rules in
    ap (λ (n : ℕ). l.words + n) written
    ∙ words_all call (listed_in (Ok c.in-Ok.field-0)) _ listed refl l.invariant.1 l.words l.invariant.2 c.if-not-more.true

pub loop-preserved : goal.loop-preserved
loop-preserved g c =
    let a = c.args in
    let l = c.loop in
    let call : Asked = asked a.journals.now a.rows.now a.ask.quorum a.ask.limit (is_some l.last) (unwrap_or l.last (replicate 16 0)) l.page in
    let listed = rw c.in-Ok.is at c.fetch.ensures in
    let written : c.min-written.result ≡ min c.in-Ok.field-0.written 1024 = search rules in
    let last : c.unwrap.result ≡ take 16 (drop 16368 c.fetch.new.page) = search rules in (
      search rules,
      search rules,
      ap (λ (n : ℕ). l.words + n + length (due_in (whole_list call) true c.unwrap.result)) written
          ∙ words_left call (listed_in (Ok c.in-Ok.field-0)) _ listed refl l.invariant.1 l.words l.invariant.2 c.if-not-more.false c.unwrap.result last,
    )
