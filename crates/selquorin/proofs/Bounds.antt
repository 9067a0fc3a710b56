-- How large the parts of the check's answer can be, how many open journals and live rows there are, and how many words the list can
-- write, so that they fit into one number. Assumes nothing.
use Prim.Native.Nat.{ℕ, ◌/◌, ◌%◌, ◌≤◌, ◌<◌}
use native.Mathlib.Omega.{arith}
use mathlib.Core.Path.{◌≡◌, subst, sym, ap}
use mathlib.Core.Bool.{Bool, not, ◌||◌}
use mathlib.Core.List.{List}
use lib.ListN.{length, length-take}
use lib.Dec.{eqb, ltb}
use borrow.Author.Tests.{ltb-false}
use Rattle.records.specs.Sound.{right_sizes}
use Rattle.books.specs.Numbers.{first}
use Rattle.books.specs.Check.{check_call, Verdict, wrong_sizes, book_one, too_many, book_two, all_right, Checked}
use Rattle.books.specs.OpenJournals.{open_journals_call, OpenJournals}
use Rattle.books.specs.LiveRows.{live_rows_call, LiveRows}
use Rattle.books.proofs.BookSizes.{both_sized}
use Rattle.books.proofs.Checks.{check_verdict}
use Rattle.books.proofs.LiveRowsCases.{live_few}
use Rattle.books.proofs.OpenJournalsCases.{open_few}
use Rattle.books.proofs.Refusals.{pass, neither, told_most}
use Rattle.list.specs.ListCall.{Asked, Wrote, wrong_output, list_refusals, due, fitting, wrote, list_call, Listed}

-- a record is at most 1,000, a byte below 64, and number and book are at most 2
abbrev pub Small : Checked → Type 0
Small c = (c.at ≤ 1000) × (c.byte < 64) × (c.number ≤ 2) × (c.book ≤ 2)

verdict_small : (jb rb : List ℕ) {c : Checked} → Verdict jb rb c → Small c
verdict_small jb rb (wrong_sizes w) = (omega arith, omega arith, omega arith, omega arith)
verdict_small jb rb (book_one w f) = (omega (arith, f.within), omega arith, omega arith, omega arith)
verdict_small jb rb (too_many w f m) = (omega arith, omega arith, omega arith, omega arith)
verdict_small jb rb (book_two {r = r} {i = i} w f m b d) = (omega (arith, d.within, (both_sized jb rb w).1), b, omega arith, omega arith)
verdict_small jb rb (all_right t) = (omega arith, omega arith, omega arith, omega arith)

pub small : (jb rb : List ℕ) {c : Checked} → c ≡ check_call jb rb → Small c
small jb rb e = subst Small (sym e) (verdict_small jb rb (check_verdict jb rb))

-- the open journals are at most 16, and the live rows at most 1,000
pub few_journals : (jb : List ℕ) {o : OpenJournals} → o ≡ open_journals_call jb → o.journals ≤ 16
few_journals jb e = subst (λ (o : OpenJournals). o.journals ≤ 16) (sym e) (open_few jb)

pub few_rows : (jb rb : List ℕ) {l : LiveRows} → l ≡ live_rows_call jb rb → l.rows ≤ 1000
few_rows jb rb e = subst (λ (l : LiveRows). l.rows ≤ 1000) (sym e) (live_few jb rb)

-- an output that isn't refused has at most 65,536 bytes
output_small : (a : Asked) → first (list_refusals a) ≡ 0 → length a.out ≤ 65536
output_small a e =
    let books : Bool = not (right_sizes a.journals a.rows) in
    let size : Bool = not (eqb (length a.word) 16) in
    let p = pass (books || (size || wrong_output a.out)) 0 _ e in
    let o = (neither size (wrong_output a.out) (neither books _ p.0).1).1 in
    let s = (neither (not (eqb (length a.out % 16) 0)) _ o).1 in
    ltb-false 65536 (length a.out) (neither (ltb (length a.out) 16) _ s).1

fitting_few : (a : Asked) → length a.out ≤ 65536 → length (fitting a) ≤ 4096
fitting_few a h = omega (arith, length-take (length a.out / 16) (due a))

pub call_few : (a : Asked) → (list_call a).answer.written ≤ 4096
unfolding list_call
call_few a = told_most (first (list_refusals a)) (length (fitting a)) 4096 (λ e. fitting_few a (output_small a e))

-- the list writes at most 4,096 words
pub few : (a : Asked) {l : Listed} {out : List ℕ} → wrote l out ≡ list_call a → l.written ≤ 4096
few a e = subst (λ (n : ℕ). n ≤ 4096) (sym (ap (λ (w : Wrote). w.answer.written) e)) (call_few a)
