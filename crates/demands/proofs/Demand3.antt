-- Demand 3. On sound books, by a quorum from 1 to k and a length of at most 15, the list is fetched in parts from the start,
-- each call lent an output of its own, of any allowed size and any content. Every call answers 0; each part but the last says
-- that a further word remains, and the last that none does. The words of all parts, joined, are exactly the words up to
-- the length that at least as many journals as the quorum have in them. They ascend in dictionary order, so each
-- stands there once. Assumes nothing.
use Prim.Native.Nat.{ℕ, suc, ◌≤◌}
use mathlib.Core.Path.{◌≡◌, refl, ap, ◌∙◌}
use mathlib.Core.Bool.{false, false≢true}
use mathlib.Core.List.{List}
use lib.ListN.{length}
use Rattle.words.specs.Listing.{list_of}
use Rattle.words.specs.Words.{count}
use Rattle.words.proofs.Dictionary.{list_ascending}
use Rattle.records.specs.Sizes.{word_record_size, longest_word}
use Rattle.records.specs.Sound.{BooksOf}
use Rattle.records.proofs.Sound.{books_journals}
use Rattle.list.specs.ListCall.{Asked, asked}
use Rattle.list.specs.Parts.{joined}
use Rattle.list.proofs.Parts.{parts, fetchable}
use Rattle.demands.specs.InParts.{InParts}
use Rattle.demands.specs.Taken.{AllowedOutput, Taken}
use Rattle.demands.proofs.Shared.{list_shared}
use Rattle.demands.proofs.Taken.{right_output, taken_done}

pub demand_3 : {js : List (List ℕ)} {jb rb : List ℕ} → BooksOf js jb rb → (q n : ℕ) → 1 ≤ q → q ≤ length js → n ≤ longest_word
    → (r : List ℕ) → length r ≡ word_record_size → (outs : ℕ → List ℕ) → ((i : ℕ) → AllowedOutput (outs i))
    → InParts js q n (asked jb rb q n false r (outs 0)) outs
demand_3 {js} {jb} {rb} b q n least most limit r l outs o =
    let a : Asked = asked jb rb q n false r (outs 0) in
    let taken : Taken js a = record {
      books = b;
      quorum_least = least;
      quorum_most = most;
      limit = limit;
      word_size = l;
      word = λ y. absurd (false≢true y);
      output = o 0;
    } in
    let f = fetchable a outs (λ i. right_output (o i)) (taken_done taken) in
    let e : joined a outs (suc f.0) ≡ list_of (count js) q n = parts a outs refl f.1 ∙ ap (λ (k : List (List ℕ)). list_of (count k) q n) (books_journals b) in
    record {
      last = f.0;
      fetched = f.1;
      members = λ w. rw e (list_shared js q n w);
      in_order = rw e (list_ascending (count js) q n);
      is_list = e;
    }
