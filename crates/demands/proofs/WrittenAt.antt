-- Each record that the list call reports is written: the page is the records of the first words that are due, one after
-- the other. Assumes nothing.
use Prim.Native.Nat.{ℕ, zero, suc, ◌+◌, ◌*◌, ◌/◌, ◌<◌}
use native.Mathlib.Omega.{arith}
use mathlib.Core.Path.{◌≡◌, refl, ap, ◌∙◌}
use mathlib.Core.List.Memᴰ
use mathlib.Core.List.{List, [], ◌∷◌, ◌++◌, append_assoc}
use lib.ListN.{length, take, drop, get_or, length-take}
use lib.Seq.{take_at, drop-append-add, get_or-take}
use Rattle.records.specs.Bytes.{flat}
use Rattle.records.specs.Sizes.{word_record_size, longest_word}
use Rattle.records.specs.WordRecord.{word_record}
use Rattle.records.proofs.Flat.{Wide}
use Rattle.records.proofs.StepBytes.{step_bytes_length}
use Rattle.page.specs.Written.{written}
use Rattle.list.specs.ListCall.{Asked, due, fitting, list_call}
use Rattle.list.proofs.Parts.{listed}
use Rattle.demands.specs.Taken.{Taken}
use Rattle.demands.specs.WrittenAt.{WrittenAt}
use Rattle.demands.proofs.Taken.{taken_done}

-- the bytes of record r
flat_record : (f : List ℕ → List ℕ) (n : ℕ) (l : List (List ℕ)) (z : List ℕ) → Wide f n l
    → (r : ℕ) → r < length l → take n (drop (n * r) (flat f l ++ z)) ≡ f (get_or l r [])
flat_record f n [] z h r b = absurd (omega arith)
flat_record f n (a ∷ l) z h zero b =
    let e : n * zero ≡ 0 = omega arith in
    rw (e, append_assoc) (take_at (f a) (flat f l ++ z) n (h a (Memᴰ.head refl)))
flat_record f n (a ∷ l) z h (suc r) b =
    let e : n * suc r ≡ length (f a) + n * r = omega (arith, h a (Memᴰ.head refl)) in
    rw (e, append_assoc, drop-append-add (f a) (flat f l ++ z) (n * r)) (flat_record f n l z (λ c m. h c (Memᴰ.tail m)) r (omega arith))

-- what a call that is done reports and leaves
done_page : (a : Asked) → (list_call a).answer.number ≡ 0
    → ((list_call a).answer.written ≡ length (fitting a)) × ((list_call a).out ≡ written (fitting a) a.out)
unfolding list_call
done_page a e = (rw e, rw e)

pub each_written : {js : List (List ℕ)} {a : Asked} → Taken js a → (i : ℕ) → i < (list_call a).answer.written → WrittenAt a (list_call a).out i
each_written {js} {a} t i h =
    let p = done_page a (taken_done t) in
    let b : i < length (fitting a) = rw p.0 at h in
    let room : ℕ = length a.out / word_record_size in
    let wide : Wide word_record word_record_size (fitting a) = λ w m. step_bytes_length longest_word w (omega (arith, t.limit, (listed a w m).short)) in
    record {
      is_due = omega (arith, length-take room (due a));
      bytes = rw p.1 (flat_record word_record word_record_size (fitting a) (drop (word_record_size * length (fitting a)) a.out) wide i b
          ∙ ap word_record (get_or-take room (due a) i [] (omega (arith, length-take room (due a)))));
    }
