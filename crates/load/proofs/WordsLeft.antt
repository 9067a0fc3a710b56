-- Page after page, the words printed and those still due are as many as the whole list has: a page brings the words that it wrote, and where a
-- further word remains its last record is the word behind which the next call goes on. Assumes nothing.
use Prim.Native.Nat.{ℕ, ◌+◌, ◌*◌, ◌/◌, ◌≤◌, min}
use native.Mathlib.Omega.{arith}
use mathlib.Core.Path.{◌≡◌, sym, ap, ◌∙◌}
use mathlib.Core.Bool.{true, false}
use mathlib.Core.List.{List}
use lib.ListN.{length, take, drop, length-take}
use Rattle.records.specs.WordRecord.{word_record}
use Rattle.list.specs.ListCall.{Asked, whole_list, due, due_in, fitting, Wrote, wrote, list_call}
use Rattle.list.specs.Parts.{words_in, last_word}
use Rattle.list.specs.ListCall.{Listed}
use Rattle.list.proofs.Parts.{part_counts, whole_counts, last_record}

module _ (a : Asked) (r : Listed) (page : List ℕ) (e : wrote r page ≡ list_call a) (z : r.number ≡ 0) (p : length a.out ≡ 16384) where
  done : (list_call a).answer.number ≡ 0
  done = ap (λ (o : Wrote). o.answer.number) (sym e) ∙ z

  room : length a.out / 16 ≡ 1024
  room = omega (arith, p)

  -- no page has more than 1,024 words
  all_written : min r.written 1024 ≡ (list_call a).answer.written
  unfolding list_call
  all_written =
      let k : r.written ≡ length (fitting a) = ap (λ (o : Wrote). o.answer.written) e ∙ rw done in
      let w : length (fitting a) ≤ 1024 = omega (arith, length-take (length a.out / 16) (due a), room) in
      rw (done, k) (omega (arith, w))

  module _ (words : ℕ) (h : words + length (due a) ≡ length (whole_list a)) where
    -- a further word remains
    pub words_left : r.more ≡ true → (last : List ℕ) → last ≡ take 16 (drop (16 * 1023) page)
        → words + min r.written 1024 + length (due_in (whole_list a) true last) ≡ length (whole_list a)
    words_left t last f =
        let more : (list_call a).answer.more ≡ true = ap (λ (o : Wrote). o.answer.more) (sym e) ∙ t in
        let s : last ≡ word_record (last_word (words_in (list_call a))) =
        f ∙ ap (λ (o : Wrote). take 16 (drop (16 * 1023) o.out)) e ∙ last_record a 1023 done more room in
        rw s (omega (arith, all_written, part_counts a page done more, h))

    -- none remains
    pub words_all : r.more ≡ false → words + min r.written 1024 ≡ length (whole_list a)
    words_all t =
        let none : (list_call a).answer.more ≡ false = ap (λ (o : Wrote). o.answer.more) (sym e) ∙ t in
        omega (arith, all_written, whole_counts a done none, h)
