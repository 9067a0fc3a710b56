-- Writing the words of d into an output, one record each: where i of them stand in the output, which word comes next, and what is left when the output
-- is full or the words have ended. Assumes nothing.
use Prim.Native.Nat.{ℕ, ◌+◌, ◌*◌, ◌≤◌, ◌<◌, ◌-◌}
use native.Mathlib.Omega.{arith}
use mathlib.Core.Path.{◌≡◌, refl, sym, ap, ◌∙◌}
use mathlib.Core.Bool.{false}
use mathlib.Core.List.{List, [], ◌∷◌, ◌++◌, append_assoc}
use lib.ListN.{length, take, drop, length-append, length-drop}
use lib.Seq.{take_at, drop_at, take_all, take-add, drop-drop, length-take-le}
use lib.Dec.{ltb}
use borrow.Author.Tests.{lt-ltb, le-ltb}
use Rattle.std.specs.Prelude.{Option, None, Some, option_to_list}
use Rattle.std.specs.Option.{is_some}
use borrow.Rule.Slice.PartMut.{put_mid}
use Rattle.words.specs.Listing.{past}
use Rattle.words.specs.Order.{Ascending}
use Rattle.records.specs.Bytes.{flat}
use Rattle.records.specs.WordRecord.{word_record}
use Rattle.records.proofs.Flat.{flat_snoc}
use Rattle.page.specs.Written.{written}
use Rattle.page.proofs.Ends.{EndOf, next_in, none_in, past_in}

module _ (d : List (List ℕ)) (out₀ : List ℕ) where
  -- i words of d are written, and m is the next one, if there is one
  pub record PageAt (out : List ℕ) (m : Option (List ℕ)) (i : ℕ) : Type 0 where
    pub passed : i ≤ length d
    pub within : 16 * i ≤ length out₀
    pub next : option_to_list m ≡ take 1 (drop i d)
    pub wide : length (flat word_record (take i d)) ≡ 16 * i
    pub wrote : out ≡ flat word_record (take i d) ++ drop (16 * i) out₀

  -- none is written yet
  pub page_start : (m : Option (List ℕ)) → option_to_list m ≡ take 1 d → PageAt out₀ m 0
  page_start m e = record { passed = omega arith; within = omega arith; next = e; wide = refl; wrote = refl }

  module _ {out : List ℕ} {m : Option (List ℕ)} {i : ℕ} (p : PageAt out m i) where
    -- the output keeps its length
    pub page_length : length out ≡ length out₀
    page_length = omega (arith, p.within, ap length p.wrote, length-append (flat word_record (take i d)) (drop (16 * i) out₀), p.wide, length-drop (16 * i) out₀)

    -- a word that was found is the next one
    pub page_word : (x : List ℕ) → m ≡ Some x → x ∷ [] ≡ take 1 (drop i d)
    page_word x f = rw f at p.next

    -- and with it there is one word more
    take_more : (x : List ℕ) → x ∷ [] ≡ take 1 (drop i d) → take (i + 1) d ≡ take i d ++ (x ∷ [])
    take_more x e = take-add i 1 d ∙ ap (λ (l : List (List ℕ)). take i d ++ l) (sym e)

    -- its record is written into the part of 16 bytes behind the others
    pub page_turn : (x : List ℕ) → m ≡ Some x → 16 * (i + 1) ≤ length out₀
        → (l : List (List ℕ)) → Ascending l → EndOf d l → (m' : Option (List ℕ)) → option_to_list m' ≡ take 1 (past x l)
        → (part : List ℕ) → part ≡ word_record x → length part ≡ 16
        → PageAt (put_mid (16 * i) (16 * i + 16 - 16 * i) out part) m' (i + 1)
    page_turn x f w l a e m' q part v z =
        let t = page_word x f in
        let r = next_in d i x t in
        let s = take_more x t in
        let old : List ℕ = flat word_record (take i d) in
        let b : flat word_record (take (i + 1) d) ≡ old ++ word_record x = ap (flat word_record) s ∙ flat_snoc word_record (take i d) x in
        let k : 16 * i + 16 - 16 * i ≡ 16 = omega arith in
        let y : 16 * i + 16 ≡ 16 * (i + 1) = omega arith in
        let front : take (16 * i) out ≡ old = ap (take (16 * i)) p.wrote ∙ take_at old (drop (16 * i) out₀) (16 * i) p.wide in
        let behind : drop (16 * i) out ≡ drop (16 * i) out₀ = ap (drop (16 * i)) p.wrote ∙ drop_at old (drop (16 * i) out₀) (16 * i) p.wide in
        record {
          passed = omega (arith, r.0);
          within = w;
          next = q ∙ ap (take 1) (past_in d l a e i x t);
          wide = omega (arith, ap length b, length-append old (word_record x), p.wide, ap length v);
          wrote = rw (k, front, behind, drop-drop 16 (16 * i) out₀, y, b, v) (sym (append_assoc old (word_record x) (drop (16 * (i + 1)) out₀)));
        }

    -- what stands in the output is what was to be written
    page_wrote : (room : ℕ) → take room d ≡ take i d → (i ≡ length (take room d)) × (out ≡ written (take room d) out₀)
    page_wrote room t =
        let l : length (take i d) ≡ i = length-take-le i d p.passed in
        (sym (ap length t ∙ l), rw (t, l) p.wrote)

    -- the words have ended
    pub page_stop : (room : ℕ) → i < room → m ≡ None
        → (i ≡ length (take room d)) × ((false ≡ ltb i (length d)) × (out ≡ written (take room d) out₀))
    page_stop room h f =
        let e = none_in d i (rw f at p.next) in
        let w = page_wrote room (take_all room d (omega (arith, p.passed)) ∙ sym (take_all i d e)) in
        (w.0, (sym (le-ltb i (length d) e), w.1))

    -- the output is full
    pub page_full : (room : ℕ) → i ≡ room → (i ≡ length (take room d)) × ((is_some m ≡ ltb i (length d)) × (out ≡ written (take room d) out₀))
    page_full room h =
        let w = page_wrote room (ap (λ (k : ℕ). take k d) (sym h)) in (
          w.0,
          (
            elim m as (λ n. m ≡ n → is_some n ≡ ltb i (length d)) [
              | None ↦ λ f. sym (le-ltb i (length d) (none_in d i (rw f at p.next)))
              | Some x ↦ λ f. sym (lt-ltb i (length d) (next_in d i x (page_word x f)).0)
            ] refl,
            w.1,
          ),
        )
