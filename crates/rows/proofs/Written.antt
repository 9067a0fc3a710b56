-- A row's record as it is written: behind the places one arc after the other, in the place of zeros, and last the count. Assumes nothing.
use Rattle.std.proofs.Common.{ℕ, ◌≡◌, ◌<◌, ◌≤◌, ◌+◌, ◌-◌, ◌*◌, ◌/◌, ◌%◌, List, [], ◌∷◌, ◌++◌, length, get_or, take, set, replicate, append_assoc, length-append, length-take, refl, sym, ap, ◌∙◌, arith}
use Rattle.std.proofs.lemmas.List.{take_at, drop_at, set_at, drop-replicate, take_more}
use lib.Seq.{take_all}
use borrow.Rule.Slice.PartMut.{put_mid}
use Rattle.records.specs.Bytes.{two_bytes}
use Rattle.records.specs.RowBook.{record_of_row, behind_count}

-- two bytes for each number
two_length : (ns : List ℕ) → length (two_bytes ns) ≡ 2 * length ns
two_length [] = refl
two_length (n ∷ ns) = omega (arith, two_length ns)

two_append : (ns : List ℕ) (n : ℕ) → two_bytes (ns ++ n ∷ []) ≡ two_bytes ns ++ n % 256 ∷ n / 256 ∷ []
two_append [] n = refl
two_append (m ∷ ns) n = ap (λ l. m % 256 ∷ m / 256 ∷ l) (two_append ns n)

-- two bytes in the place of the first two zeros
spliced : (front ys : List ℕ) (a k n : ℕ) → length front ≡ a → put_mid a k (front ++ replicate n 0) ys ≡ front ++ ys ++ replicate (n - k) 0
spliced front ys a k n h = rw (take_at front (replicate n 0) a h, drop_at front (replicate n 0) a h, drop-replicate {X = ℕ} k n 0) (sym (append_assoc front ys (replicate (n - k) 0)))

module _ (places arcs : List ℕ) (p : length places ≡ 16) (a : length arcs ≡ 16) where
  front_length : (s : ℕ) → s ≤ 16 → length (places ++ two_bytes (take s arcs)) ≡ 16 + 2 * s
  front_length s h = omega (arith, length-append places (two_bytes (take s arcs)), two_length (take s arcs), length-take s arcs)

  -- one arc more
  pub arc_on : (s : ℕ) (r bytes : List ℕ) → s < 16 → get_or arcs s 0 < 65536 → bytes ≡ get_or arcs s 0 % 256 ∷ get_or arcs s 0 / 256 % 256 ∷ []
      → r ≡ places ++ two_bytes (take s arcs) ++ replicate (48 - 2 * s) 0
      → put_mid (16 + 2 * s) (16 + 2 * s + 2 - (16 + 2 * s)) r bytes ≡ places ++ two_bytes (take (s + 1) arcs) ++ replicate (48 - 2 * (s + 1)) 0
  arc_on s r bytes h fits b e =
      let x : ℕ = get_or arcs s 0 in
      let two : 16 + 2 * s + 2 - (16 + 2 * s) ≡ 2 = omega arith in
      let left : 48 - 2 * s - 2 ≡ 48 - 2 * (s + 1) = omega arith in
      let high : x / 256 % 256 ≡ x / 256 = omega arith in
      let here : s < length arcs = omega arith in
      rw (e, b, two) (spliced (places ++ two_bytes (take s arcs)) (x % 256 ∷ x / 256 % 256 ∷ []) (16 + 2 * s) 2 (48 - 2 * s) (front_length s (omega arith))
      ∙ rw (high, left, append_assoc places (two_bytes (take s arcs)) (x % 256 ∷ x / 256 ∷ []), take_more arcs s 0 here, two_append (take s arcs) x))

  -- all of them, and the count
  pub count_on : (s count : ℕ) (r : List ℕ) → 16 ≤ s → s ≤ 16 → r ≡ places ++ two_bytes (take s arcs) ++ replicate (48 - 2 * s) 0 → set r 48 count ≡ record_of_row places arcs count behind_count
  unfolding record_of_row
  count_on s count r h l e =
      let all : s ≡ 16 = omega arith in
      let whole : take 16 arcs ≡ arcs = take_all 16 arcs (omega arith) in
      rw (e, all) (set_at (places ++ two_bytes (take 16 arcs)) 0 behind_count count 48 (front_length 16 (omega arith)) ∙ rw whole)

pub ruleset written = (arc_on, count_on)
