-- A line with more behind it: with nothing, with one text after another, with one byte, with a text. Assumes nothing.
use Prim.Native.Nat.{ℕ, suc, ◌+◌, ◌-◌, ◌<◌}
use native.Mathlib.Omega.{arith}
use mathlib.Core.Path.{◌≡◌, refl, sym}
use mathlib.Core.List.{List, [], ◌∷◌, ◌++◌, append_assoc, append-nil}
use lib.ListN.{length, set, replicate, length-append}
use lib.Seq.{set-append_seam, append_snoc}
use borrow.Rule.Slice.PartMut.{put_mid}
use Rattle.std.proofs.lemmas.List.{take_at, drop_at, drop-replicate}
use Rattle.text.specs.declared.line.Line.{Line}
use Rattle.text.specs.Lines.{line_size, line_of, Longer}

-- nothing behind a line is the line
pub longer_none : (l : Line) → Longer l [] l
longer_none l = record { size = omega arith; text = λ t e. rw append-nil e }

-- one text behind a line and another behind that are both behind it
pub longer_on : {l m r : Line} {s t : List ℕ} → Longer l s m → Longer m t r → Longer l (s ++ t) r
longer_on {s} {t} p q = record {
  size = omega (arith, length-append s t);
  text = λ u e. rw (← append_assoc) (q.text _ (p.text u e));
}

-- a byte stored at the end of a line is that byte behind it
pub longer_byte : (l : Line) (b : ℕ) → l.len < line_size → Longer l (b ∷ []) (record { bytes = set l.bytes l.len b; len = l.len + 1 })
unfolding line_of
longer_byte l b h = record {
  size = refl;
  text = λ t e.
      let short : length t < line_size = rw e at h in
      let room : line_size - length t ≡ suc (line_size - (length t + 1)) = omega arith in
      rw (e, length-append, room, set-append_seam, append_snoc);
}

-- a text in the place of the first zeros
spliced : (front ys : List ℕ) (k n : ℕ) → put_mid (length front) k (front ++ replicate n 0) ys ≡ front ++ ys ++ replicate (n - k) 0
spliced front ys k n =
    rw (take_at front (replicate n 0) (length front) refl, drop_at front (replicate n 0) (length front) refl, drop-replicate {X = ℕ} k n 0)
    (sym (append_assoc front ys (replicate (n - k) 0)))

-- a text stored at the end of a line is that text behind it
pub longer_text : (l : Line) (more : List ℕ) (k n : ℕ) → k ≡ length more → n ≡ l.len + length more
    → Longer l more (record { bytes = put_mid l.len k l.bytes more; len = n })
unfolding line_of
longer_text l more k n e f = record {
  size = f;
  text = λ t h.
      let left : line_size - length t - length more ≡ line_size - (length t + length more) = omega arith in
      rw (f, e, h, length-append t more, spliced t more (length more) (line_size - length t), left);
}
