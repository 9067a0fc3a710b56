-- Fetched in parts, the parts joined are the list: a part is the front of what is due, what is due is an end of the
-- whole list, and so what stands after the part's last word is what is left of it. Assumes nothing.
use Prim.Native.Nat.{ℕ, zero, suc, ◌+◌, ◌*◌, ◌≤◌, ◌<◌, ◌/◌}
use native.Mathlib.Omega.{arith}
use mathlib.Core.Path.{◌≡◌, refl, sym, ap, ap₂, ◌∙◌}
use mathlib.Core.Bool.{Bool, true, false}
use mathlib.Core.List.{List, [], ◌∷◌, ◌++◌, map, append_assoc, Memᴰ}
use lib.ListN.{length, take, drop, length-take, length-drop, take-append-drop}
use lib.Seq.{take_at, drop_at, drop-drop, take_all, append_snoc}
use lib.Dec.{ltb}
use borrow.Author.Tests.{ltb-true, ltb-false, le-ltb}
use Rattle.list.specs.ListCall.{Asked, wrong_output, whole_list, due_in, due, fitting, list_call}
use Rattle.list.specs.Parts.{words_in, last_word, go_on, part_asked, part, joined, Fetched}
use Rattle.records.specs.Bytes.{records, flat}
use Rattle.records.specs.Sizes.{word_record_size, longest_word}
use Rattle.records.specs.WordRecord.{word_of, word_record}
use Rattle.words.specs.Listing.{past}
use Rattle.words.specs.Words.{IsWord}
use Rattle.list.proofs.Complete.{Admitted, list_complete, list_in_order}
use Rattle.list.proofs.ListCases.{Allowed, allowed}
use Rattle.list.proofs.Numbers.{list_accepts}
use Rattle.records.proofs.StepBytes.{steps_back, step_bytes_length, step_bytes_form}
use Rattle.words.proofs.Past.{past_suffix, past_at}
use Rattle.words.proofs.Test.{test}

-- how many records the output has room for
abbrev room : Asked → ℕ
room a = length a.out / word_record_size

-- what is due is an end of the whole list
due_suffix : (a : Asked) → (front : List (List ℕ)) × (whole_list a ≡ front ++ due a)
due_suffix a = test a.after (λ t. rw t (past_suffix (word_of a.word) (whole_list a) (list_in_order a))) (λ f. rw f ([], refl))

-- each word of a part belongs in the list
pub listed : (a : Asked) (w : List ℕ) → Memᴰ w (fitting a) → Admitted a w
listed a w m =
    let s = due_suffix a in
    let d : Memᴰ w (due a) = rw (take-append-drop (room a) (due a)) at (mathlib.Core.List.Memᴰ.append_left (drop (room a) (due a)) m) in
    (list_complete a w).0 (rw s.1 (mathlib.Core.List.Memᴰ.append_right s.0 d))

-- records written read back as their words
pub read_back : (ws : List (List ℕ)) (rest : List ℕ) → ((w : List ℕ) → Memᴰ w ws → length w ≤ longest_word)
    → map word_of (records word_record_size (length ws) (flat word_record ws ++ rest)) ≡ ws
read_back [] rest h = refl
read_back (w ∷ ws) rest h =
    let e = step_bytes_length longest_word w (h w (mathlib.Core.List.Memᴰ.head refl)) in
    let behind : List ℕ = flat word_record ws ++ rest in
    rw (append_assoc (word_record w) (flat word_record ws) rest, take_at (word_record w) behind word_record_size e, drop_at (word_record w) behind word_record_size e)
    (ap₂ (λ (v : List ℕ) (vs : List (List ℕ)). v ∷ vs) (steps_back longest_word w) (read_back ws rest (λ v m. h v (mathlib.Core.List.Memᴰ.tail m))))

-- a part is as much of what is due as fits
pub page : (a : Asked) → (list_call a).answer.number ≡ 0 → words_in (list_call a) ≡ fitting a
unfolding list_call
page a e = rw e (read_back (fitting a) _ (λ w m. omega (arith, (allowed a e).limit, (listed a w m).short)))

-- what "a further word remains" says
remains : (a : Asked) (b : Bool) → (list_call a).answer.number ≡ 0 → (list_call a).answer.more ≡ b → ltb (length (fitting a)) (length (due a)) ≡ b
unfolding list_call
remains a b e m = rw e at m

-- a part that leaves a word has one itself
filled : (a : Asked) → (list_call a).answer.number ≡ 0 → (list_call a).answer.more ≡ true → 1 ≤ length (fitting a)
filled a e m = omega (arith, (allowed a e).some_room, length-take (room a) (due a), ltb-true (length (fitting a)) (length (due a)) (remains a true e m))

last_split : (ws : List (List ℕ)) → 1 ≤ length ws → (front : List (List ℕ)) × (ws ≡ front ++ (last_word ws ∷ []))
last_split [] h = absurd (omega arith)
last_split (w ∷ []) h = ([], refl)
last_split (w ∷ v ∷ ws) h = let r = last_split (v ∷ ws) (omega arith) in (w ∷ r.0, ap (λ (l : List (List ℕ)). w ∷ l) r.1)

-- after the last word of a front of what is due comes what is left of it
past_last : (a : Asked) (ws rest : List (List ℕ)) → ws ++ rest ≡ due a → 1 ≤ length ws → past (last_word ws) (whole_list a) ≡ rest
past_last a ws rest e h =
    let s = due_suffix a in
    let l = last_split ws h in
    let x : List ℕ = last_word ws in
    let d : due a ≡ l.0 ++ x ∷ rest = sym e ∙ ap (λ (u : List (List ℕ)). u ++ rest) l.1 ∙ append_snoc l.0 x rest in
    let whole : whole_list a ≡ s.0 ++ l.0 ++ x ∷ rest = s.1 ∙ ap (λ (u : List (List ℕ)). s.0 ++ u) d ∙ sym (append_assoc s.0 l.0 (x ∷ rest)) in
    rw whole (past_at (s.0 ++ l.0) x rest (rw whole at (list_in_order a)))

-- the next part is asked for what is left
next_due : (a : Asked) (out : List ℕ) → (list_call a).answer.number ≡ 0 → (list_call a).answer.more ≡ true
    → due (go_on a (last_word (words_in (list_call a))) out) ≡ drop (room a) (due a)
next_due a out e m =
    rw (page a e, steps_back longest_word (last_word (fitting a)))
    (past_last a (fitting a) (drop (room a) (due a)) (take-append-drop (room a) (due a)) (filled a e m))

-- a part and what the next one is asked for are what was due
part_and_rest : (a : Asked) (out : List ℕ) → (list_call a).answer.number ≡ 0 → (list_call a).answer.more ≡ true
    → words_in (list_call a) ++ due (go_on a (last_word (words_in (list_call a))) out) ≡ due a
part_and_rest a out e m = ap₂ (λ (u v : List (List ℕ)). u ++ v) (page a e) (next_due a out e m) ∙ take-append-drop (room a) (due a)

-- a part after which none remains is all that was due
whole_part : (a : Asked) → (list_call a).answer.number ≡ 0 → (list_call a).answer.more ≡ false → words_in (list_call a) ≡ due a
whole_part a e m =
    page a e ∙ take_all (room a) (due a) (omega (arith, length-take (room a) (due a), ltb-false (length (fitting a)) (length (due a)) (remains a false e m)))

-- every part that leaves a word brings one, so less is due for the next
pub parts_end : (a : Asked) (out : List ℕ) → (list_call a).answer.number ≡ 0 → (list_call a).answer.more ≡ true
    → length (due (go_on a (last_word (words_in (list_call a))) out)) < length (due a)
parts_end a out e m = rw (next_due a out e m) (omega (arith, filled a e m, length-take (room a) (due a), length-drop (room a) (due a)))

-- how many words a part has
part_number : (a : Asked) → (list_call a).answer.number ≡ 0 → (list_call a).answer.written ≡ length (fitting a)
unfolding list_call
part_number a e = rw e

-- the words of a part and those that the next one is asked for are as many as were due
pub part_counts : (a : Asked) (out : List ℕ) → (list_call a).answer.number ≡ 0 → (list_call a).answer.more ≡ true
    → (list_call a).answer.written + length (due (go_on a (last_word (words_in (list_call a))) out)) ≡ length (due a)
part_counts a out e m =
    rw (next_due a out e m, part_number a e)
    (omega (arith, length-take (room a) (due a), length-drop (room a) (due a), ltb-true (length (fitting a)) (length (due a)) (remains a true e m)))

-- a part after which none remains has as many words as were due
pub whole_counts : (a : Asked) → (list_call a).answer.number ≡ 0 → (list_call a).answer.more ≡ false → (list_call a).answer.written ≡ length (due a)
whole_counts a e m = part_number a e ∙ ap length (sym (page a e) ∙ whole_part a e m)

-- the last of some records is that of the last word
last_of : (ws : List (List ℕ)) (rest : List ℕ) (n : ℕ) → ((w : List ℕ) → Memᴰ w ws → length w ≤ longest_word) → length ws ≡ suc n
    → take word_record_size (drop (word_record_size * n) (flat word_record ws ++ rest)) ≡ word_record (last_word ws)
last_of [] rest n h e = absurd (omega arith)
last_of (w ∷ []) rest n h e =
    let z = step_bytes_length longest_word w (h w (mathlib.Core.List.Memᴰ.head refl)) in
    let k : word_record_size * n ≡ 0 = omega arith in
    rw (k, append_assoc (word_record w) [] rest) (take_at (word_record w) rest word_record_size z)
last_of (w ∷ v ∷ ws) rest zero h e = absurd (omega arith)
last_of (w ∷ v ∷ ws) rest (suc n) h e =
    let z = step_bytes_length longest_word w (h w (mathlib.Core.List.Memᴰ.head refl)) in
    let behind : List ℕ = flat word_record (v ∷ ws) ++ rest in
    let k : word_record_size * suc n ≡ word_record_size + word_record_size * n = omega arith in
    rw (k, append_assoc (word_record w) (flat word_record (v ∷ ws)) rest, ← drop-drop (word_record_size * n) word_record_size (word_record w ++ behind), drop_at (word_record w) behind word_record_size z)
    (last_of (v ∷ ws) rest n (λ u m. h u (mathlib.Core.List.Memᴰ.tail m)) (omega arith))

-- a part that leaves a word fills its output, and the last record there is that of its last word
pub last_record : (a : Asked) (n : ℕ) → (list_call a).answer.number ≡ 0 → (list_call a).answer.more ≡ true → length a.out / word_record_size ≡ suc n
    → take word_record_size (drop (word_record_size * n) (list_call a).out) ≡ word_record (last_word (words_in (list_call a)))
unfolding list_call
last_record a n e m r =
    let l : length (fitting a) ≡ suc n = omega (arith, length-take (room a) (due a), ltb-true (length (fitting a)) (length (due a)) (remains a true e m)) in
    rw (page a e, e) (last_of (fitting a) _ n (λ w i. omega (arith, (allowed a e).limit, (listed a w i).short)) l)

-- the last of some words is one of them
last_mem : (ws : List (List ℕ)) → 1 ≤ length ws → Memᴰ (last_word ws) ws
last_mem [] h = absurd (omega arith)
last_mem (w ∷ []) h = mathlib.Core.List.Memᴰ.head refl
last_mem (w ∷ v ∷ ws) h = mathlib.Core.List.Memᴰ.tail (last_mem (v ∷ ws) (omega arith))

-- going on after a word within the length isn't refused
go_on_number : (a : Asked) (w out : List ℕ) → Allowed a → IsWord w → length w ≤ a.length_limit → wrong_output out ≡ false
    → (list_call (go_on a w out)).answer.number ≡ 0
go_on_number a w out al k h o =
    let l : length w ≤ longest_word = omega (arith, al.limit) in
    list_accepts (go_on a w out) al.sizes (step_bytes_length longest_word w l) o al.right al.limit al.quorum
    (rw (step_bytes_form longest_word longest_word w k l, steps_back longest_word w, le-ltb a.length_limit (length w) h))

-- the next part isn't refused, whatever output of a right size it is given
pub goes_on : (a : Asked) (out : List ℕ) → wrong_output out ≡ false → (list_call a).answer.number ≡ 0 → (list_call a).answer.more ≡ true
    → (list_call (go_on a (last_word (words_in (list_call a))) out)).answer.number ≡ 0
goes_on a out o e m =
    let s = listed a (last_word (fitting a)) (last_mem (fitting a) (filled a e m)) in
    rw (page a e) (go_on_number a (last_word (fitting a)) out (allowed a e) s.word s.short o)

-- what holds below i and at i holds below i + 1
up_to : (f : ℕ → Bool) (i : ℕ) → ((k : ℕ) → k < i → f k ≡ true) → f i ≡ true → (k : ℕ) → k < suc i → f k ≡ true
up_to f i h t k b =
    test (ltb k i) (λ y. h k (ltb-true k i y)) (λ n. let e : k ≡ i = omega (arith, ltb-false k i n) in rw e t)

module _ (a : Asked) (outs : ℕ → List ℕ) where
  -- a further word remains after each of the first i parts
  abbrev Going : ℕ → Type 0
  Going i = (k : ℕ) → k < i → (part a outs k).answer.more ≡ true

  -- the words of the first i parts, and what part i is asked for, are what was due
  joined_due : (i : ℕ) → ((k : ℕ) → k < i → (part a outs k).answer.number ≡ 0) → Going i → joined a outs i ++ due (part_asked a outs i) ≡ due a
  unfolding part_asked
  joined_due zero d m = refl
  joined_due (suc i) d m =
      append_assoc (joined a outs i) (words_in (part a outs i)) (due (part_asked a outs (suc i)))
      ∙ ap (λ (u : List (List ℕ)). joined a outs i ++ u) (part_and_rest (part_asked a outs i) (outs (suc i)) (d i (omega arith)) (m i (omega arith)))
      ∙ joined_due i (λ k h. d k (omega arith)) (λ k h. m k (omega arith))

  -- the parts joined are what was due
  pub parts_due : {n : ℕ} → Fetched a outs n → joined a outs (suc n) ≡ due a
  parts_due {n} f =
      ap (λ (u : List (List ℕ)). joined a outs n ++ u) (whole_part (part_asked a outs n) (f.all_done n (omega arith)) f.ended)
      ∙ joined_due n (λ k h. f.all_done k (omega arith)) f.go_on_is

  -- fetched from the start, they are the whole list
  pub parts : {n : ℕ} → a.after ≡ false → Fetched a outs n → joined a outs (suc n) ≡ whole_list a
  parts h f = parts_due f ∙ ap (λ (after : Bool). due_in (whole_list a) after a.word) h

  module _ (o : (i : ℕ) → wrong_output (outs i) ≡ false) (e : (list_call a).answer.number ≡ 0) where
    -- no part is refused while a word remains
    part_done : (i : ℕ) → Going i → (part a outs i).answer.number ≡ 0
    unfolding part_asked
    part_done zero m = e
    part_done (suc i) m =
        goes_on (part_asked a outs i) (outs (suc i)) (o (suc i)) (part_done i (λ k h. m k (omega arith))) (m i (omega arith))

    -- less is due for the next part
    part_less : (i : ℕ) → Going i → (part a outs i).answer.more ≡ true → length (due (part_asked a outs (suc i))) < length (due (part_asked a outs i))
    unfolding part_asked
    part_less i m t = parts_end (part_asked a outs i) (outs (suc i)) (part_done i m) t

    stop : (i : ℕ) → Going i → (part a outs i).answer.more ≡ false → (last : ℕ) × Fetched a outs last
    stop i m f = (i, record { all_done = λ k h. part_done k (λ l b. m l (omega arith)); go_on_is = m; ended = f })

    from : (n i : ℕ) → length (due (part_asked a outs i)) ≤ n → Going i → (last : ℕ) × Fetched a outs last
    from zero i h m = test (part a outs i).answer.more (λ t. absurd (omega (arith, part_less i m t))) (stop i m)
    from (suc n) i h m =
        test (part a outs i).answer.more
        (λ t. from n (suc i) (omega (arith, part_less i m t)) (up_to (λ k. (part a outs k).answer.more) i m t))
        (stop i m)

    -- so the list is fetched, part after part, into any outputs of right sizes, and fetching ends
    pub fetchable : (last : ℕ) × Fetched a outs last
    unfolding part_asked
    fetchable = from (length (due a)) 0 (omega arith) (λ k h. absurd (omega arith))
