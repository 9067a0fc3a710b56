-- What the program hands on to be written is what it is to print: the texts of the pages are the lines of the words fetched, the parts joined are
-- the list, and on the books of journals the table counts as the journals do. Assumes nothing.
use Prim.Native.Nat.{ℕ, zero, suc}
use mathlib.Core.Path.{◌≡◌, refl, sym, ap, ap₂, ◌∙◌}
use mathlib.Core.Bool.{false}
use mathlib.Core.List.{List, [], ◌∷◌, ◌++◌, append_assoc, Memᴰ}
use lib.ListN.{length, replicate}
use Rattle.words.specs.Words.{IsWord, count}
use Rattle.words.specs.Picture.{picture}
use Rattle.records.specs.Bytes.{flat}
use Rattle.records.specs.JournalBook.{journals_of}
use Rattle.records.specs.Sizes.{journal_book_size, row_book_size}
use Rattle.records.specs.Sound.{BooksOf}
use Rattle.records.proofs.Sound.{books_journals, books_sound, sound_books}
use Rattle.books.specs.TableCount.{Counted}
use Rattle.books.proofs.Counts.{table_count_right}
use Rattle.ask.specs.Ask.{Answer, ask_call}
use Rattle.feed.specs.Entry.{AfterFeeding, feed_call}
use Rattle.feed.proofs.FeedMeans.{loaded}
use Rattle.text.specs.Text.{first_line, word_line, last_line}
use Rattle.list.specs.ListCall.{Asked, asked, whole_list}
use Rattle.next_word.specs.Next.{table_of}
use Rattle.list.specs.Parts.{words_in, part, joined, Fetched}
use Rattle.list.proofs.Complete.{list_complete}
use Rattle.list.proofs.Parts.{parts}
use Rattle.load.specs.Program.{line_by, word_lines, report, printed}
use Rattle.load.specs.Page.{page_lines, pages_text}

flat_append : (f : List ℕ → List ℕ) (l m : List (List ℕ)) → flat f (l ++ m) ≡ flat f l ++ flat f m
flat_append f [] m = refl
flat_append f (a ∷ l) m = rw (flat_append f l m) (sym (append_assoc (f a) (flat f l) (flat f m)))

-- the texts of the pages are the lines of their words
pages_words : (a : Asked) (outs : ℕ → List ℕ) (i : ℕ) → pages_text a outs i ≡ word_lines (table_of a.rows) (joined a outs i)
unfolding page_lines
pages_words a outs zero = refl
pages_words a outs (suc i) =
    let page : List ℕ = word_lines (table_of a.rows) (words_in (part a outs i)) in
    ap (λ (t : List ℕ). t ++ page) (pages_words a outs i) ∙ sym (flat_append (line_by (table_of a.rows)) (joined a outs i) (words_in (part a outs i)))

module _ {js : List (List ℕ)} {jb rb : List ℕ} (b : BooksOf js jb rb) where
  -- the table counts a word as the journals do
  same_line : (w : List ℕ) → IsWord w → line_by (table_of rb) w ≡ line_by (count js) w
  unfolding table_of
  same_line w k = ap (λ (c : Counted). word_line c.count w) (table_count_right b w k).0

  same_lines : (ws : List (List ℕ)) → ((w : List ℕ) → Memᴰ w ws → IsWord w) → word_lines (table_of rb) ws ≡ word_lines (count js) ws
  same_lines [] h = refl
  same_lines (w ∷ ws) h =
      ap₂ (λ (u v : List ℕ). u ++ v) (same_line w (h w (Memᴰ.head refl))) (same_lines ws (λ v m. h v (Memᴰ.tail m)))

  -- the first line, the pages of the list fetched from its start, and the last line with the number of their words
  pub handed_on : (ask : Answer) (r : List ℕ) (outs : ℕ → List ℕ) (last : ℕ)
      → let a : Asked = asked jb rb ask.quorum ask.limit false r (outs 0) in Fetched a outs last
      → first_line (length js) (length (picture js)) ++ pages_text a outs (suc last) ++ last_line (length (joined a outs (suc last))) ≡ report js ask
  handed_on ask r outs last f =
      let a : Asked = asked jb rb ask.quorum ask.limit false r (outs 0) in
      let whole : joined a outs (suc last) ≡ whole_list a = parts a outs refl f in
      let lines = same_lines (whole_list a) (λ w m. ((list_complete a w).0 m).word) in
      rw (pages_words a outs (suc last), whole, lines, books_journals b)

-- where neither an entry nor the ask is refused, that is what the program is to print
pub handed_printed : (entries file : List ℕ)
    → let fed : AfterFeeding = feed_call (replicate journal_book_size 0) (replicate row_book_size 0) entries in
    let js : List (List ℕ) = journals_of fed.journals in
    let ask : Answer = ask_call (length js) file in fed.number ≡ 0 → ask.number ≡ 0 → (r : List ℕ) (outs : ℕ → List ℕ) (last : ℕ)
    → let a : Asked = asked fed.journals fed.rows ask.quorum ask.limit false r (outs 0) in Fetched a outs last
    → first_line (length js) (length (picture js)) ++ pages_text a outs (suc last) ++ last_line (length (joined a outs (suc last))) ≡ printed entries file
unfolding printed
handed_printed entries file z n r outs last f =
    let fed : AfterFeeding = feed_call (replicate journal_book_size 0) (replicate row_book_size 0) entries in
    let b = sound_books fed.journals fed.rows (books_sound (loaded entries).books) in
    rw (z, n) (handed_on b (ask_call (length (journals_of fed.journals)) file) r outs last f)
