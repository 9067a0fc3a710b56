-- What entries mean for the journals, whatever book keeps them: which entry is taken, and where a row of them leads. Assumes nothing.
use Rattle.std.specs.Prelude.{ℕ, suc, Bool, false, cond, List, [], ◌∷◌, length, eqb, leb, ltb, Option, Some, None, is_none}
use Rattle.words.specs.Limits.{longest_journal, most_journals}
use Rattle.words.specs.Journals.{opened, appended, last_of, steps_at}
use Rattle.words.specs.Picture.{picture}
use Rattle.records.specs.Sizes.{most_rows}
use Rattle.entries.specs.Entry.{entry_of}
use Rattle.entries.specs.declared.entry.Entry.{Entry}
use Rattle.entries.specs.declared.entry.Entry.TheVariants.{Append, Open, OpenAppend}

-- the journals after an entry that is taken
abbrev pub means : Option Entry → List (List ℕ) → List (List ℕ)
means None js = js
means (Some (Append s)) js = appended s js
means (Some Open) js = opened js
means (Some (OpenAppend s)) js = appended s (opened js)

-- 11: the entry is broken
abbrev pub is_broken : Option Entry → Bool
is_broken = is_none

-- 7: it opens a journal, and 16 are open already
abbrev pub none_free : Option Entry → List (List ℕ) → Bool
none_free None js = false
none_free (Some (Append s)) js = false
none_free (Some Open) js = leb most_journals (length js)
none_free (Some (OpenAppend s)) js = leb most_journals (length js)

-- 5: it appends to the last journal, and that has 200 steps
abbrev pub last_full : Option Entry → List (List ℕ) → Bool
last_full None js = false
last_full (Some (Append s)) js = leb longest_journal (steps_at (last_of js) js)
last_full (Some Open) js = false
last_full (Some (OpenAppend s)) js = false

-- 6: the journals after it have more than 1,000 live states
abbrev pub rows_passed : Option Entry → List (List ℕ) → Bool
rows_passed e js = ltb most_rows (length (picture (means e js)))

-- the number of an entry: 11, 7, 5, 6, of which the first that holds counts, and 0 where it is taken
unfoldable pub entry_number : Option Entry → List (List ℕ) → ℕ
entry_number e js = cond (is_broken e) 11 (cond (none_free e js) 7 (cond (last_full e js) 5 (cond (rows_passed e js) 6 0)))

-- where a row of entries leads: the number that ended it, or 0, how many entries were taken, and the journals then
pub record Meant : Type 0 where
  pub number : ℕ
  pub taken : ℕ
  pub journals : List (List ℕ)

abbrev pub meant : ℕ → ℕ → List (List ℕ) → Meant
meant n i js = record { number = n; taken = i; journals = js }

-- two bytes are an entry, which leads on where it is taken and ends the row where it is refused; a lone last byte is broken
unfoldable pub meant_from : ℕ → List (List ℕ) → List ℕ → Meant
meant_from i js [] = meant 0 i js
meant_from i js (n ∷ []) = meant 11 i js
meant_from i js (n ∷ s ∷ rest) =
    let e : Option Entry = entry_of (length js) n s in
    let number : ℕ = entry_number e js in
    let on : Meant = meant_from (suc i) (means e js) rest in
    cond (eqb number 0) on (meant number i js)

-- a row of entries where the journals js are open
unfoldable pub entries_mean : List (List ℕ) → List ℕ → Meant
entries_mean js entries = meant_from 0 js entries
