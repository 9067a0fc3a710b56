-- What an entry asks for. Assumes nothing.
use Rattle.std.specs.Prelude.{ℕ, ◌+◌, cond, ◌&&◌, eqb, ltb, Option, Some, None}
use Rattle.words.specs.Limits.{step_codes}
use Rattle.entries.specs.declared.entry.Entry.{Entry}
use Rattle.entries.specs.declared.entry.Entry.TheVariants.{Append, Open, OpenAppend}

-- the step that only opens
abbrev pub only_open : ℕ
only_open = 255

-- what the journal number n and the step s ask for where k journals are open: k itself stands for the next journal, one less for the
-- last one, and everything else is broken
unfoldable pub entry_of : ℕ → ℕ → ℕ → Option Entry
entry_of k n s =
    cond (eqb n k) (cond (ltb s step_codes) (Some (OpenAppend s)) (cond (eqb s only_open) (Some Open) None))
    (cond (eqb (n + 1) k && ltb s step_codes) (Some (Append s)) None)
