use Rattle.std.proofs.Common.{◌≡◌, ◌≢◌, ◌+◌, ◌<◌, ℕ, length, get_or, sym, ap₂, ◌∙◌, rules}
use Rattle.std.proofs.lemmas.List.{take_rest}
use Rattle.std.proofs.iter.runs.Made.{chains}
use Rattle.words.specs.Words.{is_in}
use Rattle.journal.proofs.Found.{in_found, in_lost}
use Rattle.journal.proofs.steps.+is_in.Goals as goal

pub returns-in-Some : goal.returns-in-Some
returns-in-Some t c =
    let w = c.args.word.now in
    let j = c.args.journal.now in
    let k = c.in-Some.k in
    let h : k < length j = search (rules, chains) in
    let e : get_or j k 0 ≡ get_or w 0 0 = search (rules, chains) in
    let n : (m : ℕ) → m < k → get_or j m 0 ≢ get_or w 0 0 = search (rules, chains) in
    c.is_in.ensures ∙ ap₂ is_in (take_rest w 1) (take_rest j (k + 1)) ∙ sym (in_found w j k c.in-len1-up.len_at_least h e n)

pub returns-in-None : goal.returns-in-None
returns-in-None t c =
    let w = c.args.word.now in
    let j = c.args.journal.now in
    let n : (m : ℕ) → m < length j → get_or j m 0 ≢ get_or w 0 0 = search (rules, chains) in
    sym (in_lost w j c.in-len1-up.len_at_least n)
