-- The event that signals choose, as a number. Assumes nothing.
use Rattle.std.specs.Prelude.{ℕ, ◌+◌, ◌<◌, ◌≤◌, cond, List, [], ◌∷◌, ◌≡◌, eqb, length, get_or, Option, None, Some}
use Rattle.text.specs.Answer.{Got}
use Rattle.event.specs.Signals.{Line}
use Rattle.event.specs.Match.{first_match}
use Rattle.table.specs.Layout.{counts_in, parts_in}
use Rattle.table.specs.Table.{sheet_of}
use Rattle.revise.specs.Entries.{Entry, read_entries}

-- 65535 is no event
abbrev pub match_in : ℕ → Option ℕ
match_in code = cond (eqb code 65535) None (Some code)

-- the number stands for the first match of the signals, an event of the table
pub record MatchedAt (t : List ℕ) (code : ℕ) (ls : List Line) : Type 0 where
  pub is : match_in code ≡ first_match (sheet_of (parts_in t)).events ls
  pub below : (i : ℕ) → match_in code ≡ Some i → i < (counts_in t).events

-- of all entries, from number k on
abbrev pub MatchedFrom : List ℕ → List ℕ → ℕ → List Entry → Type 0
MatchedFrom t matches k [] = Unit {0}
MatchedFrom t matches k (e ∷ es) = MatchedAt t (get_or matches k 0) e.fed.signals × MatchedFrom t matches (k + 1) es

-- of all n entries of s
pub record Matched (t s matches : List ℕ) (n : ℕ) : Type 0 where
  pub each : (es : List Entry) → read_entries s ≡ Got es → MatchedFrom t matches 0 es
  pub room : n ≤ length matches
