-- What the code's answers mean: a score that is reached, an event judged clause by clause, the event that is chosen. Assumes nothing.
use Rattle.std.specs.Prelude.{ℕ, zero, suc, ◌<◌, ◌≡◌, Bool, true, false, cond, List, eqb, ℤ, pos, Option, None, Some}
use Rattle.std.specs.Int.Signed.{le_z}
use Rattle.sheet.specs.Sheet.{Kind, All, Any, Not, Event as SheetEvent}
use Rattle.event.specs.Match.{is_opening, is_exit, first_of, first_match}
use Rattle.event_find.specs.Places.{lines_at}
use Rattle.table.specs.Layout.{counts_in, parts_in}
use Rattle.table.specs.Table.{sheet_of}

-- "the score is at least its own", where one was read
abbrev pub reached : ℕ → Option ℤ → Bool
reached own None = false
reached own (Some z) = le_z (pos own) z

-- what is known of an event after one clause more: 0 nothing yet, 1 an any clause that does not hold, 2 one that holds, 3 no match
abbrev pub step_of : ℕ → Kind → Bool → ℕ
step_of k All true = k
step_of k All false = 3
step_of k Any true = 2
step_of k Any false = cond (eqb k 0) 1 k
step_of k Not true = 3
step_of k Not false = k

-- events by the number of their kind: 0 opening, 1 exit
abbrev pub of_number : ℕ → SheetEvent → Bool
of_number zero e = is_opening e
of_number (suc k) e = is_exit e

abbrev pub Below : ℕ → Option ℕ → Type 0
Below n (Some i) = i < n
Below n None = Unit {0}

-- r is the first event of that kind that matches
pub record FirstAs (kind : ℕ) (t s starts mids : List ℕ) (n : ℕ) (r : Option ℕ) : Type 0 where
  pub is : r ≡ first_of (of_number kind) 0 (lines_at s starts mids n) (sheet_of (parts_in t)).events
  pub ok : Below (counts_in t).events r

-- r is the first match
pub record MatchAs (t s starts mids : List ℕ) (n : ℕ) (r : Option ℕ) : Type 0 where
  pub is : r ≡ first_match (sheet_of (parts_in t)).events (lines_at s starts mids n)
  pub ok : Below (counts_in t).events r
