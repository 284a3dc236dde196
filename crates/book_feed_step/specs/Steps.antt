-- The step of a bar on a book. Assumes nothing.
use Rattle.std.specs.Prelude.{ℕ, Bool, ◌||◌, List, [], ◌∷◌, ◌≡◌, eqb, Option, Some}
use Rattle.std.specs.Int.Signed.{lt_z}
use Rattle.position.specs.declared.Description.{Description}
use Rattle.le.specs.Field.{u32}
use Rattle.bar.specs.declared.Bar.{Bar}
use Rattle.event.specs.Signals.{Line}
use Rattle.event.specs.Match.{first_match}
use Rattle.position.specs.Step.{Going, step_head, chosen_event}
use Rattle.position.specs.Feed.{Accepted, reported}
use Rattle.position.specs.declared.Record.{Record}
use Rattle.position.specs.declared.Report.{Report}
use Rattle.table.specs.Layout.{parts_in}
use Rattle.table.specs.Table.{sheet_of}
use Rattle.book.specs.Layout.{head_of}
use Rattle.book.specs.Calls.{open_lots_in, fed}

-- ---- what decided a bar, by the event that matched and the records

abbrev pub decided_by : Option ℕ → List Record → Option Description
decided_by m [] = chosen_event m
decided_by m (r ∷ rs) = Some r.description

abbrev pub reported_by : Option ℕ → Going → Report
reported_by m g = record { pos = g.head.pos; changed = g.head.changed; decision = decided_by m g.wrote }

-- ---- the bar on the book

-- "bar's instant at or before end, H > 0" does not hold
abbrev pub in_time : Bar → List ℕ → Bool
in_time bar b = eqb (u32 b 0) 0 || lt_z (head_of b).end.instant.0 bar.time.instant.0

-- an accepted bar on the book, by the sheet of t
unfoldable pub taken : List ℕ → ℕ → Bar → List Line → List ℕ → Accepted (List ℕ)
taken t c bar ls b =
    let s = sheet_of (parts_in t) in
    let g = step_head s bar ls (open_lots_in b) (head_of b) in
    record { after = fed c bar g b; report = reported s ls g }

-- the same by a match m, whatever signals it is of: the book at exit, and what is said
abbrev pub TakenBy : List ℕ → ℕ → Bar → Option ℕ → List ℕ → List ℕ → Report → Type 0
TakenBy t c bar m b after r = (ls : List Line) → m ≡ first_match (sheet_of (parts_in t)).events ls → record { after = after; report = r } ≡ taken t c bar ls b
