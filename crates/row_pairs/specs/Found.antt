-- The records that make a pair: where they stand, and what a row asks of them. Assumes nothing.
use Rattle.std.specs.Prelude.{ℕ, ◌+◌, ◌<◌, ◌≤◌, ◌≡◌, true, List, [], ◌∷◌, length, drop, Option, Some, None}
use Rattle.le.specs.Le.{part}
use Rattle.le.specs.Field.{u32}
use Rattle.text.specs.Conditions.{every}
use Rattle.bar.specs.Bar.{time_ok}
use Rattle.sheet.specs.Sheet.{Sheet}
use Rattle.position.specs.Rows.{Pair, pair_of, pairs_of, opens}
use Rattle.position.specs.declared.Record.{Record}
use Rattle.book.specs.Layout.{record_place, record_of, record_slots, records_of}
use Rattle.book.specs.Check.{record_ok}
use Rattle.row_sequence.specs.Named.{NamedIn}

-- what the full check gives of the records of a book, with n events in the table: they lie within it, each in range
pub record Traded (n c : ℕ) (b : List ℕ) : Type 0 where
  pub room : record_place c (u32 b 4) ≤ length b
  pub each : every (record_ok n) (record_slots c b) ≡ true

-- record number j
abbrev pub record_at : ℕ → List ℕ → ℕ → Record
record_at c b j = record_of (part b (record_place c j) 32)

-- the pair that starts with record number j
abbrev pub pair_from : Sheet → ℕ → List ℕ → ℕ → Pair
pair_from s c b j = pair_of s (record_at c b j) (record_at c b (j + 1))

-- the pair of the record that was found, and all that follow it
abbrev pub found_of : Sheet → ℕ → List ℕ → Option ℕ → List Pair
found_of s c b (Some j) = pair_from s c b j ∷ pairs_of s (drop (j + 1) (records_of c b))
found_of s c b None = []

-- a record from number `from` on that opens, with one behind it
abbrev pub Opening : ℕ → List ℕ → ℕ → Option ℕ → Type 0
Opening c b from (Some j) = (from ≤ j) × (j + 1 < u32 b 4) × (opens (record_at c b j) ≡ true)
Opening c b from None = Unit {0}

-- r is where pair number i of the records from number `from` on starts, for every sheet
pub record FoundAs (c : ℕ) (b : List ℕ) (from i : ℕ) (r : Option ℕ) : Type 0 where
  pub is : (s : Sheet) → drop i (pairs_of s (drop from (records_of c b))) ≡ found_of s c b r
  pub ok : Opening c b from r

-- what a row asks of a record, with n events in the table
pub record Shown (n : ℕ) (r : Record) : Type 0 where
  pub time : time_ok r.bar.time ≡ true
  pub named : NamedIn n r.description
