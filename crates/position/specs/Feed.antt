-- A feed of the plain machine: which bars are accepted, and what is said of them. Assumes nothing.
use Rattle.std.specs.Prelude.{ℕ, ◌||◌, List, ltb, eqb, ℤ, Float, length}
use Rattle.std.specs.Int.Signed.{lt_z}
use Rattle.text.specs.Answer.{Answer, Got, ◌>>=◌, must}
use Rattle.bar.specs.Bar.{bar_of}
use Rattle.bar.specs.declared.BarNumbers.{BarNumbers}
use Rattle.bar.specs.declared.Time.{Time}
use Rattle.bar_line.specs.Line.{line_of}
use Rattle.sheet.specs.Sheet.{Sheet}
use Rattle.event.specs.Signals.{Line, read_signals}
use Rattle.position.specs.State.{State}
use Rattle.position.specs.Step.{Going, Fed, step_head, open_lots, step, decided}
use Rattle.position.specs.declared.Report.{Report}

-- what reaches a feed beside the table and the book: numbers, a double and a text
pub record Input : Type 0 where
  pub id : ℤ
  pub instant : ℤ
  pub offset : ℤ
  pub price : Float
  pub signals : List ℕ

-- four numbers and the signals' text
abbrev pub input_of : BarNumbers → List ℕ → Input
input_of n signals = record { id = n.id; instant = n.instant; offset = n.offset; price = n.price; signals = signals }

-- what reaches a feed by a line of the exchange's file: "Signals arrive as a second text."
unfoldable pub line_input : List ℕ → List ℕ → Answer Input
line_input line signals = line_of line >>= λ n. Got (input_of n signals)

-- a feed's bar and signals, by its arguments alone: 11, then the signals' refusals
unfoldable pub fed_of : Input → Answer Fed
fed_of i = do
  b ← bar_of i.id i.instant i.offset i.price
  ls ← read_signals i.signals
  Got (record { bar = b; signals = ls })

-- "11, signals (..), 13, 14": "bar's instant at or before end, H > 0" and "H = C"
unfoldable pub admitted : ℕ → ℕ → Time → Input → Answer Fed
admitted c holds end i = do
  f ← fed_of i
  _ ← must 13 (eqb holds 0 || lt_z end.instant.0 f.bar.time.instant.0)
  _ ← must 14 (ltb holds c)
  Got f

-- an accepted feed: what is there after it, and its values
pub record Accepted (X : Type 0) : Type 0 where
  pub after : X
  pub report : Report

-- the position and changed after the bar, and what decided it
unfoldable pub reported : Sheet → List Line → Going → Report
reported s ls g = record { pos = g.head.pos; changed = g.head.changed; decision = decided s ls g.wrote }

unfoldable pub report_of : Sheet → Fed → State → Report
report_of s f st = reported s f.signals (step_head s f.bar f.signals (open_lots st.holds) st.head)

-- a feed of the plain machine with room for c bars
unfoldable pub feed_state : Sheet → ℕ → Input → State → Answer (Accepted State)
feed_state s c i st = do
  f ← admitted c (length st.holds) st.head.end i
  Got (record { after = step s f.bar f.signals st; report = report_of s f st })
