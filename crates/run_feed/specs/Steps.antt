-- What is known while the run program reads the lines of its bars and feeds them. Assumes nothing.
use Rattle.std.specs.Prelude.{ℕ, ◌+◌, ◌*◌, ◌≤◌, ◌≡◌, List, [], ◌∷◌, ◌++◌, T, length, take, replicate, Option, Some, None, Result, Ok, Err}
use Rattle.std.specs.Float.{binary64}
use Rattle.std.specs.Float.Ieee.{fits}
use Rattle.std.proofs.Math.Seq.{slice}
use Rattle.bar.specs.declared.BarNumbers.{BarNumbers}
use Rattle.text.specs.Answer.{Answer, Refused, Got, ◌>>=◌, number}
use Rattle.text.specs.Read.{Put}
use Rattle.text.proofs.Lines.{lines_from}
use Rattle.sheet.specs.Sheet.{Sheet}
use Rattle.table.specs.Table.{read_table}
use Rattle.position.specs.State.{State, fresh_state}
use Rattle.position.specs.Feed.{Input, input_of, feed_state}
use Rattle.position.specs.Cases.{state_after}
use Rattle.position.specs.Run.{run_bars, input_limit, input_line, Asked, read_input, line, feed_line, next_state}
use Rattle.run_input.specs.Lines.{input_refusal}
use Rattle.run_input.specs.declared.InputError.{InputError}
use Rattle.run_input.specs.declared.InputError.TheVariants.{Malformed}
use Rattle.run_output.specs.Shown.{feed_room}
use Rattle.run_feed_one.specs.One.{Held, FedOne}
use Rattle.run_feed.specs.declared.Progress.{Progress}

-- room for every output
abbrev pub output_room : ℕ
output_room = 2500000

-- ---- the bars that were fed

-- their F lines: what `feed_all` prints before the rows
unfoldable pub fed_lines : Sheet → State → List Input → List ℕ
fed_lines s st [] = []
fed_lines s st (i ∷ is) =
    let a = feed_state s run_bars i st in
    let next = next_state st a in
    feed_line (number a) next ++ fed_lines s next is

-- all of `done` were fed to a fresh book, and their lines stand at the start of out, zeros behind them
pub record FedAll (table b out : List ℕ) (at : ℕ) (sheet : Sheet) (done : List Input) : Type 0 where
  pub meant : read_table table ≡ Got sheet
  pub book : Held sheet (state_after sheet fresh_state done) b
  pub printed : Put (replicate (length out) 0) out 0 (fed_lines sheet fresh_state done) at

-- ---- the bar that waits

abbrev pub waiting_input : Option BarNumbers → List ℕ → List Input
waiting_input (Some b) signals = input_of b signals ∷ []
waiting_input None signals = []

abbrev pub WaitingOk : Option BarNumbers → Type 0
WaitingOk (Some b) = T (fits binary64 b.price)
WaitingOk None = Unit {0}

abbrev pub waiting_room : Option BarNumbers → ℕ
waiting_room (Some b) = feed_room
waiting_room None = 0

abbrev pub FedWaiting : List ℕ → List ℕ → List ℕ → Option BarNumbers → List ℕ → List ℕ → List ℕ → ℕ → ℕ → Type 0
FedWaiting table b next (Some w) signals out more at r = FedOne table b next (input_of w signals) out more at r
FedWaiting table b next None signals out more at r = (next ≡ b) × (more ≡ out) × (r ≡ at)

-- before the first bar none was fed
abbrev pub First : Option BarNumbers → List Input → Type 0
First (Some b) done = Unit {0}
First None done = done ≡ []

-- ---- lines

abbrev pub asked : Sheet → Answer (List Input) → Answer Asked
asked sheet a = a >>= λ is. Got (record { sheet = sheet; inputs = is })

-- before the first line
abbrev pub starting : Progress
starting = record { waiting = None; signals = 0; at = 0 }

-- the lines of s before i are read: all their bars are fed but the one that waits
pub record Running (s table b signals out : List ℕ) (p : Progress) (i : ℕ) : Type 0 where
  pub sheet : Sheet
  pub done : List Input
  pub fed : FedAll table b out p.at sheet done
  pub waits : WaitingOk p.waiting
  pub first : First p.waiting done
  pub read : read_input s ≡ asked sheet (lines_from input_line (done ++ waiting_input p.waiting (take p.signals signals)) s i)
  pub within : i ≤ length s
  pub short : length s ≤ input_limit
  pub few : p.signals ≤ i
  pub room : input_limit ≤ length signals
  pub lines : p.at + waiting_room p.waiting ≤ 4 * i
  pub space : output_room ≤ length out

abbrev pub IsBar : Option BarNumbers → Type 0
IsBar (Some b) = Unit {0}
IsBar None = ⊥

-- a line of signals was added to the bar that waits, or none waits
pub record SignalPut (s : List ℕ) (from to : ℕ) (signals more : List ℕ) (p q : Progress) : Type 0 where
  pub waiting : q.waiting ≡ p.waiting
  pub at : q.at ≡ p.at
  pub put : Put signals more p.signals (slice (from + 2) (to + 1) s) q.signals

abbrev pub SignalAdded : List ℕ → ℕ → ℕ → List ℕ → List ℕ → Progress → Result Progress InputError → Type 0
SignalAdded s from to signals more p (Ok q) = SignalPut s from to signals more p q × IsBar p.waiting
SignalAdded s from to signals more p (Err e) = (e ≡ Malformed) × (more ≡ signals) × (p.waiting ≡ None)

abbrev pub TakenAs : List ℕ → List ℕ → List ℕ → List ℕ → List ℕ → ℕ → Result Progress InputError → Type 0
TakenAs s table b signals out to (Ok q) = Running s table b signals out q (to + 1)
TakenAs s table b signals out to (Err e) = read_input s ≡ Refused (input_refusal e)

-- ---- all of them

-- the input is read, and its bars are fed
pub record AllFed (s table b out : List ℕ) (at : ℕ) : Type 0 where
  pub asks : Asked
  pub read : read_input s ≡ Got asks
  pub fed : FedAll table b out at asks.sheet asks.inputs
  pub few : at ≤ 4 * input_limit + feed_room
  pub space : output_room ≤ length out

abbrev pub FedAs : List ℕ → List ℕ → List ℕ → List ℕ → Result ℕ InputError → Type 0
FedAs s table b out (Ok at) = AllFed s table b out at
FedAs s table b out (Err e) = read_input s ≡ Refused (input_refusal e)
