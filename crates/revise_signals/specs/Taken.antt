-- The S lines of an entry as they are copied: what the code answers. Assumes nothing.
use Rattle.std.specs.Prelude.{ℕ, ◌<◌, ◌≤◌, List, ◌≡◌, length, take, Option, Some, None}
use Rattle.utf8.specs.Alone.{text_limit}
use Rattle.revise.specs.Lines.{signal_lines}
use Rattle.revise.specs.Places.{lines_in, SignalsEnd}
use Rattle.revise_signals.specs.declared.Taken.{Taken}

-- they end before `end`, and without `S|` they are the first bytes of `signals`
pub record Copied (s : List ℕ) (from end size : ℕ) (signals : List ℕ) : Type 0 where
  pub run : SignalsEnd s from end
  pub few : size ≤ text_limit
  pub room : length signals ≡ text_limit
  pub text : signal_lines 2 (lines_in s from) ≡ take size signals

pub record TooMany (s : List ℕ) (from : ℕ) (signals : List ℕ) : Type 0 where
  pub many : text_limit < length (signal_lines 2 (lines_in s from))
  pub room : length signals ≡ text_limit

abbrev pub TakenAs : List ℕ → ℕ → List ℕ → Option Taken → Type 0
TakenAs s from signals (Some t) = Copied s from t.end t.size signals
TakenAs s from signals None = TooMany s from signals
