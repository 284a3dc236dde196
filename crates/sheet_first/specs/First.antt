-- What the reading of a first line means, for the contracts of its functions. Assumes nothing.
use Rattle.sheet.specs.declared.SheetAt.{SheetAt}
use Rattle.sheet.specs.declared.SheetError.{SheetError}
use Rattle.std.specs.Prelude.{ℕ, ◌+◌, ◌<◌, ◌≤◌, List, [], eqb, length, get_or, drop, Result}
use Rattle.std.proofs.Math.Seq.{slice}
use Rattle.text.specs.Answer.{Answer, Got, ◌>>=◌, given}
use Rattle.text.specs.Number.{unsigned}
use Rattle.stop.specs.Stop.{hundredths_of}
use Rattle.sheet.specs.Sheet.{Sheet, name_limit, interval_limit, timeout_limit, stop_limit, t0_limit}
use Rattle.sheet.specs.Read.{minutes_in, position_line}
use Rattle.sheet.specs.Places.{fields_of, SheetIs}

-- the name and the symbol of a first line that ends at `to`
pub record Names (s : List ℕ) (name symbol to : ℕ) : Type 0 where
  pub first : 2 ≤ name
  pub second : name < symbol
  pub within : symbol < to
  pub line : to ≤ length s
  pub brief-name : name ≤ 2 + name_limit
  pub brief-symbol : symbol ≤ name + 1 + name_limit

-- the numbers of a first line whose name and symbol were read
unfoldable pub settings_line : List ℕ → List ℕ → List (List ℕ) → Answer Sheet
settings_line n s f = do
  interval ← unsigned interval_limit (get_or f 0 [])
  timeout ← unsigned timeout_limit (get_or f 1 [])
  stop ← hundredths_of stop_limit (get_or f 2 [])
  t0 ← unsigned t0_limit (get_or f 3 [])
  evening ← given 3 (minutes_in (drop 4 f))
  Got (record { name = n; symbol = s; interval = interval; timeout = timeout; stop = stop; t0 = eqb t0 1; evening = evening; events = [] })

-- r is what the numbers say, whatever the events and the clauses will be
abbrev pub SettingsAs : List ℕ → ℕ → ℕ → ℕ → Result SheetAt SheetError → Type 0
SettingsAs s name symbol to r =
    (es cs : List ℕ) → SheetIs s es cs (settings_line (slice 2 name s) (slice (name + 1) symbol s) (fields_of s (symbol + 1) to)) r

-- r is what a first line that ends at `to` says
abbrev pub PositionAs : List ℕ → ℕ → Result SheetAt SheetError → Type 0
PositionAs s to r = (es cs : List ℕ) → SheetIs s es cs (position_line (fields_of s 0 to)) r
