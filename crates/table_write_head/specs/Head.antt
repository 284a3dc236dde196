-- What writing a header asks of a sheet's numbers: each fits its field, and all fit the table. Assumes nothing.
use Rattle.std.specs.Prelude.{ℕ, ◌+◌, ◌-◌, ◌<◌, ◌≤◌}
use Rattle.sheet.specs.declared.SheetAt.{SheetAt}
use Rattle.table.specs.Layout.{table_length}
use Rattle.table.specs.declared.Settings.{Settings}
use Rattle.table.specs.declared.Counts.{Counts}
use Rattle.table_layout.specs.Build.{places_of}
use Rattle.table_layout.specs.Fits.{SettingsFit}

abbrev pub settings_of : SheetAt → Settings
settings_of a = record { interval = a.interval; timeout = a.timeout; stop = a.stop; t0 = a.t0; evening = a.evening }

-- the counts of a sheet with so many keys and values
abbrev pub counts_of : SheetAt → ℕ → ℕ → Counts
counts_of a keys values =
    record { events = a.events; clauses = a.clauses; keys = keys; values = values; name = a.name - 2; symbol = a.symbol - (a.name + 1) }

-- numbers that fit the header's fields, of a table that fits
pub record HeadFits (a : SheetAt) (keys values names keytexts valuetexts : ℕ) : Type 0 where
  pub settings : SettingsFit (settings_of a)
  pub name : 2 ≤ a.name
  pub symbol : a.name < a.symbol
  pub room : (places_of (counts_of a keys values) names keytexts valuetexts).used ≤ table_length
