-- A sheet's counts, where an event may stand, by the numbers, and which numbers fit 16 bits. Assumes nothing.
use Rattle.std.specs.Prelude.{ℕ, zero, suc, ◌<◌, Bool, false, not, ◌||◌, List}
use Rattle.signal.specs.declared.SignalAt.{SignalAt}
use Rattle.sheet.specs.Sheet.{exit_in}
use Rattle.sheet.specs.Places.{event_number}
use Rattle.sheet.specs.declared.SheetAt.{SheetAt}

-- the same sheet with e events and c clauses
abbrev pub counted : SheetAt → ℕ → ℕ → SheetAt
counted a e c =
    record { name = a.name; symbol = a.symbol; interval = a.interval; timeout = a.timeout; stop = a.stop; t0 = a.t0; evening = a.evening; events = e; clauses = c }

-- whether the last of n events is an exit
abbrev pub last_exit : List ℕ → ℕ → Bool
last_exit es zero = false
last_exit es (suc i) = exit_in (event_number es i 0)

-- whether an event of this kind, with whatever lots, may come behind n events
abbrev pub in_place : List ℕ → ℕ → ℕ → Bool
in_place es n kind = exit_in kind || not (last_exit es n)

-- the numbers of a signal fit 16 bits
pub record Narrow (g : SignalAt) : Type 0 where
  pub k1 : g.k1 < 65536
  pub k2 : g.k2 < 65536
  pub k3 : g.k3 < 65536
  pub v1 : g.v1 < 65536
  pub v2 : g.v2 < 65536
  pub v3 : g.v3 < 65536
  pub score : g.score < 65536
