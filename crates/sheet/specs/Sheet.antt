-- What a position sheet says. Assumes nothing.
use Rattle.std.specs.Prelude.{ℕ, ◌+◌, ◌/◌, ◌%◌, Bool, cond, ◌&&◌, List, [], ◌∷◌, leb, eqb, length}
use Rattle.signal.specs.Signal.{Signal}

-- "`A|signal` (all), `Y|signal` (any), `N|signal` (not)"
pub data Kind : Type 0 where
  All : Kind
  Any : Kind
  Not : Kind

-- kinds by numbers: 0 all, 1 any, 2 not
abbrev pub kind_of : ℕ → Kind
kind_of k = cond (eqb k 0) All (cond (eqb k 1) Any Not)

pub record Clause : Type 0 where
  pub kind : Kind
  pub signal : Signal

-- "`O|operate|name` (opening) .. `X|operate|name` (exit), any operate in either", with its clauses in the order of their lines; "An O line may
-- carry lots ..; missing means 1, and an X event always has 1"
pub record Event : Type 0 where
  pub exit : Bool
  pub operate : ℕ
  pub name : List ℕ
  pub lots : ℕ
  pub clauses : List Clause

-- events by the number k of their kind, 0 opening or 1 exit, and twice the lots beyond the first: whether it is an exit, and its lots
abbrev pub exit_in : ℕ → Bool
exit_in k = eqb (k % 2) 1

abbrev pub lots_in : ℕ → ℕ
lots_in k = k / 2 + 1

-- "`P|name|symbol|interval|timeout|stop|t0`": interval in seconds, timeout in bars, stop in hundredths of a basis point; "a seventh value ..
-- minutes", those by which the trading day opens before midnight
pub record Sheet : Type 0 where
  pub name : List ℕ
  pub symbol : List ℕ
  pub interval : ℕ
  pub timeout : ℕ
  pub stop : ℕ
  pub t0 : Bool
  pub evening : ℕ
  pub events : List Event

-- how many clauses the events have together
unfoldable pub clause_count : List Event → ℕ
clause_count [] = 0
clause_count (e ∷ es) = length e.clauses + clause_count es

-- ---- the limits

-- "At most 32 events, 256 clauses and 256 bytes a name or symbol."
abbrev pub event_limit : ℕ
event_limit = 32

abbrev pub clause_limit : ℕ
clause_limit = 256

abbrev pub name_limit : ℕ
name_limit = 256

-- "Interval is 0..4,102,444,800 seconds, timeout 0..2,147,483,647 bars, stop 0..1,000,000 basis points, t0 0 or 1."
abbrev pub interval_limit : ℕ
interval_limit = 4_102_444_800

abbrev pub timeout_limit : ℕ
timeout_limit = 2_147_483_647

-- in hundredths: "The upper limit is still 1,000,000"
abbrev pub stop_limit : ℕ
stop_limit = 100_000_000

abbrev pub t0_limit : ℕ
t0_limit = 1

-- "a seventh value, 0 to 1,439 minutes"
abbrev pub evening_limit : ℕ
evening_limit = 1_439

-- "lots .. outside 1 to 1,000"
abbrev pub lots_limit : ℕ
lots_limit = 1_000

abbrev pub lots_ok : ℕ → Bool
lots_ok n = leb 1 n && leb n lots_limit
