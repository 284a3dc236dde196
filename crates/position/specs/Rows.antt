-- Pair rows and hold rows of the plain machine. Assumes nothing.
use Rattle.std.specs.Prelude.{ℕ, Bool, cond, ◌||◌, List, [], ◌∷◌, ◌++◌, map, eqb, ℤ, Float, get_or, Option, None, Some, slice_get}
use Rattle.std.proofs.Math.IntN.{sub_ℕ}
use Rattle.double.specs.declared.Yield.{Yield}
use Rattle.text.specs.Literal.{bytes}
use Rattle.text.specs.Text.{has, begins}
use Rattle.text.specs.Number.{decimal_of}
use Rattle.stop.specs.Stop.{stop_text}
use Rattle.double.specs.Double.{days_of, pair_yield}
use Rattle.double.specs.declared.Side.{Side}
use Rattle.operate.specs.Operate.{LO, LE, SO, SE, latin, chinese}
use Rattle.bar.specs.Time.{seconds_between}
use Rattle.bar.specs.Bar.{local_of}
use Rattle.bar.specs.declared.LocalTime.{LocalTime}
use Rattle.sheet.specs.Sheet.{Event, Sheet}
use Rattle.position.specs.State.{pos_sign}
use Rattle.position.specs.declared.Description.{Description}
use Rattle.position.specs.declared.Description.TheVariants.{Event as ByEvent, Stop, Timeout}
use Rattle.position.specs.declared.Record.{Record}
use Rattle.position.specs.declared.Hold.{Hold}
use Rattle.position.specs.declared.HoldRow.{HoldRow}

-- ---- the sequence text

abbrev pub name_in : Option Event → List ℕ
name_in None = []
name_in (Some e) = e.name

-- the name of the event with that index
abbrev pub event_name : Sheet → ℕ → List ℕ
event_name s i = name_in (slice_get s.events i)

-- "平多 .. (平空 for SE)"
abbrev pub close_name : ℕ → List ℕ
close_name operate = cond (eqb operate SE) (bytes "平空") (bytes "平多")

-- "Stop text is 平多@500BP止损, timeout text 平多@5K超时 (平空 for SE), numbers in plain decimal."; "The stop text prints the stop without
-- needless zeros or a bare point"
abbrev pub description_text : Sheet → ℕ → Description → List ℕ
description_text s operate (ByEvent i) = event_name s i
description_text s operate Stop = close_name operate ++ bytes "@" ++ stop_text s.stop ++ bytes "BP止损"
description_text s operate Timeout = close_name operate ++ bytes "@" ++ decimal_of s.timeout ++ bytes "K超时"

-- "it starts with that operate's spelling and `#`": either spelling
abbrev pub tagged : ℕ → List ℕ → Bool
tagged operate d = begins (get_or latin operate [] ++ bytes "#") d || begins (get_or chinese operate [] ++ bytes "#") d

-- "`@` and LO, SO, LE or SE if it starts with that operate's spelling and `#`, else `is_match`"
unfoldable pub event_tag : List ℕ → List ℕ
event_tag d =
    cond (tagged LO d) (bytes "LO")
    (cond (tagged SO d) (bytes "SO")
    (cond (tagged LE d) (bytes "LE")
    (cond (tagged SE d) (bytes "SE") (bytes "is_match"))))

-- "one without `@` gains `@` and .."
unfoldable pub sequence_part : List ℕ → List ℕ
sequence_part d = cond (has 64 d) d (d ++ bytes "@" ++ event_tag d)

-- a record's part of the sequence
unfoldable pub sequence_of : Sheet → Record → List ℕ
sequence_of s r = sequence_part (description_text s r.operate r.description)

-- ---- pairs

pub record Pair : Type 0 where
  pub symbol : List ℕ
  pub mark : List ℕ
  pub side : Side
  pub open_local : LocalTime
  pub close_local : LocalTime
  pub open_price : Float
  pub close_price : Float
  pub ids : ℤ
  pub sequence : List ℕ
  pub days : Float
  pub yield : Yield
  pub lots : ℕ

-- "whose first is LO or SO"; "L or S"
abbrev pub opens : Record → Bool
opens a = eqb a.operate LO || eqb a.operate SO

abbrev pub side_of : Record → Side
side_of a = cond (eqb a.operate LO) Side.Long Side.Short

-- "symbol, mark (position name), L or S, both local times, both prices, id difference, sequence, days (elapsed whole seconds/86400
-- as doubles), yield"; "The sequence joins both descriptions by ` -> `"; "Pair rows end with the opening lots"
unfoldable pub pair_of : Sheet → Record → Record → Pair
pair_of s a b =
    record {
      symbol = s.symbol;
      mark = s.name;
      side = side_of a;
      open_local = local_of a.bar.time;
      close_local = local_of b.bar.time;
      open_price = a.bar.price;
      close_price = b.bar.price;
      ids = sub_ℕ b.bar.id a.bar.id;
      sequence = sequence_of s a ++ bytes " -> " ++ sequence_of s b;
      days = days_of (seconds_between a.bar.time.instant.0 b.bar.time.instant.0);
      yield = pair_yield (side_of a) a.bar.price b.bar.price;
      lots = a.lots;
    }

-- "Pairs (`pairs`) are neighbouring records whose first is LO or SO"
unfoldable pub pairs_of : Sheet → List Record → List Pair
pairs_of s [] = []
pairs_of s (a ∷ []) = []
pairs_of s (a ∷ b ∷ rs) = let later = pairs_of s (b ∷ rs) in cond (opens a) (pair_of s a b ∷ later) later

-- ---- holds

-- "Hold rows (`holds`) give local time, -1, 0 or 1, price, yield."
unfoldable pub hold_row : Hold → HoldRow
hold_row o = record { local = local_of o.time; pos = pos_sign o.pos; price = o.price; n1b = o.n1b }

unfoldable pub hold_rows : List Hold → List HoldRow
hold_rows os = map hold_row os
