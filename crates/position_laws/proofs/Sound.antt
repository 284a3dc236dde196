-- What every state has that bars can reach: its values are in range, its lists rise, and its last hold is the head's. Assumes nothing.
use Rattle.std.specs.Prelude.{Option, None, Some}
use Prim.Native.Nat.{ℕ, ◌≤◌, ◌<◌}
use mathlib.Core.Bool.{true, false, ◌||◌}
use mathlib.Core.List.{List, [], ◌∷◌, ◌++◌}
use mathlib.Core.Logic.{◌⊎◌}
use mathlib.Core.Path.{◌≡◌}
use mathlib.Mathlib.Data.List.Defs.{Forall}
use lib.Dec.{T, eqb}
use lib.Ieee.{binary64, fits, is_nan}
use lib.Ieee.Scale.{finite}
use lib.ListN.{length}
use lib.Signed.{le_z, lt_z}
use Rattle.double.specs.declared.Yield.{Yield}
use Rattle.double.specs.declared.Yield.TheVariants.{Absent, Bp}
use Rattle.operate.specs.Operate.{LO, SO}
use Rattle.bar.specs.Bar.{last_id, time_ok}
use Rattle.bar.specs.declared.Time.{Time}
use Rattle.bar.specs.declared.Bar.{Bar}
use Rattle.sheet.specs.Sheet.{Sheet, lots_ok}
use Rattle.position.specs.State.{State, fresh_state, trades}
use Rattle.position.specs.declared.Pos.{Pos}
use Rattle.position.specs.declared.Pos.TheVariants.{Short, Flat, Long}
use Rattle.position.specs.declared.LastEvent.{LastEvent}
use Rattle.position.specs.declared.Head.{Head}
use Rattle.position.specs.declared.Record.{Record}
use Rattle.position.specs.declared.Hold.{Hold}
use Rattle.position_laws.proofs.OneRecord.{Named}

-- ---- times

-- t is not after u
abbrev pub By : Time → Time → Type 0
By u t = le_z t.instant.0 u.instant.0 ≡ true

-- t is before u
abbrev pub Before : Time → Time → Type 0
Before t u = lt_z t.instant.0 u.instant.0 ≡ true

-- "instants strictly rising"
abbrev pub Rising : {A : Type 0} → (A → Time) → List A → Type 0
Rising f [] = Unit {0}
Rising f (a ∷ []) = Unit {0}
Rising f (a ∷ b ∷ l) = Before (f a) (f b) × Rising f (b ∷ l)

-- ---- values

-- a bar's fields are in range, its price a double
pub record BarOk (b : Bar) : Type 0 where
  pub id : b.id ≤ last_id
  pub time : time_ok b.time ≡ true
  pub price : finite b.price ≡ true
  pub double : T (fits binary64 b.price)

abbrev pub YieldOk : Yield → Type 0
YieldOk Absent = Unit {0}
YieldOk (Bp x) = (is_nan x ≡ false) × T (fits binary64 x)

-- the lots of a hold: "0 when Flat", else in range
abbrev pub LotsFor : Pos → ℕ → Type 0
LotsFor Short n = lots_ok n ≡ true
LotsFor Flat n = n ≡ 0
LotsFor Long n = lots_ok n ≡ true

pub record HoldOk (o : Hold) : Type 0 where
  pub time : time_ok o.time ≡ true
  pub price : finite o.price ≡ true
  pub double : T (fits binary64 o.price)
  pub n1b : YieldOk o.n1b
  pub lots : LotsFor o.pos o.lots

pub record RecordOk (s : Sheet) (r : Record) : Type 0 where
  pub bar : BarOk r.bar
  pub operate : trades r.operate ≡ true
  pub named : Named s r.description
  pub lots : lots_ok r.lots ≡ true

-- ---- the head, whose end is `end`

abbrev pub OpenOk : Time → Option Time → Type 0
OpenOk end None = Unit {0}
OpenOk end (Some t) = (time_ok t ≡ true) × By end t

pub record LastEventOk (s : Sheet) (end : Time) (r : LastEvent) : Type 0 where
  pub bar : BarOk r.bar
  pub operate : (eqb r.operate LO || eqb r.operate SO) ≡ true
  pub event : r.event < length s.events
  pub past : By end r.bar.time

abbrev pub ReferenceOk : Sheet → Time → Option LastEvent → Type 0
ReferenceOk s end None = Unit {0}
ReferenceOk s end (Some r) = LastEventOk s end r

pub record HeadOk (s : Sheet) (h : Head) : Type 0 where
  pub end : time_ok h.end ≡ true
  pub long : OpenOk h.end h.long
  pub short : OpenOk h.end h.short
  pub reference : ReferenceOk s h.end h.reference

-- ---- the state

abbrev pub hold_time : Hold → Time
hold_time o = o.time

abbrev pub record_time : Record → Time
record_time r = r.bar.time

-- the last hold: at the head's end, with its pos, its yield absent
pub record Ends (st : State) : Type 0 where
  pub front : List Hold
  pub last : Hold
  pub whole : st.holds ≡ front ++ last ∷ []
  pub time : last.time ≡ st.head.end
  pub pos : last.pos ≡ st.head.pos
  pub n1b : last.n1b ≡ Absent

pub record Sound (s : Sheet) (st : State) : Type 0 where
  pub head : HeadOk s st.head
  pub holds : Forall HoldOk st.holds
  pub holds_rise : Rising hold_time st.holds
  pub records : Forall (RecordOk s) st.records
  pub records_rise : Rising record_time st.records
  pub records_past : Forall (λ r. By st.head.end (record_time r)) st.records
  pub few : length st.records ≤ length st.holds
  pub ends : (st ≡ fresh_state) ⊎ Ends st
