-- What the bytes of a book can hold: instants of 64 bits, offsets and ids of 32, a record's event index and lots of 16, and doubles. Assumes
-- nothing.
use Rattle.std.specs.Prelude.{Option, None, Some, Float}
use Prim.Native.Nat.{ℕ, ◌^◌, ◌<◌}
use mathlib.Core.Path.{◌≡◌}
use lib.Dec.{T}
use lib.Signed.{mag}
use lib.Ieee.{binary64, fits}
use Rattle.double.specs.declared.Yield.{Yield}
use Rattle.double.specs.declared.Yield.TheVariants.{Absent, Bp}
use Rattle.bar.specs.declared.Time.{Time}
use Rattle.bar.specs.declared.Bar.{Bar}
use Rattle.position.specs.declared.Pos.{Pos}
use Rattle.position.specs.declared.Pos.TheVariants.{Short, Flat, Long}
use Rattle.position.specs.declared.LastEvent.{LastEvent}
use Rattle.position.specs.declared.Head.{Head}
use Rattle.position.specs.declared.Description.{Description}
use Rattle.position.specs.declared.Description.TheVariants.{Event, Stop, Timeout}
use Rattle.position.specs.declared.Record.{Record}
use Rattle.position.specs.declared.Hold.{Hold}

pub record TimeIn (t : Time) : Type 0 where
  pub instant : mag t.instant.0 < 2 ^ 63
  pub offset : mag t.offset < 2 ^ 31

pub record BarIn (b : Bar) : Type 0 where
  pub id : b.id < 2 ^ 32
  pub time : TimeIn b.time
  pub price : T (fits binary64 b.price)

abbrev pub YieldIn : Yield → Type 0
YieldIn Absent = Unit {0}
YieldIn (Bp x) = T (fits binary64 x)

-- lots that are read as they were written: 0 would be read as 1
abbrev pub LotsIn : ℕ → Type 0
LotsIn n = (0 < n) × (n < 2 ^ 16)

abbrev pub HeldIn : Pos → ℕ → Type 0
HeldIn Short n = LotsIn n
HeldIn Flat n = n ≡ 0
HeldIn Long n = LotsIn n

pub record HoldIn (o : Hold) : Type 0 where
  pub time : TimeIn o.time
  pub price : T (fits binary64 o.price)
  pub n1b : YieldIn o.n1b
  pub lots : HeldIn o.pos o.lots

abbrev pub DescriptionIn : Description → Type 0
DescriptionIn (Event i) = i < 2 ^ 16
DescriptionIn Stop = Unit {0}
DescriptionIn Timeout = Unit {0}

pub record RecordIn (r : Record) : Type 0 where
  pub bar : BarIn r.bar
  pub description : DescriptionIn r.description
  pub lots : LotsIn r.lots

abbrev pub OpenIn : Option Time → Type 0
OpenIn None = Unit {0}
OpenIn (Some t) = TimeIn t

pub record LastIn (r : LastEvent) : Type 0 where
  pub bar : BarIn r.bar
  pub event : r.event < 2 ^ 32

abbrev pub ReferenceIn : Option LastEvent → Type 0
ReferenceIn None = Unit {0}
ReferenceIn (Some r) = LastIn r

pub record HeadIn (h : Head) : Type 0 where
  pub end : TimeIn h.end
  pub long : OpenIn h.long
  pub short : OpenIn h.short
  pub reference : ReferenceIn h.reference
