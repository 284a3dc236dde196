-- The reference of a header, as it is read. Assumes nothing.
use Rattle.std.specs.Prelude.{ℕ, List}
use Rattle.le.specs.Field.{u8, u32, f64}
use Rattle.position.specs.declared.LastEvent.{LastEvent}
use Rattle.book.specs.Layout.{time_at}

-- the event of a reference, as a header has it
abbrev pub last_at : List ℕ → LastEvent
last_at b = record { bar = record { id = u32 b 68; time = time_at b 72 80; price = f64 b 88 }; operate = u8 b 29; event = u32 b 84 }
