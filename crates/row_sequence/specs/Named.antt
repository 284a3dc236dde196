-- What a record's text asks of the record. Assumes nothing.
use Rattle.std.specs.Prelude.{ℕ, ◌<◌}
use Rattle.position.specs.declared.Description.{Description}
use Rattle.position.specs.declared.Description.TheVariants.{Event, Stop, Timeout}

-- an event that is named is one of n
abbrev pub NamedIn : ℕ → Description → Type 0
NamedIn n (Event i) = i < n
NamedIn n Stop = Unit {0}
NamedIn n Timeout = Unit {0}
