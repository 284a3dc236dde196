-- What is known where a bar is written: a book and a bar that passed their checks, and prices that are finite. Assumes nothing.
use Rattle.std.specs.Prelude.{ℕ, ◌≡◌, Bool, true, List, Option, None, Some}
use Rattle.std.specs.Float.Ieee.Scale.{finite}
use Rattle.position.specs.declared.Record.{Record}
use Rattle.bar.specs.Bar.{time_ok}
use Rattle.bar.specs.declared.Bar.{Bar}
use Rattle.book.specs.Check.{header_ok}
use Rattle.book_header.specs.Size.{SizeOk, priced}
use Rattle.position_machine.specs.declared.Update.{Update}

-- a book of c bars that passed 8 and 10
pub record BookPassed (b : List ℕ) (c : ℕ) : Type 0 where
  pub size : SizeOk b c
  pub header : header_ok c b ≡ true

-- a bar that passed 11
pub record BarPassed (bar : Bar) : Type 0 where
  pub time : time_ok bar.time ≡ true
  pub price : finite bar.price ≡ true

-- what a step wrote has a finite price, and so has the reference after it
abbrev pub wrote_priced : Option Record → Bool
wrote_priced None = true
wrote_priced (Some r) = finite r.bar.price

pub record Priced (u : Update) : Type 0 where
  pub reference : priced u.head.reference ≡ true
  pub wrote : wrote_priced u.wrote ≡ true
