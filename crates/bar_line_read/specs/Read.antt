-- What the code's answer means for the definition of a line. Assumes nothing.
use Rattle.bar_line_read.specs.declared.LineError.{LineError}
use Rattle.bar_line_read.specs.declared.LineError.TheVariants.{Malformed, LongPrice}
use Rattle.std.specs.Prelude.{ℕ, Result, Ok, Err}
use Rattle.text.specs.Answer.{Answer, Refused, Got}
use Rattle.bar.specs.declared.BarNumbers.{BarNumbers}

-- the number and the numbers of each answer
abbrev pub line_refusal : LineError → ℕ
line_refusal Malformed = 16
line_refusal LongPrice = 17

abbrev pub line_read_of : Result BarNumbers LineError → Answer BarNumbers
line_read_of (Ok n) = Got n
line_read_of (Err e) = Refused (line_refusal e)
