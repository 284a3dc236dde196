-- What the code's answer means. Assumes nothing.
use Rattle.utf8_text.specs.declared.AloneError.{AloneError}
use Rattle.utf8_text.specs.declared.AloneError.TheVariants.{TooLong, NotUtf8, Marked}
use Rattle.std.specs.Prelude.{ℕ, Result, Ok, Err}
use Rattle.text.specs.Answer.{Answer, Refused, Got}

-- the number of each answer
abbrev pub alone_refusal : AloneError → ℕ
alone_refusal TooLong = 7
alone_refusal NotUtf8 = 1
alone_refusal Marked = 2

abbrev pub alone_of : Result (Unit {0}) AloneError → Answer (Unit {0})
alone_of (Ok u) = Got u
alone_of (Err e) = Refused (alone_refusal e)
