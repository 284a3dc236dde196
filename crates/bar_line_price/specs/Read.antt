-- What the code's answer means for the definition of a line's price, and what the private functions ask and promise. Assumes nothing.
use Rattle.bar_line_price.specs.declared.PriceError.{PriceError}
use Rattle.bar_line_price.specs.declared.PriceError.TheVariants.{Long, Bad}
use Rattle.std.specs.Prelude.{ℕ, ◌+◌, ◌*◌, ◌^◌, ◌<◌, Bool, true, false, List, ◌≡◌, Float, length, Option, None, Some, Result, Ok, Err}
use Rattle.text.specs.Answer.{Answer, Refused, Got, ◌>>=◌, given}
use Rattle.text.specs.Number.{within, digits_behind, natural}
use Rattle.bar_line.specs.Line.{double_of}

-- the number and the double of each answer
abbrev pub price_refusal : PriceError → ℕ
price_refusal Long = 17
price_refusal Bad = 16

abbrev pub price_read_of : Result Float PriceError → Answer Float
price_read_of (Ok x) = Got x
price_read_of (Err e) = Refused (price_refusal e)

-- whether a number is there
abbrev pub is_number : Option ℕ → Bool
is_number None = false
is_number (Some v) = true

-- one or more digits, and nothing else
abbrev pub are_digits : List ℕ → Bool
are_digits l = is_number (natural l)

-- a decimal digit
abbrev pub is_digit : ℕ → Bool
is_digit = within 48 57

-- r is v with the digits of s behind it
pub record Continued (s : List ℕ) (v r : ℕ) : Type 0 where
  pub value : Some r ≡ digits_behind (Some v) s
  pub few : r < (v + 1) * 10 ^ length s

-- the price of the digits of a number, b of which stand behind the point
abbrev pub priced : List ℕ → ℕ → Answer Float
priced digits b = given 16 (digits_behind (Some 0) digits) >>= λ n. double_of (record { value = n; digits = length digits; behind = b })
