-- What the private functions promise. Assumes nothing.
use Rattle.std.specs.Prelude.{ℕ, ◌+◌, ◌-◌, ◌/◌, ◌^◌, cond, ltb}

-- a magnitude rounded to a whole number, ties up, from the fields of a double's bits: e the exponent's, below 1075, and t the digits
unfoldable pub near : ℕ → ℕ → ℕ
near e t = cond (ltb e 1022) 0 (((2 ^ 52 + t) / 2 ^ (1074 - e) + 1) / 2)
