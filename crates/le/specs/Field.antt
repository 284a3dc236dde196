-- Fields of fixed size at an offset of a list of bytes, read and written: "Little-endian". Assumes nothing.
use Rattle.std.specs.Prelude.{ℕ, List, ℤ, Float, get_or}
use Rattle.std.specs.Float.{binary64}
use Rattle.std.specs.Float.Ieee.{of_bits, to_bits}
use Rattle.le.specs.Le.{part, le_bytes, le_nat, sign_bits, signed}

abbrev pub u8 : List ℕ → ℕ → ℕ
u8 l at = get_or l at 0

abbrev pub u16 : List ℕ → ℕ → ℕ
u16 l at = le_nat (part l at 2)

abbrev pub u32 : List ℕ → ℕ → ℕ
u32 l at = le_nat (part l at 4)

abbrev pub u64 : List ℕ → ℕ → ℕ
u64 l at = le_nat (part l at 8)

abbrev pub i32 : List ℕ → ℕ → ℤ
i32 l at = signed 31 (u32 l at)

abbrev pub i64 : List ℕ → ℕ → ℤ
i64 l at = signed 63 (u64 l at)

-- a double by its bits
abbrev pub f64 : List ℕ → ℕ → Float
f64 l at = of_bits binary64 (u64 l at)

abbrev pub put16 : ℕ → List ℕ
put16 n = le_bytes 2 n

abbrev pub put32 : ℕ → List ℕ
put32 n = le_bytes 4 n

abbrev pub put_i32 : ℤ → List ℕ
put_i32 z = le_bytes 4 (sign_bits 31 z)

abbrev pub put_i64 : ℤ → List ℕ
put_i64 z = le_bytes 8 (sign_bits 63 z)

abbrev pub put_f64 : Float → List ℕ
put_f64 x = le_bytes 8 (to_bits binary64 x)
