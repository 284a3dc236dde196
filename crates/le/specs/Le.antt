-- Little-endian numbers in a list of bytes, and two's complement. Assumes nothing.
use Rattle.std.specs.Prelude.{ℕ, zero, suc, ◌+◌, ◌-◌, ◌*◌, ◌/◌, ◌%◌, ◌^◌, cond, List, [], ◌∷◌, ◌++◌, length, take, drop, ℤ, pos, negsuc, ltb}

-- the n elements of l that start at `at`
unfoldable pub part : List ℕ → ℕ → ℕ → List ℕ
part l at n = take n (drop at l)

-- l with bs in the place of as many elements from `at` on
unfoldable pub patch : List ℕ → ℕ → List ℕ → List ℕ
patch l at bs = take at l ++ bs ++ drop (at + length bs) l

-- the n low bytes of v, the lowest first
unfoldable pub le_bytes : ℕ → ℕ → List ℕ
le_bytes zero v = []
le_bytes (suc n) v = v % 256 ∷ le_bytes n (v / 256)

-- the number whose bytes are l, the lowest first
unfoldable pub le_nat : List ℕ → ℕ
le_nat [] = 0
le_nat (b ∷ bs) = b + 256 * le_nat bs

-- two's complement in h + 1 bits: the bits of z
unfoldable pub sign_bits : ℕ → ℤ → ℕ
sign_bits h (pos n) = n
sign_bits h (negsuc n) = 2 ^ suc h - suc n

-- and the number that the bits n stand for
unfoldable pub signed : ℕ → ℕ → ℤ
signed h n = cond (ltb n (2 ^ h)) (pos n) (negsuc (2 ^ suc h - suc n))
