-- The UTF-8 bytes of a quoted text, so that definitions can quote. Assumes nothing.
use Rattle.std.specs.Prelude.{ℕ, ◌+◌, ◌/◌, ◌%◌, cond, List, ◌++◌, ltb}
use Prim.Native.Char.{code}
use Prim.Native.String.{String, [], ◌∷◌}

-- UTF8-tail of RFC 3629: the low six bits of c
abbrev tail_byte : ℕ → List ℕ → List ℕ
tail_byte c l = List.◌∷◌ (0x80 + c % 64) l

-- the bytes of one character (RFC 3629, section 3)
unfoldable pub encoded : ℕ → List ℕ
encoded c =
    cond (ltb c 0x80) (List.◌∷◌ c List.[])
    (cond (ltb c 0x800) (List.◌∷◌ (0xc0 + c / 64) (tail_byte c List.[]))
    (cond (ltb c 0x10000) (List.◌∷◌ (0xe0 + c / 4096) (tail_byte (c / 64) (tail_byte c List.[])))
    (List.◌∷◌ (0xf0 + c / 262144) (tail_byte (c / 4096) (tail_byte (c / 64) (tail_byte c List.[]))))))

unfoldable pub bytes : String → List ℕ
bytes [] = List.[]
bytes (c ∷ s) = encoded (code c) ++ bytes s
