-- UTF-8 as RFC 3629, section 4, has it: each row of the ABNF is a first byte's range and the ranges of the bytes that follow it. Assumes nothing.
use Rattle.std.specs.Prelude.{ℕ, Bool, true, false, cond, List, [], ◌∷◌, Option, None, Some}
use Rattle.text.specs.Number.{within}

-- a byte from lo to hi
pub record Range : Type 0 where
  pub lo : ℕ
  pub hi : ℕ

abbrev pub to : ℕ → ℕ → Range
to lo hi = record { lo = lo; hi = hi }

abbrev pub inside : Range → ℕ → Bool
inside r b = within r.lo r.hi b

-- UTF8-tail
abbrev pub utf8_tail : Range
utf8_tail = to 0x80 0xbf

-- what must follow a first byte, or nothing where no character starts with it
unfoldable pub after : ℕ → Option (List Range)
after b =
    cond (inside (to 0x00 0x7f) b) (Some [])
    (cond (inside (to 0xc2 0xdf) b) (Some (utf8_tail ∷ []))
    (cond (inside (to 0xe0 0xe0) b) (Some (to 0xa0 0xbf ∷ utf8_tail ∷ []))
    (cond (inside (to 0xe1 0xec) b) (Some (utf8_tail ∷ utf8_tail ∷ []))
    (cond (inside (to 0xed 0xed) b) (Some (to 0x80 0x9f ∷ utf8_tail ∷ []))
    (cond (inside (to 0xee 0xef) b) (Some (utf8_tail ∷ utf8_tail ∷ []))
    (cond (inside (to 0xf0 0xf0) b) (Some (to 0x90 0xbf ∷ utf8_tail ∷ utf8_tail ∷ []))
    (cond (inside (to 0xf1 0xf3) b) (Some (utf8_tail ∷ utf8_tail ∷ utf8_tail ∷ []))
    (cond (inside (to 0xf4 0xf4) b) (Some (to 0x80 0x8f ∷ utf8_tail ∷ utf8_tail ∷ []))
    None))))))))

-- the ranges still to come after one byte more
unfoldable pub step : Option (List Range) → ℕ → Option (List Range)
step None b = None
step (Some []) b = after b
step (Some (r ∷ rs)) b = cond (inside r b) (Some rs) None

abbrev pub complete : Option (List Range) → Bool
complete None = false
complete (Some []) = true
complete (Some (r ∷ rs)) = false

-- the bytes l are right where the ranges of the state are still to come
unfoldable pub right : Option (List Range) → List ℕ → Bool
right st [] = complete st
right st (b ∷ l) = right (step st b) l

-- UTF8-octets
unfoldable pub utf8 : List ℕ → Bool
utf8 l = right (Some []) l
