-- Worked examples of UTF-8, computed from the definition. Assumes nothing.
use mathlib.Core.Path.{◌≡◌, refl}
use mathlib.Core.List.{[], ◌∷◌}
use mathlib.Core.Bool.{true, false}
use Rattle.utf8.specs.Utf8.{after, step, right, utf8}

empty : utf8 [] ≡ true
unfolding utf8 right step after
empty = refl

-- 任意
wild : utf8 (0xe4 ∷ 0xbb ∷ 0xbb ∷ 0xe6 ∷ 0x84 ∷ 0x8f ∷ []) ≡ true
unfolding utf8 right step after
wild = refl

-- 任 without its last byte
cut : utf8 (0xe4 ∷ 0xbb ∷ []) ≡ false
unfolding utf8 right step after
cut = refl

-- a tail that follows nothing
lone : utf8 (0x80 ∷ []) ≡ false
unfolding utf8 right step after
lone = refl

-- zero in two bytes and in three
overlong_two : utf8 (0xc0 ∷ 0x80 ∷ []) ≡ false
unfolding utf8 right step after
overlong_two = refl

overlong_three : utf8 (0xe0 ∷ 0x80 ∷ 0x80 ∷ []) ≡ false
unfolding utf8 right step after
overlong_three = refl

-- U+FFFF in four bytes
overlong_four : utf8 (0xf0 ∷ 0x8f ∷ 0xbf ∷ 0xbf ∷ []) ≡ false
unfolding utf8 right step after
overlong_four = refl

-- the first surrogate
surrogate : utf8 (0xed ∷ 0xa0 ∷ 0x80 ∷ []) ≡ false
unfolding utf8 right step after
surrogate = refl

-- U+10FFFF, and the number behind it
last : utf8 (0xf4 ∷ 0x8f ∷ 0xbf ∷ 0xbf ∷ []) ≡ true
unfolding utf8 right step after
last = refl

beyond : utf8 (0xf4 ∷ 0x90 ∷ 0x80 ∷ 0x80 ∷ []) ≡ false
unfolding utf8 right step after
beyond = refl
