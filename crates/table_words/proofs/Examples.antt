-- Worked examples of words, computed from the definitions. Assumes nothing.
use mathlib.Core.Path.{◌≡◌, refl}
use mathlib.Core.Bool.{true, false}
use mathlib.Core.List.{[], ◌∷◌}
use Rattle.text.specs.Literal.{bytes}
use Rattle.table_words.specs.Words.{clean, word_ok, key_parts, value_parts, distinct, ordered}
use Rattle.table_words.proofs.Opened.{opened}

-- a key has at most two underscores and no wildcard among its parts; a value has no underscore and is not the wildcard
keys : (word_ok key_parts (bytes "d1_u_w") ≡ true) × (word_ok key_parts (bytes "") ≡ true) × (word_ok key_parts (bytes "a_b_c_d") ≡ false)
    × (word_ok key_parts (bytes "a_任意") ≡ false)
unfolding opened
keys = (refl, refl, refl, refl)

values : (word_ok value_parts (bytes "up") ≡ true) × (word_ok value_parts (bytes "a_b") ≡ false) × (word_ok value_parts (bytes "任意") ≡ false)
    × (word_ok value_parts (bytes "任意a") ≡ true)
unfolding opened
values = (refl, refl, refl, refl)

-- not UTF-8, and each of the marks
unclean : (clean (0x80 ∷ []) ≡ false) × (clean (bytes "a|b") ≡ false) × (clean (10 ∷ []) ≡ false) × (clean (bytes "任意") ≡ true)
unfolding opened
unclean = (refl, refl, refl, refl)

-- three words by their orders and ranks, and what is wrong with others
sorted : (ordered (bytes "up" ∷ bytes "down" ∷ bytes "left" ∷ []) (1 ∷ 2 ∷ 0 ∷ []) (2 ∷ 0 ∷ 1 ∷ []) ≡ true)
    × (ordered (bytes "up" ∷ bytes "down" ∷ bytes "left" ∷ []) (2 ∷ 1 ∷ 0 ∷ []) (2 ∷ 1 ∷ 0 ∷ []) ≡ false)
    × (ordered (bytes "up" ∷ bytes "down" ∷ bytes "up" ∷ []) (1 ∷ 2 ∷ 0 ∷ []) (2 ∷ 0 ∷ 1 ∷ []) ≡ false)
unfolding opened
sorted = (refl, refl, refl)

twice : (distinct (bytes "up" ∷ bytes "down" ∷ bytes "up" ∷ []) ≡ false) × (distinct (bytes "up" ∷ bytes "down" ∷ []) ≡ true)
unfolding opened
twice = (refl, refl)
