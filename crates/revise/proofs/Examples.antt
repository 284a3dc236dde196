-- Worked examples of lists of bars with revisions, computed from the definitions. Assumes nothing.
use Prim.Native.Nat.{ℕ}
use mathlib.Core.Bool.{Bool, true, false}
use mathlib.Core.List.{List, [], ◌∷◌, ◌++◌, map}
use mathlib.Core.Path.{◌≡◌, refl}
use Rattle.text.specs.Answer.{Answer, Refused, Got, ◌>>=◌}
use Rattle.text.specs.Literal.{bytes}
use Rattle.revise.specs.Lines.{lines, bar_count}
use Rattle.revise.specs.Entries.{read_entries}
use Rattle.revise.specs.Chosen.{instant_of, chosen, agree}
use Rattle.revise.proofs.Opened.{opened}

-- instant, revision and id of each that is chosen, and whether the entries agree
unfoldable said : List ℕ → Answer (List (List ℕ) × Bool)
said s = read_entries s >>= λ es. Got (map (λ e. instant_of e ∷ e.revision ∷ e.fed.bar.id ∷ []) (chosen es), agree es)

abbrev one : List ℕ
one = bytes "B|1|9|0|3ff0000000000000|0\n"

-- none; in any order, the highest revision, a repeat by its values; the earlier instant first
which : (said [] ≡ Got ([], true))
    × (said (one ++ bytes "S|k|a\nB|2|5|0|3ff0000000000000|7\nB|3|9|-1|3ff0000000000000|1\nB|01|9|-0|3ff0000000000000|00\nS|k|a\n")
    ≡ Got ((5 ∷ 7 ∷ 2 ∷ []) ∷ (9 ∷ 1 ∷ 3 ∷ []) ∷ [], true))
    × (said (bytes "B|1|9|0|3ff0000000000000|4294967295\nB|2|9|0|3ff0000000000000|0\n") ≡ Got ((9 ∷ 4294967295 ∷ 1 ∷ []) ∷ [], true))
unfolding opened said
which = (refl, refl, refl)

-- they differ in an id, an offset, a price's bits, the bytes of the S lines; and below the highest revision
contrary : (said (one ++ bytes "B|2|9|0|3ff0000000000000|0\n") ≡ Got ((9 ∷ 0 ∷ 1 ∷ []) ∷ [], false))
    × (said (one ++ bytes "B|1|9|1|3ff0000000000000|0\n") ≡ Got ((9 ∷ 0 ∷ 1 ∷ []) ∷ [], false))
    × (said (bytes "B|1|9|0|0000000000000000|0\nB|1|9|0|8000000000000000|0\n") ≡ Got ((9 ∷ 0 ∷ 1 ∷ []) ∷ [], false))
    × (said (one ++ bytes "S|k|a\nS|l|a\n" ++ one ++ bytes "S|l|a\nS|k|a\n") ≡ Got ((9 ∷ 0 ∷ 1 ∷ []) ∷ [], false))
    × (said (one ++ bytes "B|3|9|0|3ff0000000000000|1\nB|2|9|0|3ff0000000000000|0\n") ≡ Got ((9 ∷ 1 ∷ 3 ∷ []) ∷ [], false))
unfolding opened said
contrary = (refl, refl, refl, refl, refl)

-- a bar's line: its tag, its LF, its fields, a revision past the last, an instant past the last
first-lines : (said (bytes "C|1|9|0|3ff0000000000000|0\n") ≡ Refused 2) × (said (bytes "B|1|9|0|3ff0000000000000|0") ≡ Refused 2)
    × (said (bytes "B|1|9|0|3ff0000000000000\n") ≡ Refused 2) × (said (bytes "B|1|9|0|3ff0000000000000|4294967296\n") ≡ Refused 3)
    × (said (bytes "B|1|4102444800000000|0|3ff0000000000000|0\n") ≡ Refused 11)
unfolding opened said
first-lines = (refl, refl, refl, refl, refl)

-- S lines: before any bar; a key twice, before another tag and before the next entry; another tag; a last one without its LF, also where nothing
-- is left of it
signal-lines : (said (bytes "S|k|a\n" ++ one) ≡ Refused 2) × (said (one ++ bytes "S|k|a\nS|k|b\nx\n") ≡ Refused 12)
    × (said (one ++ bytes "S|k|a\nS|k|b\nB|x\n") ≡ Refused 12) × (said (one ++ bytes "S|k|a\nS\n") ≡ Refused 2)
    × (said (one ++ bytes "S|k|a") ≡ Refused 2) × (said (one ++ bytes "S|") ≡ Refused 2)
unfolding opened said
signal-lines = (refl, refl, refl, refl, refl, refl)

-- lines that start `B|`, whatever stands behind it
counted : (bar_count (lines (one ++ bytes "B|\nB\nS|B|\nB|x")) ≡ 3)
unfolding opened
counted = refl
