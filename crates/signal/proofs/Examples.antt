-- Worked examples of signals, keys and values, computed from the definitions. Assumes nothing.
use Prim.Native.Nat.{ℕ}
use mathlib.Core.List.{List}
use mathlib.Core.Path.{◌≡◌, refl}
use Rattle.std.specs.Prelude.{None, Some}
use lib.IntN.{negsuc, pos}
use Rattle.text.specs.Answer.{Answer, Refused, Got, ◌>>=◌}
use Rattle.text.specs.Literal.{bytes}
use Rattle.signal.specs.Signal.{key_of, signal_of, signal_alone}
use Rattle.signal.specs.Value.{value_of}
use Rattle.signal.proofs.Opened.{opened}

-- case *1's first clause
whole : signal_alone (bytes "d1_u_w_up_任意_任意_10")
    ≡ Got (record { key = bytes "d1_u_w"; v1 = bytes "up"; v2 = bytes "任意"; v3 = bytes "任意"; score = 10 })
unfolding opened
whole = refl

-- parts may be empty, and +007 reads as 7
empty-parts : signal_alone (bytes "______+007") ≡ Got (record { key = bytes "__"; v1 = bytes ""; v2 = bytes ""; v3 = bytes ""; score = 7 })
unfolding opened
empty-parts = refl

-- -0 is 0
minus_zero : signal_of (bytes "a_b_c_d_e_f_-0") ≡ Got (record { key = bytes "a_b_c"; v1 = bytes "d"; v2 = bytes "e"; v3 = bytes "f"; score = 0 })
unfolding opened
minus_zero = refl

-- up to 1,000, with a sign and zeros before it too
abbrev score_of : List ℕ → Answer ℕ
score_of s = signal_alone s >>= λ g. Got g.score

thousandths : (score_of (bytes "______101") ≡ Got 101) × (score_of (bytes "______1000") ≡ Got 1_000) × (score_of (bytes "______+01000") ≡ Got 1_000)
unfolding opened
thousandths = (refl, refl, refl)

-- 6: past the limit, past i32, below 0, no digit
scores : (signal_of (bytes "______1001") ≡ Refused 6) × (signal_alone (bytes "______+1001") ≡ Refused 6) × (signal_of (bytes "______2147483648") ≡ Refused 6)
    × (signal_of (bytes "______-1") ≡ Refused 6) × (signal_of (bytes "______") ≡ Refused 6)
unfolding opened
scores = (refl, refl, refl, refl, refl)

-- 5: six parts, eight parts; and the parts are counted before the score is read
counts : (signal_of (bytes "_____1001") ≡ Refused 5) × (signal_of (bytes "_______10") ≡ Refused 5)
unfolding opened
counts = (refl, refl)

-- 2 comes before 5
marked : signal_alone (bytes "a|b") ≡ Refused 2
unfolding opened
marked = refl

-- keys of every shape
keys : (key_of (bytes "a") (bytes "b") (bytes "c") ≡ bytes "a_b_c")
    × (key_of (bytes "任意") (bytes "b") (bytes "c") ≡ bytes "b_c")
    × (key_of (bytes "a") (bytes "任意") (bytes "c") ≡ bytes "a_c")
    × (key_of (bytes "a") (bytes "b") (bytes "任意") ≡ bytes "a_b")
    × (key_of (bytes "任意") (bytes "任意") (bytes "c") ≡ bytes "c")
    × (key_of (bytes "任意") (bytes "任意") (bytes "任意") ≡ bytes "")
    × (key_of (bytes "") (bytes "任意") (bytes "c") ≡ bytes "_c")
    × (key_of (bytes "任意a") (bytes "b") (bytes "c") ≡ bytes "任意a_b_c")
unfolding opened
keys = (refl, refl, refl, refl, refl, refl, refl, refl)

-- a value has exactly four parts and a readable score, which may be below 0 and above 1,000
values : (value_of (bytes "up_a__-5") ≡ Some (record { v1 = bytes "up"; v2 = bytes "a"; v3 = bytes ""; score = negsuc 4 }))
    × (value_of (bytes "up_a__1001") ≡ Some (record { v1 = bytes "up"; v2 = bytes "a"; v3 = bytes ""; score = pos 1_001 }))
    × (value_of (bytes "up_a_5") ≡ None) × (value_of (bytes "up_a_b_c_5") ≡ None) × (value_of (bytes "up_a_b_x") ≡ None)
unfolding opened
values = (refl, refl, refl, refl, refl)
