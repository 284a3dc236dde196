-- Worked examples, by computation. Assumes nothing.
use Prim.Native.Nat.{ℕ}
use mathlib.Core.Path.{◌≡◌, refl}
use mathlib.Core.Bool.{true, false}
use lib.IntN.{pos, negsuc}
use lib.Dec.{le→leb, lit≤}
use lib.Ieee.{Float, inf, fin, binary64, of_bits, to_bits, neg}
use Rattle.double.specs.declared.Yield.TheVariants.{Absent, Bp}
use Rattle.double.specs.declared.Side.TheVariants.{Long, Short}
use Rattle.double.specs.Double.{whole, round_away, hold_yield, pair_yield, stop_hit, days_of}
use Rattle.double.specs.Distance.{Moved, Within}
use Rattle.double.proofs.Opened.{opened}

-- rounding, from bits to bits
unfoldable rounded : ℕ → ℕ
rounded b = to_bits binary64 (round_away (of_bits binary64 b))

-- case *10: 2.5 gives 3, and -2.5 gives -3
case_10 : (rounded 0x4004_0000_0000_0000 ≡ 0x4008_0000_0000_0000) × (rounded 0xc004_0000_0000_0000 ≡ 0xc008_0000_0000_0000)
unfolding rounded opened
case_10 = (refl, refl)

-- -0.3 gives -0, the last double below 0.5 gives 0, and 0.5 gives 1
small : (rounded 0xbfd3_3333_3333_3333 ≡ 0x8000_0000_0000_0000) × (rounded 0x3fdf_ffff_ffff_ffff ≡ 0) × (rounded 0x3fe0_0000_0000_0000 ≡ 0x3ff0_0000_0000_0000)
unfolding rounded opened
small = (refl, refl, refl)

-- 2251799813685249.5 gives 2251799813685250, and 4503599627370497 stays
large : (rounded 0x4320_0000_0000_0003 ≡ 0x4320_0000_0000_0004) × (rounded 0x4330_0000_0000_0001 ≡ 0x4330_0000_0000_0001)
unfolding rounded opened
large = (refl, refl)

-- infinities stay
endless : (rounded 0x7ff0_0000_0000_0000 ≡ 0x7ff0_0000_0000_0000) × (rounded 0xfff0_0000_0000_0000 ≡ 0xfff0_0000_0000_0000)
unfolding rounded opened
endless = (refl, refl)

-- from 100 to 125, and from a price that is not above 0
hold_yields : (hold_yield (whole 100) (whole 125) ≡ Bp (whole 2500)) × (hold_yield (whole 0) (whole 125) ≡ Absent) × (hold_yield (neg (whole 1)) (whole 125) ≡ Absent)
unfolding opened
hold_yields = (refl, refl, refl)

pair_yields : (pair_yield Long (whole 100) (whole 125) ≡ Bp (whole 2500)) × (pair_yield Short (whole 100) (whole 125) ≡ Bp (neg (whole 2500)))
unfolding opened
pair_yields = (refl, refl)

-- opened at 0 or -0
no_pair_yield : (pair_yield Long (whole 0) (whole 125) ≡ Absent) × (pair_yield Short (neg (whole 0)) (whole 125) ≡ Absent)
unfolding opened
no_pair_yield = (refl, refl)

-- from the least double above 0 to 1e308
endless_yields : (pair_yield Long (of_bits binary64 1) (of_bits binary64 0x7fe1_ccf3_85eb_c8a0) ≡ Bp (inf false)) × (pair_yield Short (of_bits binary64 1) (of_bits binary64 0x7fe1_ccf3_85eb_c8a0) ≡ Bp (inf true))
unfolding opened
endless_yields = (refl, refl)

-- a stop of 2500 basis points and the reference 128: 96 and 160 are on the stop, which does not pass; 95 and 161 are past it
long_stops : (stop_hit Long (whole 2500) (whole 128) (whole 96) ≡ false) × (stop_hit Long (whole 2500) (whole 128) (whole 95) ≡ true)
unfolding opened
long_stops = (refl, refl)

short_stops : (stop_hit Short (whole 2500) (whole 128) (whole 160) ≡ false) × (stop_hit Short (whole 2500) (whole 128) (whole 161) ≡ true)
unfolding opened
short_stops = (refl, refl)

-- a day and a half
some_days : days_of (pos 129_600) ≡ of_bits binary64 0x3ff8_0000_0000_0000
unfolding opened
some_days = refl

-- ---- how far a hold's yield lies from the exact one

-- from 100 to 125 and back, from 1 to 2 and back it is exact; and the other sign is not near
exact_yields : Within 1000 (whole 100) (whole 125) (Bp (whole 2500))
    × Within 1000 (whole 125) (whole 100) (Bp (neg (whole 2000)))
    × Within 1000 (whole 1) (whole 2) (Bp (whole 10000))
    × Within 1000 (whole 2) (whole 1) (Bp (neg (whole 5000)))
unfolding opened Within
exact_yields = (lit≤ tt, lit≤ tt, lit≤ tt, lit≤ tt)

other_sign : Within 0 (whole 125) (whole 100) (Bp (whole 2000)) → ⊥
unfolding opened Within
other_sign h = le→leb _ _ h

-- the smallest double and twice it, the largest and half of it: `Moved`
abbrev smallest : Float
smallest = fin false 1 (negsuc 1073)

abbrev largest : Float
largest = fin false 9007199254740991 (pos 971)

moved_far : Moved smallest (fin false 1 (negsuc 1072)) × Moved largest (fin false 9007199254740991 (pos 970))
moved_far = (record { from = tt; to = tt; at_least_half = lit≤ tt; at_most_twice = lit≤ tt }, record { from = tt; to = tt; at_least_half = lit≤ tt; at_most_twice = lit≤ tt })

-- 38 is the most that holds: the yield from 1.7998211893163374 to 3.524503590475548 is not within 1/2^39
not_39 : ((old new : Float) → Moved old new → Within 39 old new (hold_yield old new)) → ⊥
unfolding opened Within
not_39 h = le→leb _ _ (h (fin false 2026418509384645 (negsuc 49)) (fin false 7936476528365827 (negsuc 50)) (record { from = tt; to = tt; at_least_half = lit≤ tt; at_most_twice = lit≤ tt }))

-- past twice the old price 38 can fail: from 1.454197894474599 to 5.032591042538609
not_past_twice : Within 38 (fin false 1637281273919691 (negsuc 49)) (fin false 1416548446492811 (negsuc 47)) (hold_yield (fin false 1637281273919691 (negsuc 49)) (fin false 1416548446492811 (negsuc 47))) → ⊥
unfolding opened Within
not_past_twice h = le→leb _ _ h
