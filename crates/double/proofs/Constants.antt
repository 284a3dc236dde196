-- The code's constants, which it has as bits, are the whole numbers of the definitions. Assumes nothing.
use mathlib.Core.Path.{◌≡◌, refl}
use lib.Ieee.{binary64, of_bits, of_int}
use Rattle.double.specs.Double.{whole}

pub zero_is : of_bits binary64 0 ≡ whole 0
unfolding of_bits of_int
zero_is = refl

pub one-is : of_bits binary64 0x3ff0_0000_0000_0000 ≡ whole 1
unfolding of_bits of_int
one-is = refl

pub hundred_is : of_bits binary64 0x4059_0000_0000_0000 ≡ whole 100
unfolding of_bits of_int
hundred_is = refl

pub scale_is : of_bits binary64 0x40c3_8800_0000_0000 ≡ whole 10000
unfolding of_bits of_int
scale_is = refl

pub day_is : of_bits binary64 0x40f5_1800_0000_0000 ≡ whole 86400
unfolding of_bits of_int
day_is = refl
