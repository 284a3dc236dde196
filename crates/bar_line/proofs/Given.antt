-- A line is refused with a number that is not 0, or its price is a double. Assumes nothing.
use Prim.Native.Nat.{ℕ}
use mathlib.Core.Bool.{Bool, true, false, cond}
use mathlib.Core.List.{List, []}
use lib.Dec.{T, eqb}
use lib.IntN.{pos, neg_ℤ}
use lib.Ieee.{Float, binary64, fits}
use lib.Ieee.Fits.{div-fits}
use lib.ListN.{length, get_or}
use Rattle.text.specs.Answer.{Refused, Got}
use Rattle.text.proofs.Refusals.{Gives, refuses, gives, Any, must_gives, given_gives, then_with, then_gives, loud}
use Rattle.text.specs.Number.{digits_to}
use Rattle.text.specs.Text.{split}
use Rattle.bar_line.specs.Line.{comma, hyphen, plus_sign, signed_by, date_of, minutes_of, clock_of, offset_of, stamp_of, Decimal, decimal_in, double_of, price_of, line_of}

date_gives : (s : List ℕ) → Gives Any (date_of s)
unfolding date_of
date_gives s = search loud depth 12

minutes_give : (s : List ℕ) (at : ℕ) → Gives Any (minutes_of s at)
unfolding minutes_of
minutes_give s at = search loud

clock_gives : (s : List ℕ) → Gives Any (clock_of s)
unfolding clock_of
clock_gives s = search (loud, minutes_give)

sign_gives : (sign n : ℕ) → Gives Any (signed_by sign n)
sign_gives sign n = go (eqb sign plus_sign) (eqb sign hyphen)
  where
    go : (p m : Bool) → Gives Any (cond p (Got (pos n)) (cond m (Got (neg_ℤ (pos n))) (Refused 16)))
    go true m = gives tt
    go false true = gives tt
    go false false = refuses

offset_gives : (s : List ℕ) → Gives Any (offset_of s)
unfolding offset_of
offset_gives s = then_gives (minutes_give s 20) (λ m. sign_gives (get_or s 19 0) _)

stamp_gives : (s : List ℕ) → Gives Any (stamp_of s)
unfolding stamp_of
stamp_gives s = search (loud, date_gives, clock_gives, offset_gives) depth 12

decimal_gives : (s : List ℕ) → Gives Any (decimal_in s)
unfolding decimal_in
decimal_gives s = search loud

abbrev IsDouble : Float → Type 0
IsDouble x = T (fits binary64 x)

double_gives : (d : Decimal) → Gives IsDouble (double_of d)
unfolding double_of
double_gives d = search (loud, gives, div-fits)

price_gives : (s : List ℕ) → Gives IsDouble (price_of s)
unfolding price_of
price_gives s = then_gives (decimal_gives s) double_gives

pub line_gives : (line : List ℕ) → Gives (λ n. IsDouble n.price) (line_of line)
unfolding line_of
line_gives line =
    then_gives (must_gives 16 (eqb (length (split comma line)) 3) tt)
    (λ _. then_gives (given_gives 16 (digits_to 10 (get_or (split comma line) 0 [])) tt)
    (λ id. then_gives (stamp_gives (get_or (split comma line) 1 []))
    (λ at. then_with (price_gives (get_or (split comma line) 2 [])) (λ x fit. gives fit))))
