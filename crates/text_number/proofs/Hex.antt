-- Laws of hexadecimal numbers that are read, and the invariant of `read_hex`. Assumes nothing.
use mathlib.Core.Path.{◌≡◌, ◌∙◌, refl, sym}
use mathlib.Core.Logic.{◌≢◌}
use mathlib.Core.List.{List, [], ◌∷◌}
use Rattle.std.specs.Prelude.{None, Some}
use Prim.Native.Nat.{ℕ, ◌+◌, ◌*◌, ◌-◌, ◌^◌, ◌≤◌, ◌<◌}
use native.Mathlib.Nat.{pow-suc, pow-le-pow_right, sub_self}
use native.Mathlib.Decide.{dec_le}
use native.Mathlib.Numerals.{add-one}
use native.Mathlib.Omega.{arith}
use borrow.Author.Tests.{le-leb, lt-leb, eq-eqb, ne_eqb}
use lib.ListN.{get_or}
use lib.Seq.{slice, length-slice}
use Rattle.text.specs.Number.{within, hex_value, hex_next, hex_digits, bits_of}
use Rattle.text.specs.Read.{Part}
use Rattle.text.proofs.Laws.{part_cons, part_nil}

-- ---- one digit

module _ (x : ℕ) where
  pub hex_decimal : 48 ≤ x → x ≤ 57 → hex_value x ≡ Some (x - 48)
  hex_decimal l h = rw (le-leb 48 x l, le-leb x 57 h)

  pub hex_letter : 97 ≤ x → x ≤ 102 → hex_value x ≡ Some (x - 87)
  hex_letter l h =
      let a : 48 ≤ x = omega arith in
      let b : 57 < x = omega arith in
      rw (le-leb 48 x a, lt-leb x 57 b, le-leb 97 x l, le-leb x 102 h)

  pub hex_below : x < 48 → hex_value x ≡ None
  hex_below h =
      let a : x < 97 = omega arith in
      rw (lt-leb 48 x h, lt-leb 97 x a)

  pub hex_between : 57 < x → x < 97 → hex_value x ≡ None
  hex_between l h =
      let a : 48 ≤ x = omega arith in
      rw (le-leb 48 x a, lt-leb x 57 l, lt-leb 97 x h)

  pub hex_above : 102 < x → hex_value x ≡ None
  hex_above l =
      let a : 48 ≤ x = omega arith in
      let b : 57 < x = omega arith in
      let d : 97 ≤ x = omega arith in
      rw (le-leb 48 x a, lt-leb x 57 b, le-leb 97 x d, lt-leb x 102 l)

  pub hex_small : (d : ℕ) → Some d ≡ hex_value x → d < 16
  hex_small d e =
      elim (dec_le x 57) [
        | yes h ↦ elim (dec_le 48 x) [ yes l ↦ is (x - 48) (hex_decimal l h) (omega arith) | no l ↦ not (hex_below (omega arith)) ]
        | no h ↦ elim (dec_le 97 x) [
          | yes l ↦ elim (dec_le x 102) [ yes k ↦ is (x - 87) (hex_letter l k) (omega arith) | no k ↦ not (hex_above (omega arith)) ]
          | no l ↦ not (hex_between (omega arith) (omega arith))
        ]
      ]
    where
      is : (v : ℕ) → hex_value x ≡ Some v → v < 16 → d < 16
      is v h k = let g : d ≡ v = cc in omega arith

      not : hex_value x ≡ None → d < 16
      not h = absurd (let z : ◌≡◌ {A = ℕ} 0 1 = cc in omega arith)

-- ---- sixteen digits, one after another

hex_none : (l : List ℕ) → hex_digits None l ≡ None
unfolding hex_digits
hex_none [] = refl
hex_none (x ∷ t) = hex_none t

-- the sixteen digits of s in from..to are read up to i, and their value is v
pub record Hexing (s : List ℕ) (from to v i : ℕ) : Type 0 where
  pub left : Part s i to
  pub begun : from ≤ i
  pub sixteen : to ≡ from + 16
  pub small : v < 16 ^ (i - from)
  pub same : bits_of (slice from to s) ≡ hex_digits (Some v) (slice i to s)

module _ {s : List ℕ} {from to : ℕ} (p : Part s from to) where
  pub hexing_other : to - from ≢ 16 → None ≡ bits_of (slice from to s)
  unfolding bits_of
  hexing_other h = rw (length-slice from to s p.within, ne_eqb _ _ h)

  pub hexing_first : to - from ≡ 16 → Hexing s from to 0 from
  unfolding bits_of
  hexing_first h = record {
    left = p;
    begun = omega arith;
    sixteen = omega (arith, p.order);
    small = rw sub_self (omega arith);
    same = rw (length-slice from to s p.within, eq-eqb _ _ h);
  }

module _ {s : List ℕ} {from to v i : ℕ} (r : Hexing s from to v i) where
  pub hexing_last : to ≤ i → Some v ≡ bits_of (slice from to s)
  unfolding hex_digits
  hexing_last h = sym (r.same ∙ rw (part_nil i to s h))

  module _ (h : i < to) where
    -- before the last digit there are at most fifteen
    pub hexing_fits : v < 1152921504606846976
    hexing_fits = omega (arith, r.small, pow-le-pow_right {n = 16} (omega arith) {i = i - from} {j = 15} (omega (arith, r.sixteen)))

    next : bits_of (slice from to s) ≡ hex_digits (hex_next (Some v) (hex_value (get_or s i 0))) (slice (i + 1) to s)
    unfolding hex_digits
    next = r.same ∙ rw (part_cons i to s h r.left.within, hex_digits)

    pub hexing_bad : None ≡ hex_value (get_or s i 0) → None ≡ bits_of (slice from to s)
    hexing_bad e = sym (next ∙ rw (← e) (hex_none (slice (i + 1) to s)))

    pub hexing_more : (d : ℕ) → Some d ≡ hex_value (get_or s i 0) → Hexing s from to (v * 16 + d) (i + 1)
    hexing_more d e = record {
      left = omega arith;
      begun = omega arith;
      sixteen = r.sixteen;
      small =
          let k : i + 1 - from ≡ i - from + 1 = omega arith in
          rw (k, add-one, pow-suc) (omega (arith, r.small, hex_small (get_or s i 0) d e));
      same = next ∙ rw (← e);
    }
