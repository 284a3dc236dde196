-- Laws of numbers that are written, and the invariants of `put_decimal` and `put_hex`. Assumes nothing.
use mathlib.Core.Path.{◌≡◌, ◌∙◌, refl, sym, ap}
use mathlib.Core.List.{List, [], ◌∷◌}
use Prim.Native.Nat.{ℕ, zero, suc, ◌+◌, ◌-◌, ◌*◌, ◌/◌, ◌%◌, ◌^◌, ◌≤◌, ◌<◌}
use native.Mathlib.Decide.{dec_le}
use native.Mathlib.Nat.{pow-suc, div-div-eq-div-mul}
use native.Mathlib.Omega.{arith}
use borrow.Author.Tests.{lt-ltb, le-ltb}
use lib.ListN.{length, take, set, length-set}
use lib.Seq.{slice, get_or-set_same, take-set-lt, drop-set-lt}
use Rattle.le.specs.Le.{patch}
use Rattle.text.specs.Number.{decimal_from, decimal_of, hex_digit, hex_of}
use Rattle.text.specs.Read.{Put}
use Rattle.text.proofs.Laws.{part_cons, part_nil}
use Rattle.text.proofs.Put.{patch-none, patch_front, put-patch}

-- ---- in decimal

pub decimal_more : (k n : ℕ) (l : List ℕ) → 10 ≤ n → decimal_from (suc k) n l ≡ decimal_from k (n / 10) ((48 + n % 10) ∷ l)
unfolding decimal_from
decimal_more k n l h = rw (le-ltb n 10 h)

pub decimal_done : (k n : ℕ) (l : List ℕ) → n < 10 → decimal_from (suc k) n l ≡ (48 + n) ∷ l
unfolding decimal_from
decimal_done k n l h = rw (lt-ltb n 10 h)

-- a digit less is left
fewer : (n j : ℕ) → n < 10 ^ suc j → n / 10 < 10 ^ j
fewer n j h =
    let e : 10 ^ suc j ≡ 10 ^ j * 10 = pow-suc 10 j in
    omega arith

-- two digits or more
two : (n j : ℕ) → n < 10 ^ suc j → 10 ≤ n → 1 ≤ j
two n zero h k = absurd (omega arith)
two n (suc j) h k = omega arith

pub length_from : (k n : ℕ) (l : List ℕ) (j : ℕ) → n < 10 ^ suc j → length (decimal_from k n l) ≤ suc j + length l
unfolding decimal_from
length_from zero n l j h = omega arith
length_from (suc k) n l j h =
    elim (dec_le 10 n) [ yes g ↦ more j h g (length_from k (n / 10) ((48 + n % 10) ∷ l)) | no g ↦ rw (decimal_done k n l (omega arith)) (omega arith) ]
  where
    more : (j : ℕ) → n < 10 ^ suc j → 10 ≤ n → ((i : ℕ) → n / 10 < 10 ^ suc i → length (decimal_from k (n / 10) ((48 + n % 10) ∷ l)) ≤ suc i + suc (length l))
        → length (decimal_from (suc k) n l) ≤ suc j + length l
    more zero h g ih = absurd (omega arith)
    more (suc j) h g ih = rw (decimal_more k n l g) (omega (arith, ih j (fewer n (suc j) h)))

pub length_decimal : (v : ℕ) → v < 2 ^ 64 → length (decimal_of v) ≤ 20
unfolding decimal_of
length_decimal v h = length_from (suc v) v [] 19 (omega arith)

-- a store in front of a part
slice_set : (p t x : ℕ) (l : List ℕ) → p < t → t ≤ length l → slice p t (set l p x) ≡ x ∷ slice (p + 1) t l
slice_set p t x l h k =
    part_cons p t (set l p x) h (omega (arith, length-set l p x))
    ∙ rw (get_or-set_same l p x 0 (omega arith), take-set-lt t l p x h, drop-set-lt (p + 1) (take t l) p x (omega arith))

-- the low digits of v stand behind p, and those of w are still to write
pub record Filled (v : ℕ) (digits : List ℕ) (p w : ℕ) : Type 0 where
  pub room : p < 20
  pub size : length digits ≡ 20
  pub small : w < 10 ^ suc p
  pub fuel : ℕ
  pub enough : w ≤ fuel
  pub same : decimal_of v ≡ decimal_from (suc fuel) w (slice (p + 1) 20 digits)

pub filled_first : (v : ℕ) (digits : List ℕ) → v < 2 ^ 64 → length digits ≡ 20 → Filled v digits 19 v
unfolding decimal_of
filled_first v digits h e = record {
  room = omega arith;
  size = e;
  small = omega arith;
  fuel = v;
  enough = omega arith;
  same = rw (part_nil 20 20 digits (omega arith));
}

module _ {v : ℕ} {digits : List ℕ} {p w : ℕ} (f : Filled v digits p w) where
  pub filled_room : 10 ≤ w → 1 ≤ p
  filled_room h = two w p f.small h

  stored : (x : ℕ) → slice p 20 (set digits p x) ≡ x ∷ slice (p + 1) 20 digits
  stored x = slice_set p 20 x digits f.room (omega arith)

  pub filled_more : 10 ≤ w → Filled v (set digits p (48 + w % 10)) (p - 1) (w / 10)
  filled_more h =
      let n : 1 ≤ p = filled_room h in
      let e : suc (p - 1) ≡ p = omega arith in
      let g : p - 1 + 1 ≡ p = omega arith in
      let k : f.fuel ≡ suc (f.fuel - 1) = omega arith in
      record {
        room = omega arith;
        size = length-set digits p (48 + w % 10) ∙ f.size;
        small = rw e (fewer w p f.small);
        fuel = f.fuel - 1;
        enough = omega arith;
        same =
            f.same ∙ decimal_more f.fuel w (slice (p + 1) 20 digits) h
            ∙ ap (λ (j : ℕ). decimal_from j (w / 10) ((48 + w % 10) ∷ slice (p + 1) 20 digits)) k
            ∙ ap (decimal_from (suc (f.fuel - 1)) (w / 10)) (sym (rw g (stored (48 + w % 10))));
      }

  pub filled_last : w < 10 → slice p 20 (set digits p (48 + w)) ≡ decimal_of v
  filled_last h = stored (48 + w) ∙ sym (f.same ∙ decimal_done f.fuel w (slice (p + 1) 20 digits) h)

-- ---- in hexadecimal

pub length_hex : (k v : ℕ) → length (hex_of k v) ≡ k
unfolding hex_of
length_hex zero v = refl
length_hex (suc k) v = ap suc (length_hex k v)

hex_cons : (k v d : ℕ) → d ≡ hex_digit (v / 16 ^ k % 16) → d ∷ hex_of k v ≡ hex_of (suc k) v
unfolding hex_of
hex_cons k v d e = rw e

-- the low digits of v stand from at + k on, and those of w are still to write
pub record Hexed (l : List ℕ) (at v : ℕ) (dst : List ℕ) (k w : ℕ) : Type 0 where
  pub le : k ≤ 16
  pub room : at + 16 ≤ length l
  pub kept : length dst ≡ length l
  pub now : dst ≡ patch l (at + k) (hex_of (16 - k) v)
  pub rest : w ≡ v / 16 ^ (16 - k)

pub hexed_first : (l : List ℕ) (at v : ℕ) → at + 16 ≤ length l → Hexed l at v l 16 v
unfolding hex_of
hexed_first l at v h = record { le = omega arith; room = h; kept = refl; now = patch-none l (at + 16); rest = omega arith }

module _ {l : List ℕ} {at v : ℕ} {dst : List ℕ} {k w : ℕ} (x : Hexed l at v dst k w) where
  pub hexed_more : (d : ℕ) → d ≡ hex_digit (w % 16) → 0 < k → Hexed l at v (set dst (at + (k - 1)) d) (k - 1) (w / 16)
  hexed_more d e h = record {
    le = omega arith;
    room = x.room;
    kept = length-set dst (at + (k - 1)) d ∙ x.kept;
    now =
        ap (λ (z : List ℕ). set z (at + (k - 1)) d) (x.now ∙ ap (λ (a : ℕ). patch l a (hex_of (16 - k) v)) place)
        ∙ patch_front l (at + (k - 1)) d (hex_of (16 - k) v) (omega arith)
        ∙ ap (patch l (at + (k - 1))) digits;
    rest = ap (λ (n : ℕ). n / 16) x.rest ∙ div-div-eq-div-mul v (16 ^ (16 - k)) 16 ∙ rw (turn, pow-suc);
  }
    where
      turn : 16 - (k - 1) ≡ suc (16 - k)
      turn = omega arith

      place : at + k ≡ suc (at + (k - 1))
      place = omega arith

      digits : d ∷ hex_of (16 - k) v ≡ hex_of (16 - (k - 1)) v
      digits = rw turn (hex_cons (16 - k) v d (rw (e, x.rest)))

  pub hexed_last : k ≤ 0 → Put l dst at (hex_of 16 v) (at + 16)
  hexed_last h =
      let e : k ≡ 0 = omega arith in
      let a : at + 0 ≡ at = omega arith in
      rw (length_hex 16 v) at (put-patch (rw (e, a) at x.now) (omega (arith, length_hex 16 v)))
