-- Laws of `part`, `patch`, `le_bytes` and `le_nat`, for every width. Assumes nothing.
use Prim.Native.Nat.{ℕ, zero, suc, ◌+◌, ◌-◌, ◌*◌, ◌/◌, ◌%◌, ◌^◌, ◌≤◌, ◌<◌}
use native.Mathlib.Nat.{pow-suc, div-div-eq-div-mul, add-sub_of_le, div-lt_iff_lt-mul}
use native.Mathlib.Numerals.{add-one, add-two, add-three}
use native.Mathlib.Omega.{arith}
use mathlib.Core.Path.{◌≡◌, refl, sym, ap, ap₂, ◌∙◌, subst}
use mathlib.Core.List.{List, [], ◌∷◌, ◌++◌, append_assoc, append-nil}
use lib.ListN.{length, take, drop, set, get_or, length-append, length-drop, take-append-drop, drop_of_length-le}
use lib.Seq.{drop-cons, sets-eq, drop_at, drop-append-add, drop-drop, drop-append-le, take-append-le, take-append_seam, take_at, take_all, length-take-le}
use Rattle.std.specs.Int.{byte_at, bytes_low_first}
use Rattle.le.specs.Le.{part, patch, le_bytes, le_nat}

-- ---- a number by its bytes

pub length-le_bytes : (n v : ℕ) → length (le_bytes n v) ≡ n
unfolding le_bytes
length-le_bytes zero v = refl
length-le_bytes (suc n) v = ap suc (length-le_bytes n (v / 256))

pub le_nat-le_bytes : (n v : ℕ) → v < 256 ^ n → le_nat (le_bytes n v) ≡ v
unfolding le_bytes le_nat
le_nat-le_bytes zero v h = omega arith
le_nat-le_bytes (suc n) v h =
    let z : 0 < 256 = omega arith in
    let k : v / 256 < 256 ^ n = (div-lt_iff_lt-mul z).1 (subst (λ (x : ℕ). v < x) (pow-suc 256 n) h) in
    let e : le_nat (le_bytes n (v / 256)) ≡ v / 256 = le_nat-le_bytes n (v / 256) k in
    omega arith

-- the bytes that std writes
bytes_from : (i k v : ℕ) → bytes_low_first i k v ≡ le_bytes k (v / 256 ^ i)
unfolding le_bytes
bytes_from i zero v = refl
bytes_from i (suc k) v = ap₂ ◌∷◌ (byte i) (bytes_from (suc i) k v ∙ ap (le_bytes k) (sym (div-div-eq-div-mul v (256 ^ i) 256 ∙ rw pow-suc)))
  where
    byte : (i : ℕ) → byte_at i v ≡ v / 256 ^ i % 256
    byte zero = omega arith
    byte (suc i) = refl

pub bytes-are : (k v : ℕ) → bytes_low_first 0 k v ≡ le_bytes k v
bytes-are k v =
    let e : v / 256 ^ 0 ≡ v = omega arith in
    bytes_from 0 k v ∙ ap (le_bytes k) e

-- ---- reading byte by byte

-- the number of the n bytes of l from at + i on
abbrev pub from_byte : List ℕ → ℕ → ℕ → ℕ → ℕ
from_byte l at i zero = 0
from_byte l at i (suc n) = get_or l (at + i) 0 + 256 * from_byte l at (suc i) n

read_from : (l : List ℕ) (at i n : ℕ) → at + i + n ≤ length l → le_nat (part l (at + i) n) ≡ from_byte l at i n
unfolding part le_nat
read_from l at i zero h = refl
read_from l at i (suc n) h =
    let k : at + i < length l = omega arith in
    let e : at + suc i ≡ suc (at + i) = omega arith in
    let rest : le_nat (take n (drop (suc (at + i)) l)) ≡ from_byte l at (suc i) n = rw e at (read_from l at (suc i) n (omega arith)) in
    rw (drop-cons l (at + i) 0, le_nat, rest)

-- the first byte and the rest
pub read-bytes : (l : List ℕ) (at n : ℕ) → at + suc n ≤ length l → le_nat (part l at (suc n)) ≡ get_or l at 0 + 256 * from_byte l at 1 n
read-bytes l at n h =
    let e : at + 0 ≡ at = omega arith in
    rw e at (read_from l at 0 (suc n) (omega arith))

pub two : (l : List ℕ) (at : ℕ) → at + 2 ≤ length l → get_or l at 0 + 256 * get_or l (at + 1) 0 ≡ le_nat (part l at 2)
two l at h = omega (arith, read-bytes l at 1 h)

pub four : (l : List ℕ) (at : ℕ) → at + 4 ≤ length l
    → get_or l at 0 + 256 * (get_or l (at + 1) 0 + 256 * (get_or l (at + 2) 0 + 256 * get_or l (at + 3) 0)) ≡ le_nat (part l at 4)
four l at h = omega (arith, read-bytes l at 3 h)

-- ---- writing two and four

pub put_two : (l : List ℕ) (at a b : ℕ) → at + 2 ≤ length l → set (set l at a) (at + 1) b ≡ patch l at (a ∷ b ∷ [])
unfolding patch
put_two l at a b h = rw add-one (sets-eq (a ∷ b ∷ []) l at h)

pub put_four : (l : List ℕ) (at a b c d : ℕ) → at + 4 ≤ length l
    → set (set (set (set l at a) (at + 1) b) (at + 2) c) (at + 3) d ≡ patch l at (a ∷ b ∷ c ∷ d ∷ [])
unfolding patch
put_four l at a b c d h = rw (add-one, add-two, add-three) (sets-eq (a ∷ b ∷ c ∷ d ∷ []) l at h)

-- a copy to the part that is lent from `at` on is a patch of the whole
pub copied : (l q bs : List ℕ) (at n : ℕ) → q ≡ bs → length bs ≡ n → take at l ++ (q ++ drop (at + n - at) (drop at l)) ≡ patch l at bs
unfolding patch
copied l q bs at n e f =
    let k : at + n - at ≡ length bs = omega (arith, f) in
    rw (e, k, drop-drop (length bs) at l) (sym (append_assoc (take at l) bs (drop (at + length bs) l)))

-- ---- a part after a patch

module _ (l : List ℕ) (at : ℕ) (bs : List ℕ) (fits : at + length bs ≤ length l) where
  head-length : length (take at l) ≡ at
  head-length = length-take-le at l (omega arith)

  front_length : length (take at l ++ bs) ≡ at + length bs
  front_length = rw (length-append, head-length)

  pub length-patch : length (patch l at bs) ≡ length l
  unfolding patch
  length-patch = rw (length-append, front_length, length-drop) (omega arith)

  pub part_same : part (patch l at bs) at (length bs) ≡ bs
  unfolding part patch
  part_same = rw (append_assoc, drop_at (take at l) (bs ++ drop (at + length bs) l) at head-length, take-append_seam)

  pub part-after : (a n : ℕ) → at + length bs ≤ a → part (patch l at bs) a n ≡ part l a n
  unfolding part patch
  part-after a n h = ap (take n) (ap (λ (k : ℕ). drop k (take at l ++ bs ++ drop (at + length bs) l)) k_is ∙ drop-append-add (take at l ++ bs) (drop (at + length bs) l) (a - (at + length bs)) ∙ drop-drop (a - (at + length bs)) (at + length bs) l ∙ ap (λ (k : ℕ). drop k l) (add-sub_of_le h))
    where
      k_is : a ≡ length (take at l ++ bs) + (a - (at + length bs))
      k_is = rw front_length (omega arith)

  pub part-before : (a n : ℕ) → a + n ≤ at → part (patch l at bs) a n ≡ part l a n
  unfolding part patch
  part-before a n h = rw append_assoc (front (take at l) (bs ++ drop (at + length bs) l) k ∙ sym (front (take at l) (drop at l) k) ∙ ap (λ (x : List ℕ). take n (drop a x)) (take-append-drop at l))
    where
      k : a + n ≤ length (take at l)
      k = rw head-length h

      front : (xs ys : List ℕ) → a + n ≤ length xs → take n (drop a (xs ++ ys)) ≡ take n (drop a xs)
      front xs ys q =
          let q1 : a ≤ length xs = omega arith in
          let q2 : n ≤ length (drop a xs) = rw length-drop (omega arith) in
          rw (drop-append-le, take-append-le)

-- ---- two patches, one after the other, are one

module _ (l : List ℕ) (at : ℕ) (xs ys : List ℕ) (h : at + length xs + length ys ≤ length l) where
  front : length (take at l ++ xs) ≡ at + length xs
  front = front_length l at xs (omega arith)

  tail_is : drop (at + length xs + length ys) (take at l ++ xs ++ drop (at + length xs) l) ≡ drop (at + length (xs ++ ys)) l
  tail_is =
      ap (λ (k : ℕ). drop (k + length ys) (take at l ++ xs ++ drop (at + length xs) l)) (sym front)
      ∙ drop-append-add (take at l ++ xs) (drop (at + length xs) l) (length ys)
      ∙ drop-drop (length ys) (at + length xs) l
      ∙ ap (λ (k : ℕ). drop k l) e
    where
      e : at + length xs + length ys ≡ at + length (xs ++ ys)
      e = rw length-append (omega arith)

  pub patch-patch : patch (patch l at xs) (at + length xs) ys ≡ patch l at (xs ++ ys)
  unfolding patch
  patch-patch = rw (tail_is, take_at (take at l ++ xs) (drop (at + length xs) l) (at + length xs) front, append_assoc (take at l) xs ys)

-- ---- what is read after a write is what was written

pub number_back : (l : List ℕ) (at n v : ℕ) → at + n ≤ length l → v < 256 ^ n → le_nat (part (patch l at (le_bytes n v)) at n) ≡ v
number_back l at n v h k =
    subst (λ (m : ℕ). le_nat (part (patch l at (le_bytes n v)) at m) ≡ v) (length-le_bytes n v)
    (ap le_nat (part_same l at (le_bytes n v) (omega (arith, length-le_bytes n v))) ∙ le_nat-le_bytes n v k)

-- ---- a whole list

pub patch-all : (l bs : List ℕ) → length bs ≡ length l → patch l 0 bs ≡ bs
unfolding patch
patch-all l bs e = ap (λ (r : List ℕ). bs ++ r) (drop_of_length-le l {i = 0 + length bs} (omega arith)) ∙ append-nil bs

pub part-all : (l : List ℕ) (n : ℕ) → length l ≡ n → part l 0 n ≡ l
unfolding part
part-all l n e = take_all n l (omega arith)

-- n bytes from `at` on, as they are lent
pub part_lent : (l : List ℕ) (at n : ℕ) → take (at + n - at) (drop at l) ≡ part l at n
unfolding part
part_lent l at n =
    let k : at + n - at ≡ n = omega arith in
    rw k
