-- An integer as a difference of two natural numbers, `D a b` is a - b: equations and bounds of integers become ones that `omega` proves.
-- Assumes nothing.
use Prim.Native.Nat.{ℕ, zero, suc, ◌+◌, ◌-◌, ◌*◌, ◌≤◌, ◌<◌}
use native.Mathlib.Nat.{mul-sub, mul_comm, mul-le-mul_right, le_of_lt}
use native.Mathlib.Omega.{arith}
use mathlib.Core.Path.{◌≡◌, refl, sym, ap, ap₂, ◌∙◌}
use mathlib.Core.Bool.{Bool, true, false}
use lib.IntN.{ℤ, pos, negsuc, neg_ℤ, nat_abs, sub_ℕ, ◌+ℤ◌, ◌-ℤ◌, ◌*ℤ◌}
use lib.Dec.{ltb}
use lib.Signed.{mag}
use borrow.Author.Tests.{ltb-true, ltb-false, lt-ltb, le-ltb}

abbrev pub D : ℕ → ℕ → ℤ
D a b = sub_ℕ a b

-- which way a difference goes
way : (a b : ℕ) (C : Type 0) → (b ≤ a → C) → (a < b → C) → C
way a b C f g = go (ltb a b) refl
  where
    go : (t : Bool) → ltb a b ≡ t → C
    go true e = g (ltb-true a b e)
    go false e = f (ltb-false a b e)

pub D-pos : (a b : ℕ) → b ≤ a → D a b ≡ pos (a - b)
D-pos a b h = rw (le-ltb a b h)

pub same : (a b c d : ℕ) → a + d ≡ c + b → D a b ≡ D c d
same a b c d e =
    way a b (D a b ≡ D c d)
    (λ h. rw (le-ltb a b h, le-ltb c d (omega arith)) (ap pos (omega arith)))
    (λ h. rw (lt-ltb a b h, lt-ltb c d (omega arith)) (ap negsuc (omega arith)))

pub of_pos : (n : ℕ) → pos n ≡ D n 0
of_pos n = rw (le-ltb n 0 (omega arith)) (ap pos (omega arith))

of_negsuc : (n : ℕ) → negsuc n ≡ D 0 (suc n)
of_negsuc n = rw (lt-ltb 0 (suc n) (omega arith)) (ap negsuc (omega arith))

pub of_neg : (n : ℕ) → neg_ℤ (pos n) ≡ D 0 n
of_neg zero = refl
of_neg (suc n) = of_negsuc n

-- the two parts of an integer
abbrev pub up : ℤ → ℕ
up (pos n) = n
up (negsuc n) = 0

abbrev pub down : ℤ → ℕ
down (pos n) = 0
down (negsuc n) = suc n

pub parts : (z : ℤ) → z ≡ D (up z) (down z)
parts (pos n) = of_pos n
parts (negsuc n) = of_negsuc n

pub neg : (a b : ℕ) → neg_ℤ (D a b) ≡ D b a
neg a b =
    way a b (neg_ℤ (D a b) ≡ D b a)
    (λ h. rw (le-ltb a b h) (of_neg (a - b) ∙ same 0 (a - b) b a (omega arith)))
    (λ h. rw (lt-ltb a b h) (of_pos (suc (b - suc a)) ∙ same (suc (b - suc a)) 0 b a (omega arith)))

pub add : (a b c d : ℕ) → D a b +ℤ D c d ≡ D (a + c) (b + d)
add a b c d =
    way a b (D a b +ℤ D c d ≡ D (a + c) (b + d))
    (λ h. way c d (D a b +ℤ D c d ≡ D (a + c) (b + d))
    (λ k. rw (le-ltb a b h, le-ltb c d k) (of_pos (a - b + (c - d)) ∙ same (a - b + (c - d)) 0 (a + c) (b + d) (omega arith)))
    (λ k. rw (le-ltb a b h, lt-ltb c d k) (same (a - b) (suc (d - suc c)) (a + c) (b + d) (omega arith))))
    (λ h. way c d (D a b +ℤ D c d ≡ D (a + c) (b + d))
    (λ k. rw (lt-ltb a b h, le-ltb c d k) (same (c - d) (suc (b - suc a)) (a + c) (b + d) (omega arith)))
    (λ k. rw (lt-ltb a b h, lt-ltb c d k) (of_negsuc (suc (b - suc a + (d - suc c))) ∙ same 0 (suc (suc (b - suc a + (d - suc c)))) (a + c) (b + d) (omega arith))))

pub sub : (a b c d : ℕ) → D a b -ℤ D c d ≡ D (a + d) (b + c)
sub a b c d = ap (λ (z : ℤ). D a b +ℤ z) (neg c d) ∙ add a b d c

pub mul : (a b k : ℕ) → D a b *ℤ pos k ≡ D (a * k) (b * k)
mul a b k =
    way a b (D a b *ℤ pos k ≡ D (a * k) (b * k))
    (λ h. rw (le-ltb a b h) (ap pos (times a b) ∙ sym (D-pos (a * k) (b * k) (mul-le-mul_right k h))))
    (λ h. rw (lt-ltb a b h) (ap (λ (n : ℕ). neg_ℤ (pos (n * k))) (turned a b h) ∙ ap (λ (n : ℕ). neg_ℤ (pos n)) (times b a) ∙ ap neg_ℤ (sym (D-pos (b * k) (a * k) (mul-le-mul_right k (le_of_lt h)))) ∙ neg (b * k) (a * k)))
  where
    times : (a b : ℕ) → (a - b) * k ≡ a * k - b * k
    times a b = mul_comm (a - b) k ∙ mul-sub k a b ∙ ap₂ ◌-◌ (mul_comm k a) (mul_comm k b)

    turned : (a b : ℕ) → a < b → suc (b - suc a) ≡ b - a
    turned a b h = omega arith

-- t times the distance of a and b
pub within : (t a b r : ℕ) → t * a ≤ t * b + r → t * b ≤ t * a + r → t * nat_abs (D a b) ≤ r
within t a b r p q =
    way a b (t * nat_abs (D a b) ≤ r)
    (λ h. rw (le-ltb a b h, mul-sub t a b) (omega arith))
    (λ h. let e : suc (b - suc a) ≡ b - a = omega arith in rw (lt-ltb a b h, e, mul-sub t b a) (omega arith))

pub bound : (a b h : ℕ) → a < b + h → b ≤ a + h → mag (D a b) < h
bound a b h p q = way a b (mag (D a b) < h) (λ k. rw (le-ltb a b k) (omega arith)) (λ k. rw (lt-ltb a b k) (omega arith))
