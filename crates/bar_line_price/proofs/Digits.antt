-- Laws of digits, and the invariant of `digits_behind`. Assumes nothing.
use Prim.Native.Nat.{ℕ, zero, suc, ◌+◌, ◌*◌, ◌-◌, ◌^◌, ◌≤◌, ◌<◌}
use native.Mathlib.Nat.{pow-suc, pow-le-pow_right, mul_assoc, mul-le-mul_left, mul-le-mul_right, le_trans}
use native.Mathlib.Numerals.{add-one}
use native.Mathlib.Omega.{arith}
use mathlib.Core.Bool.{Bool, true, false, cond, ◌&&◌, false≢true}
use mathlib.Core.List.{List, [], ◌∷◌, ◌++◌}
use mathlib.Core.Path.{◌≡◌, refl, sym, ◌∙◌, ap}
use Rattle.std.specs.Prelude.{Option, None, Some, EachIndex, IsTrue, ◌↔◌}
use borrow.Author.Tests.{leb-true, le-leb}
use lib.Dec.{leb}
use lib.ListN.{length, get_or, take}
use lib.Pow.{pow-add}
use lib.Seq.{take-suc, take-length}
use Rattle.text.specs.Conditions.{every}
use Rattle.text.specs.Number.{digit, digits_behind, natural}
use Rattle.text.proofs.Every.{every_cons, cons_every}
use Rattle.bar_line_price.specs.Read.{is_number, is_digit, are_digits, Continued}

-- ---- digits and nothing else

pub digit_in : (x : ℕ) → is_digit x ≡ true → (48 ≤ x) × (x ≤ 57)
digit_in x e = go (leb 48 x) refl e
  where
    go : (t : Bool) → leb 48 x ≡ t → (t && leb x 57) ≡ true → (48 ≤ x) × (x ≤ 57)
    go true h k = (leb-true 48 x h, leb-true x 57 k)
    go false h k = absurd (false≢true k)

pub digits_number : (o : Option ℕ) (l : List ℕ) → is_number (digits_behind o l) ≡ (is_number o && every is_digit l)
unfolding digits_behind every
digits_number None [] = refl
digits_number (Some v) [] = refl
digits_number None (x ∷ t) = digits_number None t
digits_number (Some v) (x ∷ t) = digits_number (digit x (Some v)) t ∙ go (is_digit x)
  where
    go : (d : Bool) → (is_number (cond d (Some (v * 10 + (x - 48))) None) && every is_digit t) ≡ cond d (every is_digit t) false
    go true = refl
    go false = refl

pub natural-digits : (l : List ℕ) → are_digits l ≡ true → every is_digit l ≡ true
unfolding natural every
natural-digits [] e = refl
natural-digits (x ∷ t) e = sym (digits_number (Some 0) (x ∷ t)) ∙ e

pub natural-behind : (l : List ℕ) → are_digits l ≡ true → natural l ≡ digits_behind (Some 0) l
unfolding natural
natural-behind [] e = absurd (false≢true e)
natural-behind (x ∷ t) e = refl

-- digits behind others
pub digits_append : (o : Option ℕ) (a b : List ℕ) → digits_behind o (a ++ b) ≡ digits_behind (digits_behind o a) b
unfolding digits_behind
digits_append o [] b = refl
digits_append o (x ∷ a) b = digits_append (digit x o) a b

pub natural-append : (x y : ℕ) (a b : List ℕ) → are_digits ((x ∷ a) ++ y ∷ b) ≡ (are_digits (x ∷ a) && are_digits (y ∷ b))
unfolding natural
natural-append x y a b =
    ap is_number (digits_append (Some 0) (x ∷ a) (y ∷ b)) ∙ digits_number (digits_behind (Some 0) (x ∷ a)) (y ∷ b)
    ∙ ap (λ t. is_number (digits_behind (Some 0) (x ∷ a)) && t) (sym (digits_number (Some 0) (y ∷ b)))

pub every_both : (a b : List ℕ) → every is_digit a ≡ true → every is_digit b ≡ true → every is_digit (a ++ b) ≡ true
every_both [] b h k = k
every_both (x ∷ a) b h k = let r = every_cons is_digit x a h in cons_every is_digit x (a ++ b) r.0 (every_both a b r.1 k)

-- ---- `are_digits`

each_every : (s : List ℕ) → EachIndex s (λ k. (48 ≤ get_or s k 0) × (get_or s k 0 ≤ 57)) → every is_digit s ≡ true
unfolding every
each_every [] h = refl
each_every (x ∷ t) h =
    let x-in = h 0 (omega arith) in
    cons_every is_digit x t (rw (le-leb 48 x x-in.0, le-leb x 57 x-in.1)) (each_every t (λ k l. h (suc k) (omega arith)))

pub every-each : (s : List ℕ) → every is_digit s ≡ true → EachIndex s (λ k. (48 ≤ get_or s k 0) × (get_or s k 0 ≤ 57))
every-each [] e k l = absurd (omega arith)
every-each (x ∷ t) e zero l = digit_in x (every_cons is_digit x t e).0
every-each (x ∷ t) e (suc k) l = every-each t (every_cons is_digit x t e).1 k (omega arith)

pub no_digits : (s : List ℕ) → length s ≤ 0 → false ≡ are_digits s
unfolding natural
no_digits [] h = refl
no_digits (x ∷ t) h = absurd (omega arith)

-- some bytes, each a digit or not
pub digits_each : (s : List ℕ) (r : Bool) → 0 < length s → (IsTrue r ↔ EachIndex s (λ k. (48 ≤ get_or s k 0) × (get_or s k 0 ≤ 57))) → r ≡ are_digits s
unfolding natural
digits_each [] r h e = absurd (omega arith)
digits_each (x ∷ t) r h e = go r (every is_digit (x ∷ t)) refl e ∙ sym (digits_number (Some 0) (x ∷ t))
  where
    go : (r d : Bool) → every is_digit (x ∷ t) ≡ d → (IsTrue r ↔ EachIndex (x ∷ t) (λ k. (48 ≤ get_or (x ∷ t) k 0) × (get_or (x ∷ t) k 0 ≤ 57))) → r ≡ every is_digit (x ∷ t)
    go true d k e = sym (each_every (x ∷ t) (e.0 refl))
    go false true k e = absurd (false≢true (e.1 (every-each (x ∷ t) k)))
    go false false k e = sym k

-- ---- `digits_behind`

-- k digits behind a number of j
pub behind-few : (v j k : ℕ) → v < 10 ^ j → j + k ≤ 15 → (v + 1) * 10 ^ k ≤ 10 ^ 15
behind-few v j k h l =
    let g : v + 1 ≤ 10 ^ j = omega arith in
    le_trans (mul-le-mul_right (10 ^ k) g) (rw pow-add at (pow-le-pow_right {n = 10} (omega arith) {i = j + k} {j = 15} l))

-- the first i digits of s behind v make w
pub record Continuing (s : List ℕ) (v w i : ℕ) : Type 0 where
  pub value : Some w ≡ digits_behind (Some v) (take i s)
  pub few : w < (v + 1) * 10 ^ i

pub continuing_first : (s : List ℕ) (v : ℕ) → Continuing s v v 0
unfolding digits_behind
continuing_first s v = record { value = refl; few = omega arith }

module _ {s : List ℕ} {v w i : ℕ} (c : Continuing s v w i) where
  pub continuing_most : (v + 1) * 10 ^ length s ≤ 10 ^ 15 → i ≤ length s → w < 10 ^ 15
  continuing_most m h = omega (arith, c.few, mul-le-mul_left (v + 1) (pow-le-pow_right {n = 10} (omega arith) {i = i} {j = length s} h))

  pub continuing_more : every is_digit s ≡ true → i < length s → Continuing s v (w * 10 + (get_or s i 0 - 48)) (i + 1)
  unfolding digits_behind
  continuing_more d h =
      let x : ℕ = get_or s i 0 in
      let x-in = every-each s d i h in
      let up : w * 10 + (x - 48) < (w + 1) * 10 = omega arith in
      let all : (w + 1) * 10 ≤ (v + 1) * 10 ^ i * 10 = mul-le-mul_right 10 (omega (arith, c.few)) in
      let taken : take (i + 1) s ≡ take i s ++ (x ∷ []) = rw add-one (take-suc s i 0 h) in
      let place : 10 ^ (i + 1) ≡ 10 ^ i * 10 = rw add-one (pow-suc 10 i) in
      let next : Some (w * 10 + (x - 48)) ≡ digits_behind (Some w) (x ∷ []) = rw (le-leb 48 x x-in.0, le-leb x 57 x-in.1) in
      record {
        value = next ∙ ap (λ o. digits_behind o (x ∷ [])) c.value ∙ sym (digits_append (Some v) (take i s) (x ∷ [])) ∙ ap (digits_behind (Some v)) (sym taken);
        few = rw (place, ← mul_assoc) (omega (arith, up, all));
      }

pub continuing_last : {s : List ℕ} {v w : ℕ} → Continuing s v w (length s) → Continued s v w
continuing_last {s} {v} c = record { value = c.value ∙ ap (digits_behind (Some v)) (take-length s); few = c.few }
