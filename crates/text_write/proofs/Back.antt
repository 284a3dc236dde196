-- A number in plain decimal is read back as the same number, and is digits alone. Assumes nothing.
use Prim.Native.Nat.{ℕ, zero, suc, ◌+◌, ◌*◌, ◌-◌, ◌/◌, ◌%◌, ◌^◌, ◌≤◌, ◌<◌}
use native.Mathlib.Decide.{dec_le}
use native.Mathlib.Omega.{arith}
use mathlib.Core.Bool.{true, not}
use mathlib.Core.List.{List, [], ◌∷◌}
use Rattle.std.specs.Prelude.{Some}
use mathlib.Core.Path.{◌≡◌, refl, ap, ◌∙◌}
use borrow.Author.Tests.{le-leb, ne_eqb}
use lib.ListN.{length}
use Rattle.text.specs.Number.{digits_behind, natural, digits_to, decimal_from, decimal_of}
use Rattle.text.specs.Text.{point, has}
use Rattle.text.proofs.Joined.{lacks}
use Rattle.text_write.proofs.Written.{decimal_more, decimal_done, length_from}

-- ---- one digit

pub digit-read : (v x : ℕ) (t : List ℕ) → x < 10 → digits_behind (Some v) ((48 + x) ∷ t) ≡ digits_behind (Some (v * 10 + x)) t
unfolding digits_behind
digit-read v x t h =
    let e : 48 + x - 48 ≡ x = omega arith in
    rw (le-leb 48 (48 + x) (omega arith), le-leb (48 + x) 57 (omega arith), e)

pub first_read : (x : ℕ) (t : List ℕ) → x < 10 → digits_behind (Some 0) ((48 + x) ∷ t) ≡ digits_behind (Some x) t
first_read x t h =
    let e : 0 * 10 + x ≡ x = omega arith in
    digit-read 0 x t h ∙ ap (λ v. digits_behind (Some v) t) e

pub digit-plain : (x : ℕ) (t : List ℕ) → has point ((48 + x) ∷ t) ≡ has point t
unfolding has
digit-plain x t = rw (ne_eqb (48 + x) 46 (omega arith))

-- ---- all of them

-- t has the digits of n in front of l, and no point among them
record Shown (n : ℕ) (l t : List ℕ) : Type 0 where
  read : digits_behind (Some 0) t ≡ digits_behind (Some n) l
  plain : has point t ≡ has point l
  longer : suc (length l) ≤ length t

shown_done : (n : ℕ) (l : List ℕ) → n < 10 → Shown n l ((48 + n) ∷ l)
shown_done n l h = record { read = first_read n l h; plain = digit-plain n l; longer = omega arith }

shown_more : (n : ℕ) (l t : List ℕ) → 10 ≤ n → Shown (n / 10) ((48 + n % 10) ∷ l) t → Shown n l t
shown_more n l t h s = record {
  read = s.read ∙ digit-read (n / 10) (n % 10) l (omega arith) ∙ ap (λ v. digits_behind (Some v) l) back;
  plain = s.plain ∙ digit-plain (n % 10) l;
  longer = omega (arith, s.longer);
}
  where
    back : n / 10 * 10 + n % 10 ≡ n
    back = omega arith

shown_from : (k n : ℕ) (l : List ℕ) → n < k → Shown n l (decimal_from k n l)
shown_from zero n l h = absurd (omega arith)
shown_from (suc k) n l h =
    elim (dec_le 10 n) [
      | yes g ↦ rw (decimal_more k n l g) (shown_more n l (decimal_from k (n / 10) ((48 + n % 10) ∷ l)) g (shown_from k (n / 10) ((48 + n % 10) ∷ l) (omega arith)))
      | no g ↦ rw (decimal_done k n l (omega arith)) (shown_done n l (omega arith))
    ]

shown : (n : ℕ) → Shown n [] (decimal_of n)
unfolding decimal_of
shown n = shown_from (suc n) n [] (omega arith)

-- ---- read back

natural_some : (l : List ℕ) → 1 ≤ length l → natural l ≡ digits_behind (Some 0) l
unfolding natural
natural_some [] h = absurd (omega arith)
natural_some (x ∷ l) h = refl

-- up to n digits
pub digits-to : (n v : ℕ) (l : List ℕ) → 1 ≤ length l → length l ≤ n → digits_behind (Some 0) l ≡ Some v → digits_to n l ≡ Some v
unfolding digits_to
digits-to n v l h k e = rw (le-leb (length l) n k) (natural_some l h ∙ e)

pub decimal_short : (n j : ℕ) → n < 10 ^ suc j → length (decimal_of n) ≤ suc j
unfolding decimal_of
decimal_short n j h = omega (arith, length_from (suc n) n [] j h)

pub decimal_back : (n j : ℕ) → n < 10 ^ suc j → digits_to (suc j) (decimal_of n) ≡ Some n
unfolding digits_behind
decimal_back n j h = digits-to (suc j) n (decimal_of n) (omega (arith, (shown n).longer)) (decimal_short n j h) (shown n).read

pub decimal_lacks : (n : ℕ) → lacks point (decimal_of n) ≡ true
unfolding has
decimal_lacks n = ap not (shown n).plain
