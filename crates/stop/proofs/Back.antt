-- A stop's text is read back as the same hundredths. Assumes nothing.
use Prim.Native.Nat.{ℕ, ◌+◌, ◌*◌, ◌/◌, ◌%◌, ◌^◌, ◌≤◌, ◌<◌}
use native.Mathlib.Decide.{dec_le}
use native.Mathlib.Omega.{arith}
use mathlib.Core.Bool.{true, not}
use mathlib.Core.List.{List, [], ◌∷◌, ◌++◌}
use mathlib.Core.Logic.{◌≢◌}
use Rattle.std.specs.Prelude.{Some}
use mathlib.Core.Path.{◌≡◌, sym, ap, ap₂, ◌∙◌}
use borrow.Author.Tests.{le-leb}
use lib.ListN.{length}
use Rattle.text.specs.Answer.{Got, given}
use Rattle.text.specs.Number.{digits_behind, at_most, digits_to, decimal_of}
use Rattle.text.specs.Text.{point, has, split, joined}
use Rattle.text.proofs.Every.{every_one, cons_every}
use Rattle.text.proofs.Joined.{lacks, joined-more, split-joined}
use Rattle.text_write.proofs.Back.{digit-read, first_read, digit-plain, digits-to, decimal_back, decimal_lacks}
use Rattle.stop.specs.Stop.{unit_of, together, hundredths_in, stop_in, hundredths_of, stop_text}
use Rattle.stop.proofs.Writing.{text-none, text-one, text_two}

-- ---- the parts

pub split-whole : (p : List ℕ) → lacks point p ≡ true → split point p ≡ p ∷ []
unfolding joined
split-whole p h = split-joined point p [] (every_one (lacks point) p ∙ h)

split_two : (p d : List ℕ) → lacks point p ≡ true → lacks point d ≡ true → split point (p ++ point ∷ d) ≡ p ∷ d ∷ []
unfolding joined
split_two p d h k =
    ap (split point) (sym (joined-more point p d []))
    ∙ split-joined point p (d ∷ []) (cons_every (lacks point) p (d ∷ []) h (every_one (lacks point) d ∙ k))

-- ---- the hundredths

pub within_limit : (hi h v : ℕ) → h ≤ hi → v ≡ h → given 3 (at_most hi (Some v)) ≡ Got h
within_limit hi h v k e = rw (e, le-leb h hi k)

module _ (hi h : ℕ) (k : h ≤ hi) (few : h < 10 ^ 12) where
  whole-read : digits_to 10 (decimal_of (h / 100)) ≡ Some (h / 100)
  whole-read = decimal_back (h / 100) 9 (omega arith)

  none_back : h % 100 ≡ 0 → hundredths_of hi (stop_text h) ≡ Got h
  unfolding hundredths_of stop_in
  none_back e =
      ap (λ t. given 3 (at_most hi (hundredths_in (split point t)))) (text-none h e)
      ∙ ap (λ ps. given 3 (at_most hi (hundredths_in ps))) (split-whole (decimal_of (h / 100)) (decimal_lacks (h / 100)))
      ∙ ap (λ w. given 3 (at_most hi (together w (Some 0) 1))) whole-read
      ∙ within_limit hi h (h / 100 * 100 + 0 * 1) k (omega arith)

  -- decimals d, whose digits say v
  decimals_back : (d : List ℕ) (v : ℕ) → stop_text h ≡ decimal_of (h / 100) ++ point ∷ d → lacks point d ≡ true → digits_to 2 d ≡ Some v
      → h / 100 * 100 + v * unit_of (length d) ≡ h → hundredths_of hi (stop_text h) ≡ Got h
  unfolding hundredths_of stop_in
  decimals_back d v t l r e =
      ap (λ t. given 3 (at_most hi (hundredths_in (split point t)))) t
      ∙ ap (λ ps. given 3 (at_most hi (hundredths_in ps))) (split_two (decimal_of (h / 100)) d (decimal_lacks (h / 100)) l)
      ∙ ap₂ (λ w f. given 3 (at_most hi (together w f (unit_of (length d))))) whole-read r
      ∙ within_limit hi h (h / 100 * 100 + v * unit_of (length d)) k e

one_lacks : (x : ℕ) → lacks point ((48 + x) ∷ []) ≡ true
unfolding has
one_lacks x = ap not (digit-plain x [])

two_lacks : (x y : ℕ) → lacks point ((48 + x) ∷ (48 + y) ∷ []) ≡ true
unfolding has
two_lacks x y = ap not (digit-plain x ((48 + y) ∷ []) ∙ digit-plain y [])

one-read : (x : ℕ) → x < 10 → digits_to 2 ((48 + x) ∷ []) ≡ Some x
unfolding digits_behind
one-read x h = digits-to 2 x ((48 + x) ∷ []) (omega arith) (omega arith) (first_read x [] h)

two_read : (x y : ℕ) → x < 10 → y < 10 → digits_to 2 ((48 + x) ∷ (48 + y) ∷ []) ≡ Some (x * 10 + y)
unfolding digits_behind
two_read x y h k =
    digits-to 2 (x * 10 + y) ((48 + x) ∷ (48 + y) ∷ []) (omega arith) (omega arith)
    (first_read x ((48 + y) ∷ []) h ∙ digit-read x y [] k)

-- the text of a stop whose whole part has at most ten digits says the stop
pub stop_back : (hi h : ℕ) → h ≤ hi → h < 10 ^ 12 → hundredths_of hi (stop_text h) ≡ Got h
stop_back hi h k few = elim (dec_le 1 (h % 100)) [ yes a ↦ some_behind (omega arith) | no a ↦ none_back hi h k few (omega arith) ]
  where
    f : ℕ
    f = h % 100

    one : f ≢ 0 → f % 10 ≡ 0 → hundredths_of hi (stop_text h) ≡ Got h
    one n e =
        decimals_back hi h k few ((48 + f / 10) ∷ []) (f / 10) (text-one h n e) (one_lacks (f / 10)) (one-read (f / 10) (omega arith)) (omega arith)

    two : f ≢ 0 → f % 10 ≢ 0 → hundredths_of hi (stop_text h) ≡ Got h
    two n m =
        decimals_back hi h k few ((48 + f / 10) ∷ (48 + f % 10) ∷ []) (f / 10 * 10 + f % 10) (text_two h n m) (two_lacks (f / 10) (f % 10))
        (two_read (f / 10) (f % 10) (omega arith) (omega arith)) (omega arith)

    some_behind : f ≢ 0 → hundredths_of hi (stop_text h) ≡ Got h
    some_behind n = elim (dec_le 1 (f % 10)) [ yes a ↦ two n (omega arith) | no a ↦ one n (omega arith) ]
