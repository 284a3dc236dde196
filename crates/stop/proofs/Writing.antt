-- Laws of a stop that is written: the whole part, then nothing, one decimal or two. Assumes nothing.
use Prim.Native.Nat.{ℕ, ◌+◌, ◌*◌, ◌/◌, ◌%◌}
use native.Mathlib.Omega.{arith}
use mathlib.Core.List.{List, [], ◌∷◌, ◌++◌, append-nil}
use mathlib.Core.Logic.{◌≢◌}
use mathlib.Core.Path.{◌≡◌, ◌∙◌, ap}
use borrow.Author.Tests.{eq-eqb, ne_eqb}
use Rattle.text.specs.Number.{decimal_of}
use Rattle.text.specs.Text.{point}
use Rattle.text.specs.Read.{Put}
use Rattle.text.proofs.Put.{put-put}
use Rattle.stop.specs.Stop.{decimals_text, stop_text}

-- ---- the decimals

pub decimals_none : (f : ℕ) → f ≡ 0 → decimals_text f ≡ []
unfolding decimals_text
decimals_none f e = rw (eq-eqb f 0 e)

pub decimals_one : (f : ℕ) → f ≢ 0 → f % 10 ≡ 0 → decimals_text f ≡ point ∷ (48 + f / 10) ∷ []
unfolding decimals_text
decimals_one f n e = rw (ne_eqb f 0 n, eq-eqb (f % 10) 0 e)

pub decimals_two : (f : ℕ) → f ≢ 0 → f % 10 ≢ 0 → decimals_text f ≡ point ∷ (48 + f / 10) ∷ (48 + f % 10) ∷ []
unfolding decimals_text
decimals_two f n m = rw (ne_eqb f 0 n, ne_eqb (f % 10) 0 m)

-- ---- `stop_text`

pub text-none : (h : ℕ) → h % 100 ≡ 0 → stop_text h ≡ decimal_of (h / 100)
unfolding stop_text
text-none h e = ap (λ l. decimal_of (h / 100) ++ l) (decimals_none (h % 100) e) ∙ append-nil (decimal_of (h / 100))

pub text-one : (h : ℕ) → h % 100 ≢ 0 → h % 100 % 10 ≡ 0 → stop_text h ≡ decimal_of (h / 100) ++ point ∷ (48 + h % 100 / 10) ∷ []
unfolding stop_text
text-one h n e = ap (λ l. decimal_of (h / 100) ++ l) (decimals_one (h % 100) n e)

pub text_two : (h : ℕ) → h % 100 ≢ 0 → h % 100 % 10 ≢ 0 → stop_text h ≡ decimal_of (h / 100) ++ point ∷ (48 + h % 100 / 10) ∷ (48 + h % 100 % 10) ∷ []
unfolding stop_text
text_two h n m = ap (λ l. decimal_of (h / 100) ++ l) (decimals_two (h % 100) n m)

-- a whole stop is shown as it was
pub text-whole : (w : ℕ) → stop_text (100 * w) ≡ decimal_of w
text-whole w =
    let e : 100 * w / 100 ≡ w = omega arith in
    text-none (100 * w) (omega arith) ∙ ap decimal_of e

-- ---- `put_stop`

module _ (h : ℕ) {l m : List ℕ} {at p : ℕ} (w : Put l m at (decimal_of (h / 100)) p) where
  pub put_none_behind : h % 100 ≡ 0 → Put l m at (stop_text h) p
  put_none_behind e = rw (text-none h e) w

  module _ (n : h % 100 ≢ 0) {k o : List ℕ} {q r : ℕ} (a : Put m k p (point ∷ []) q) (b : Put k o q ((48 + h % 100 / 10) ∷ []) r) where
    pub put_one_behind : h % 100 % 10 ≡ 0 → Put l o at (stop_text h) r
    put_one_behind e = rw (text-one h n e) (put-put w (put-put a b))

    pub put_two_behind : h % 100 % 10 ≢ 0 → {u : List ℕ} {t : ℕ} → Put o u r ((48 + h % 100 % 10) ∷ []) t → Put l u at (stop_text h) t
    put_two_behind e c = rw (text_two h n e) (put-put w (put-put a (put-put b c)))
