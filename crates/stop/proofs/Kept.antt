-- What stays: a field without a point says the whole stop that it said. And how long a stop's text is. Assumes nothing.
use Prim.Native.Nat.{ℕ, ◌+◌, ◌*◌, ◌/◌, ◌%◌, ◌≤◌}
use native.Mathlib.Omega.{arith}
use mathlib.Core.Bool.{Bool, true, false, not, cond}
use mathlib.Core.List.{List, [], ◌∷◌, ◌++◌}
use Rattle.std.specs.Prelude.{Option, None, Some}
use mathlib.Core.Path.{◌≡◌, refl, ap, ◌∙◌}
use borrow.Author.Tests.{leb-true}
use lib.Dec.{leb, eqb}
use lib.ListN.{length, length-append}
use Rattle.text.specs.Answer.{Got, given}
use Rattle.text.specs.Number.{at_most, digits_to, unsigned, decimal_of}
use Rattle.text.specs.Text.{point, split}
use Rattle.stop.specs.Stop.{together, hundredths_in, stop_in, hundredths_of, decimals_text, stop_text}
use Rattle.stop.proofs.Digits.{digits_to-plain}
use Rattle.stop.proofs.Back.{split-whole, within_limit}

-- ---- a field that was a number before

-- "Whole stops give the books they gave.": the field that said w says 100 * w hundredths
pub field_whole : (hi : ℕ) (s : List ℕ) (w : ℕ) → unsigned hi s ≡ Got w → hundredths_of (100 * hi) s ≡ Got (100 * w)
unfolding unsigned hundredths_of stop_in
field_whole hi s w e = go (digits_to 10 s) refl e
  where
    within : (v : ℕ) (t : Bool) → leb v hi ≡ t → given 3 (cond t (Some v) None) ≡ Got w → (v ≡ w) × (v ≤ hi)
    within v true h k = (cc, leb-true v hi h)
    within v false h k = absurd (let z : ◌≡◌ {A = ℕ} 0 1 = cc in omega arith)

    go : (o : Option ℕ) → digits_to 10 s ≡ o → given 3 (at_most hi o) ≡ Got w → given 3 (at_most (100 * hi) (hundredths_in (split point s))) ≡ Got (100 * w)
    go None h k = absurd (let z : ◌≡◌ {A = ℕ} 0 1 = cc in omega arith)
    go (Some v) h k =
        let r = within v (leb v hi) refl k in
        ap (λ ps. given 3 (at_most (100 * hi) (hundredths_in ps))) (split-whole s (ap not (digits_to-plain 10 s v h)))
        ∙ ap (λ o. given 3 (at_most (100 * hi) (together o (Some 0) 1))) h
        ∙ within_limit (100 * hi) (100 * w) (v * 100 + 0 * 1) (omega (arith, r.0, r.1)) (omega (arith, r.0))

-- ---- lengths

-- at most a point and two digits stand behind the whole part
pub text-length : (h : ℕ) → length (stop_text h) ≤ length (decimal_of (h / 100)) + 3
unfolding stop_text decimals_text
text-length h = go (eqb (h % 100) 0) (eqb (h % 100 % 10) 0)
  where
    go : (a b : Bool) → length (decimal_of (h / 100) ++ cond a [] (point ∷ (48 + h % 100 / 10) ∷ cond b [] ((48 + h % 100 % 10) ∷ []))) ≤ length (decimal_of (h / 100)) + 3
    go true b = rw length-append (omega arith)
    go false true = rw length-append (omega arith)
    go false false = rw length-append (omega arith)
