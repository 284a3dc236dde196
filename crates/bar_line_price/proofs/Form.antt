-- Laws of a price's form: its parts between points, and what it says by its digits. Assumes nothing.
use Prim.Native.Nat.{ℕ, ◌+◌, ◌^◌, ◌≤◌, ◌<◌}
use native.Mathlib.Decide.{dec_le}
use native.Mathlib.Omega.{arith}
use mathlib.Core.Bool.{Bool, true, false, cond, ◌&&◌, false≢true}
use mathlib.Core.List.{List, [], ◌∷◌, ◌++◌, append-nil}
use mathlib.Core.Logic.{◌≢◌, ◌⊎◌, inl, inr, ⊎_elim}
use Rattle.std.specs.Prelude.{Option, None, Some}
use mathlib.Core.Path.{◌≡◌, refl, sym, ◌∙◌, ap, ap₂}
use borrow.Author.Tests.{le-leb, lt-leb, ne_eqb}
use lib.Dec.{eqb, leb}
use lib.ListN.{length}
use lib.Seq.{slice}
use Rattle.text.specs.Answer.{Answer, Refused, Got, ◌>>=◌, given}
use Rattle.text.specs.Conditions.{every, any_of}
use Rattle.text.specs.Number.{digits_behind, natural}
use Rattle.text.specs.Read.{Part, FirstAt}
use Rattle.text.specs.Text.{point, onto, split, joined}
use Rattle.text.proofs.Answers.{refused_then}
use Rattle.text.proofs.Every.{every_cons}
use Rattle.text.proofs.Laws.{part_end}
use Rattle.text.proofs.Parts.{split_some, split-next, split-last, onto-count}
use Rattle.double.specs.Double.{whole, ◌÷◌}
use Rattle.bar_line.specs.Line.{Decimal, decimal_in, double_of, price_of}
use Rattle.bar_line_price.specs.Read.{is_number, is_digit, are_digits, priced}
use Rattle.bar_line_price.proofs.Digits.{digit_in, digits_number, natural-digits, natural-behind, natural-append}

-- ---- the parts between points

-- a text is its one part, or there are more
one_or_more : (l : List ℕ) → (split point l ≡ l ∷ []) ⊎ (2 ≤ length (split point l))
unfolding split onto
one_or_more [] = inl refl
one_or_more (x ∷ t) = go (eqb x point) (one_or_more t)
  where
    go : (e : Bool) → (split point t ≡ t ∷ []) ⊎ (2 ≤ length (split point t))
        → (cond e ([] ∷ split point t) (onto x (split point t)) ≡ (x ∷ t) ∷ []) ⊎ (2 ≤ length (cond e ([] ∷ split point t) (onto x (split point t))))
    go true r = inr (omega (arith, split_some point t))
    go false (inl h) = inl (ap (onto x) h)
    go false (inr h) = inr (omega (arith, onto-count x (split point t) (split_some point t)))

-- digits are one part
digits-one : (l : List ℕ) → every is_digit l ≡ true → split point l ≡ l ∷ []
unfolding split onto
digits-one [] e = refl
digits-one (x ∷ t) e =
    let h = every_cons is_digit x t e in
    let d = digit_in x h.0 in
    let n : x ≢ point = omega arith in
    rw (ne_eqb x point n) (ap (onto x) (digits-one t h.1))

-- ---- what is read of the parts

-- a number of k digits, of which b stand behind the point
abbrev counted : ℕ → ℕ → Option ℕ → Answer Decimal
counted k b o = given 16 o >>= λ n. Got (record { value = n; digits = k; behind = b })

by_one : (s : List ℕ) → split point s ≡ s ∷ [] → decimal_in s ≡ counted (length s) 0 (natural s)
unfolding decimal_in joined any_of natural
by_one [] h = rw h
by_one (x ∷ t) h = rw h

by_two : (s : List ℕ) (x y : ℕ) (a q : List ℕ) → split point s ≡ (x ∷ a) ∷ (y ∷ q) ∷ []
    → decimal_in s ≡ counted (length ((x ∷ a) ++ y ∷ q)) (length (y ∷ q)) (natural ((x ∷ a) ++ y ∷ q))
unfolding decimal_in joined any_of
by_two s x y a q h = rw h (ap (λ p. counted (length (p ++ y ∷ q)) (length (y ∷ q)) (natural (p ++ y ∷ q))) (append-nil (x ∷ a)))

-- ---- what departs from the form

none-counted : (k b : ℕ) (o : Option ℕ) → is_number o ≡ false → Refused 16 ≡ counted k b o
none-counted k b None e = refl
none-counted k b (Some v) e = absurd (false≢true (sym e))

-- a part that is not digits alone
bad_two : (s a q : List ℕ) → split point s ≡ a ∷ q ∷ [] → (are_digits a && are_digits q) ≡ false → Refused 16 ≡ decimal_in s
unfolding decimal_in any_of
bad_two s [] q h e = rw h
bad_two s (x ∷ a) [] h e = rw h
bad_two s (x ∷ a) (y ∷ q) h e =
    let l = (x ∷ a) ++ y ∷ q in
    none-counted (length l) (length (y ∷ q)) (natural l) (natural-append x y a q ∙ e) ∙ sym (by_two s x y a q h)

-- more than two parts
bad_more : (s a : List ℕ) (ps : List (List ℕ)) → split point s ≡ a ∷ ps → 2 ≤ length ps → Refused 16 ≡ decimal_in s
unfolding decimal_in
bad_more s a ps h l =
    let g : 2 < length (a ∷ ps) = omega arith in
    rw (h, lt-leb (length (a ∷ ps)) 2 g)

-- ---- what has the form

abbrev whole_part : List ℕ → ℕ → List ℕ
whole_part s at = slice 0 at s

abbrev fraction : List ℕ → ℕ → List ℕ
fraction s at = slice (at + 1) (length s) s

as_priced : (s l : List ℕ) (b : ℕ) → decimal_in s ≡ counted (length l) b (natural l) → are_digits l ≡ true → priced l b ≡ price_of s
unfolding price_of
as_priced s l b h e = go (digits_behind (Some 0) l) ∙ ap (λ o. counted (length l) b o >>= double_of) (sym (natural-behind l e)) ∙ ap (λ a. a >>= double_of) (sym h)
  where
    go : (o : Option ℕ) → (given 16 o >>= λ n. double_of (record { value = n; digits = length l; behind = b })) ≡ (counted (length l) b o >>= double_of)
    go None = refl
    go (Some v) = refl

priced_two : (s a q : List ℕ) → split point s ≡ a ∷ q ∷ [] → are_digits a ≡ true → are_digits q ≡ true → priced (a ++ q) (length q) ≡ price_of s
unfolding natural
priced_two s [] q h d e = absurd (false≢true d)
priced_two s (x ∷ a) [] h d e = absurd (false≢true e)
priced_two s (x ∷ a) (y ∷ q) h d e =
    as_priced s ((x ∷ a) ++ y ∷ q) (length (y ∷ q)) (by_two s x y a q h) (natural-append x y a q ∙ ap₂ ◌&&◌ d e)

-- ---- `price`

pub too_many : (k b : ℕ) → (15 < k) ⊎ ((k ≤ 15) × (6 < b)) → (leb k 15 && leb b 6) ≡ false
too_many k b (inl h) = rw (lt-leb k 15 h)
too_many k b (inr h) = rw (le-leb k 15 h.0, lt-leb b 6 h.1)

-- digits with too many of them, in all or behind the point
pub priced-long : (l : List ℕ) (b : ℕ) → every is_digit l ≡ true → (leb (length l) 15 && leb b 6) ≡ false → Refused 17 ≡ priced l b
unfolding double_of
priced-long l b d h = go (digits_behind (Some 0) l) (digits_number (Some 0) l ∙ d)
  where
    go : (o : Option ℕ) → is_number o ≡ true → Refused 17 ≡ (given 16 o >>= λ n. double_of (record { value = n; digits = length l; behind = b }))
    go None e = absurd (false≢true e)
    go (Some v) e = rw h

pub priced-is : (l : List ℕ) (b : ℕ) {v : ℕ} → length l ≤ 15 → b ≤ 6 → Some v ≡ digits_behind (Some 0) l → Got (whole v ÷ whole (10 ^ b)) ≡ priced l b
unfolding double_of
priced-is l b h g e = rw (← e, le-leb (length l) 15 h, le-leb b 6 g)

-- ---- `read_price`

module _ {s : List ℕ} {at : ℕ} (f : FirstAt s 0 (length s) point at) where
  all : Part s 0 (length s)
  all = record { order = omega arith; within = omega arith }

  one_part : at ≡ length s → split point s ≡ s ∷ []
  one_part e = rw (part_end 0 s) at (split-last all f e)

  more_parts : at ≢ length s → split point s ≡ whole_part s at ∷ split point (fraction s at)
  more_parts n = ap (split point) (sym (part_end 0 s)) ∙ split-next all f (omega (arith, f.high))

  bad_part : at ≢ length s → (are_digits (whole_part s at) && are_digits (fraction s at)) ≡ false → Refused 16 ≡ price_of s
  unfolding price_of
  bad_part n e =
      refused_then double_of
      (⊎_elim
      (λ h. bad_two s (whole_part s at) (fraction s at) (more_parts n ∙ ap (λ ps. whole_part s at ∷ ps) h) e)
      (λ h. bad_more s (whole_part s at) (split point (fraction s at)) (more_parts n) h)
      (one_or_more (fraction s at)))

  bad_one : at ≡ length s → are_digits (whole_part s at) ≡ false → Refused 16 ≡ price_of s
  unfolding price_of
  bad_one e h = refused_then double_of (none-counted (length s) 0 (natural s) (rw (e, part_end 0 s) at h) ∙ sym (by_one s (one_part e)))

  pub bad_whole : are_digits (whole_part s at) ≡ false → Refused 16 ≡ price_of s
  bad_whole h = elim (dec_le (length s) at) [ yes e ↦ bad_one (omega (arith, f.high)) h | no n ↦ bad_part (omega arith) (rw h) ]

  pub bad_behind : at ≢ length s → are_digits (fraction s at) ≡ false → Refused 16 ≡ price_of s
  bad_behind n h = bad_part n (go (are_digits (whole_part s at)) (are_digits (fraction s at)) h)
    where
      go : (a b : Bool) → b ≡ false → (a && b) ≡ false
      go true b e = e
      go false b e = refl

  module _ (d : are_digits (whole_part s at) ≡ true) where
    pub plain-is : at ≡ length s → priced (whole_part s at ++ []) 0 ≡ price_of s
    plain-is e = rw (e, part_end 0 s, append-nil) (as_priced s s 0 (by_one s (one_part e)) (rw (e, part_end 0 s) at d))

    pub pointed-is : at ≢ length s → are_digits (fraction s at) ≡ true → priced (whole_part s at ++ fraction s at) (length (fraction s at)) ≡ price_of s
    pointed-is n e =
        priced_two s (whole_part s at) (fraction s at)
        (more_parts n ∙ ap (λ ps. whole_part s at ∷ ps) (digits-one (fraction s at) (natural-digits (fraction s at) e))) d e
