-- Laws of operates, for the proofs. Assumes nothing.
use mathlib.Core.Path.{◌≡◌, ◌∙◌, refl, sym, ap}
use mathlib.Core.Bool.{Bool, true, false, cond, ◌&&◌, ◌||◌}
use mathlib.Core.Logic.{◌≢◌}
use mathlib.Core.List.{List, [], ◌∷◌}
use Rattle.std.specs.Prelude.{Some}
use Rattle.std.proofs.lemmas.List.{take_all, length-drop}
use Rattle.std.proofs.lemmas.Option.{slice_get_past, slice_get-get_or}
use Prim.Native.Nat.{ℕ, zero, suc, ◌+◌, ◌-◌, ◌≤◌, ◌<◌}
use native.Mathlib.Omega.{arith}
use native.Mathlib.Numerals.{add-one}
use borrow.Author.Tests.{lt-ltb, le-ltb}
use lib.Pointwise.{pointwise}
use lib.Dec.{eqb}
use lib.ListN.{length, get_or, take, drop, drop_of_length-le}
use lib.Seq.{drop-cons}
use Rattle.text.specs.Answer.{Refused, Got, given}
use Rattle.text.specs.Literal.{bytes, encoded}
use Rattle.text.specs.Text.{same}
use Rattle.text.proofs.Same.{differ}
use Rattle.operate.specs.Operate.{latin, chinese, code_from, operate_of, known, operate_name}
use Rattle.operate.specs.declared.Operate.{Operate}
use Rattle.operate.specs.declared.Operate.TheVariants.{HL, HS, HO, LO, LE, SO, SE}
use Rattle.operate.specs.Read.{code_of, Name}

-- ---- names and codes

seven_latin : length latin ≡ 7
unfolding latin
seven_latin = refl

seven_chinese : length chinese ≡ 7
unfolding chinese
seven_chinese = refl

letters_two : (o : Operate) → length (get_or latin (code_of o) []) ≡ 2
unfolding latin bytes encoded
letters_two HL = refl
letters_two HS = refl
letters_two HO = refl
letters_two LO = refl
letters_two LE = refl
letters_two SO = refl
letters_two SE = refl

name_six : (o : Operate) → length (get_or chinese (code_of o) []) ≡ 6
unfolding chinese bytes encoded
name_six HL = refl
name_six HS = refl
name_six HO = refl
name_six LO = refl
name_six LE = refl
name_six SO = refl
name_six SE = refl

-- each operate, in the order of the codes
abbrev pub all : List Operate
all = HL ∷ HS ∷ HO ∷ LO ∷ LE ∷ SO ∷ SE ∷ []

pub code_at : (i : ℕ) → i < 7 → code_of (get_or all i HL) ≡ i
code_at zero h = refl
code_at (suc zero) h = refl
code_at (suc (suc zero)) h = refl
code_at (suc (suc (suc zero))) h = refl
code_at (suc (suc (suc (suc zero)))) h = refl
code_at (suc (suc (suc (suc (suc zero))))) h = refl
code_at (suc (suc (suc (suc (suc (suc zero)))))) h = refl
code_at (suc (suc (suc (suc (suc (suc (suc i))))))) h = absurd (omega arith)

-- the name at a code that is known to be i
pub at : (names : List (List ℕ)) (n i : ℕ) {r : List ℕ} (code : ℕ) → code ≡ i → r ≡ get_or names i [] → n ≡ length r → Name (get_or names code []) n r
at names n i code e h k = record { is = rw e h; size = k }

four : (n : ℕ) → (n ≡ 0 → ⊥) → (n ≡ 1 → ⊥) → (n ≡ 2 → ⊥) → (n ≡ 3 → ⊥) → 4 ≤ n
four n a b c d = omega arith

three_more : (n : ℕ) → 4 ≤ n → (n ≡ 4 → ⊥) → (n ≡ 5 → ⊥) → (n ≡ 6 → ⊥) → 7 ≤ n
three_more n l a b c = omega arith

-- a code that is none of the seven, as the last arm of a match has it
pub past_arms : (n : ℕ)
    → (((((((Unit {0} × (n ≡ 0 → ⊥)) × (n ≡ 1 → ⊥)) × (n ≡ 2 → ⊥)) × (n ≡ 3 → ⊥)) × (n ≡ 4 → ⊥)) × (n ≡ 5 → ⊥)) × (n ≡ 6 → ⊥))
    → 7 ≤ n
past_arms n r = three_more n (four n r.0.0.0.0.0.0.1 r.0.0.0.0.0.1 r.0.0.0.0.1 r.0.0.0.1) r.0.0.1 r.0.1 r.1

pub known_is : (code : ℕ) → code < 7 → Got code ≡ known code
unfolding known
known_is code h = rw (lt-ltb code 7 h)

pub known_at : (i code : ℕ) → code ≡ i → code < 7 → Got i ≡ known code
known_at i code e h = ap Got (sym e) ∙ known_is code h

pub known-not : (code : ℕ) → 7 ≤ code → Refused 4 ≡ known code
unfolding known
known-not code h = rw (le-ltb code 7 h)

pub name-none : (code : ℕ) → 7 ≤ code → Refused 4 ≡ operate_name code
unfolding operate_name
name-none code h = rw (slice_get_past chinese code (omega (arith, seven_chinese)))

pub name-is : (code : ℕ) → code < 7 → Got (get_or chinese code []) ≡ operate_name code
unfolding operate_name
name-is code h = rw (slice_get-get_or chinese code [] (omega (arith, seven_chinese)))

-- `==` on slices is `same`
same_pointwise : (s t : List ℕ) → pointwise eqb s t ≡ same s t
unfolding same
same_pointwise [] [] = refl
same_pointwise [] (y ∷ t) = refl
same_pointwise (x ∷ s) [] = refl
same_pointwise (x ∷ s) (y ∷ t) = rw (same_pointwise s t)

-- a text compared with the array r of a name
pub compared : (s : List ℕ) {name r t : List ℕ} {n : ℕ} {b : Bool} → b ≡ pointwise eqb s t → t ≡ r → Name name n r → b ≡ same s name
compared s {name} e k h = e ∙ rw (k, h.is) (same_pointwise s name)

-- the first n elements and then the rest
parted : (n : ℕ) (s t : List ℕ) → pointwise eqb (take n s) (take n t) && pointwise eqb (drop n s) (drop n t) ≡ pointwise eqb s t
parted zero s t = refl
parted (suc n) [] [] = refl
parted (suc n) [] (y ∷ t) = refl
parted (suc n) (x ∷ s) [] = refl
parted (suc n) (x ∷ s) (y ∷ t) = go (eqb x y) (parted n s t)
  where
    go : (b : Bool) → pointwise eqb (take n s) (take n t) && pointwise eqb (drop n s) (drop n t) ≡ pointwise eqb s t
        → (b && pointwise eqb (take n s) (take n t)) && pointwise eqb (drop n s) (drop n t) ≡ b && pointwise eqb s t
    go true e = e
    go false e = refl

-- texts of six bytes are compared by halves
module _ (s t : List ℕ) {a : Bool} (e : a ≡ pointwise eqb (take 3 s) (take 3 t)) where
  pub second_half : {b : Bool} → length s ≡ 6 → 6 ≡ length t → a ≡ true → b ≡ pointwise eqb (take (length s - 3) (drop 3 s)) (take 3 (drop 3 t)) → b ≡ pointwise eqb s t
  second_half k l h f =
      let left = take_all (length s - 3) (drop 3 s) (omega (arith, k, length-drop 3 s)) in
      let right = take_all 3 (drop 3 t) (omega (arith, l, length-drop 3 t)) in
      (rw (left, right) at f) ∙ ap (λ x. x && pointwise eqb (drop 3 s) (drop 3 t)) (sym h ∙ e) ∙ parted 3 s t

  pub first_half : a ≡ false → a ≡ pointwise eqb s t
  first_half h = h ∙ ap (λ x. x && pointwise eqb (drop 3 s) (drop 3 t)) (sym h ∙ e) ∙ parted 3 s t

-- a text of another length is no name
pub no_letters : (s : List ℕ) (o : Operate) → length s ≢ 2 → false ≡ same s (get_or latin (code_of o) [])
no_letters s o n = differ s _ (λ q. n (ap length q ∙ letters_two o))

pub no_name : (s : List ℕ) (o : Operate) → length s ≢ 6 → false ≡ same s (get_or chinese (code_of o) [])
no_name s o n = differ s _ (λ q. n (ap length q ∙ name_six o))

pub either_first : {a : Bool} (b : Bool) → true ≡ a → true ≡ a || b
either_first b e = ap (λ x. x || b) e

pub either_second : {a : Bool} (b : Bool) → false ≡ a → b ≡ a || b
either_second b e = ap (λ x. x || b) e

pub either_alone : {b : Bool} (a : Bool) → false ≡ b → a ≡ a || b
either_alone true e = refl
either_alone false e = e

-- ---- the code of a spelling, one code after another

abbrev pub spelled : List ℕ → ℕ → Bool
spelled s code = same s (get_or latin code []) || same s (get_or chinese code [])

-- no code below this one has the spelling s
pub record Seeking (s : List ℕ) (code : ℕ) : Type 0 where
  pub le : code ≤ 7
  pub rest : operate_of s ≡ given 4 (code_from code s (drop code latin) (drop code chinese))

pub seeking_first : (s : List ℕ) → Seeking s 0
unfolding operate_of
seeking_first s = record { le = omega arith; rest = refl }

module _ {s : List ℕ} {code : ℕ} (k : Seeking s code) where
  module _ (h : code < 7) where
    here : operate_of s ≡ given 4 (cond (spelled s code) (Some code) (code_from (suc code) s (drop (suc code) latin) (drop (suc code) chinese)))
    unfolding code_from
    here = k.rest ∙ rw (drop-cons latin code [] (omega (arith, seven_latin)), drop-cons chinese code [] (omega (arith, seven_chinese)))

    pub seeking_hit : spelled s code ≡ true → Got code ≡ operate_of s
    seeking_hit e = sym (here ∙ rw e)

    pub seeking_more : spelled s code ≡ false → Seeking s (code + 1)
    seeking_more e = record { le = omega arith; rest = here ∙ rw (e, add-one) }

  pub seeking_none : 7 ≤ code → Refused 4 ≡ operate_of s
  unfolding code_from
  seeking_none h = sym (k.rest ∙ rw (drop_of_length-le latin {i = code} (omega (arith, seven_latin))))
