-- Texts: lists of bytes, in lines ended by LF, with fields separated by `|` and parts separated by `_`. Assumes nothing.
use Rattle.std.specs.Prelude.{ℕ, Bool, true, false, cond, ◌&&◌, ◌||◌, List, [], ◌∷◌, ◌++◌, eqb}
use Rattle.text.specs.Answer.{Answer, Refused, Got, ◌>>=◌}

-- "in lines ended by LF"
abbrev pub LF : ℕ
LF = 10

-- "with fields separated by `|`"
abbrev pub pipe : ℕ
pipe = 124

-- what stands before the decimals of a number
abbrev pub point : ℕ
point = 46

-- "parts between underscores"
abbrev pub underscore : ℕ
underscore = 95

-- whether two texts are the same bytes
unfoldable pub same : List ℕ → List ℕ → Bool
same [] [] = true
same [] (y ∷ t) = false
same (x ∷ s) [] = false
same (x ∷ s) (y ∷ t) = eqb x y && same s t

-- whether b stands in the text
unfoldable pub has : ℕ → List ℕ → Bool
has b [] = false
has b (x ∷ s) = eqb x b || has b s

abbrev pub empty {ℓ} : {X : Type ℓ} → List X → Bool
empty [] = true
empty (x ∷ s) = false

-- whether the text t begins with s
unfoldable pub begins : List ℕ → List ℕ → Bool
begins [] t = true
begins (x ∷ s) [] = false
begins (x ∷ s) (y ∷ t) = eqb x y && begins s t

-- x in front of the first part
unfoldable pub onto : ℕ → List (List ℕ) → List (List ℕ)
onto x [] = (x ∷ []) ∷ []
onto x (p ∷ ps) = (x ∷ p) ∷ ps

-- the parts of a text between the separators b: one more than there are separators, and parts may be empty
unfoldable pub split : ℕ → List ℕ → List (List ℕ)
split b [] = [] ∷ []
split b (x ∷ t) = cond (eqb x b) ([] ∷ split b t) (onto x (split b t))

-- the parts, joined by s
unfoldable pub joined : List ℕ → List (List ℕ) → List ℕ
joined s [] = []
joined s (p ∷ []) = p
joined s (p ∷ q ∷ ps) = p ++ s ++ joined s (q ∷ ps)

-- Line by line, each handed over as its fields. The parts are those between LFs: the last of them stands behind the last LF, and
-- is a line without an LF where it is not empty. "A missing last LF counts at its line" (2).
unfoldable pub each_line : {X : Type 0} → (X → List (List ℕ) → Answer X) → X → List (List ℕ) → Answer X
each_line f x [] = Got x
each_line f x (p ∷ []) = cond (empty p) (Got x) (Refused 2)
each_line f x (p ∷ q ∷ ps) = f x (split pipe p) >>= λ y. each_line f y (q ∷ ps)
