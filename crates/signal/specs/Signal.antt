-- Signals: seven parts between underscores, k1 k2 k3 v1 v2 v3 score. Assumes nothing.
use Rattle.std.specs.Prelude.{ℕ, cond, List, [], ◌∷◌, leb, eqb, ℤ, pos, negsuc, length, get_or, Option, None, Some}
use Rattle.text.specs.Answer.{Answer, Got, ◌>>=◌, must, given}
use Rattle.text.specs.Literal.{bytes}
use Rattle.text.specs.Text.{same, split, joined, underscore}
use Rattle.text.specs.Number.{i32_of}
use Rattle.utf8.specs.Alone.{alone}

-- "The wildcard is the six bytes of 任意."
unfoldable pub wildcard : List ℕ
wildcard = bytes "任意"

-- what a signal says: its key, three values (the wildcard among them) and its score
pub record Signal : Type 0 where
  pub key : List ℕ
  pub v1 : List ℕ
  pub v2 : List ℕ
  pub v3 : List ℕ
  pub score : ℕ

unfoldable pub without_wild : List (List ℕ) → List (List ℕ)
without_wild [] = []
without_wild (p ∷ ps) = cond (same p wildcard) (without_wild ps) (p ∷ without_wild ps)

-- "The key is k1, k2, k3 without wildcards, joined by `_`; all three wild gives the empty key."
unfoldable pub key_of : List ℕ → List ℕ → List ℕ → List ℕ
key_of k1 k2 k3 = joined (underscore ∷ []) (without_wild (k1 ∷ k2 ∷ k3 ∷ []))

-- "A sheet's score may be 0 to 1,000"
abbrev pub score_limit : ℕ
score_limit = 1_000

-- "6 is given outside that"
abbrev pub score : Option ℤ → Option ℕ
score None = None
score (Some (pos n)) = cond (leb n score_limit) (Some n) None
score (Some (negsuc n)) = None

-- "Signal (`Signal::from_str`): exactly 7 parts between underscores" (5), the last a score (6)
unfoldable pub signal_of : List ℕ → Answer Signal
signal_of s = do
  let ps = split underscore s
  _ ← must 5 (eqb (length ps) 7)
  n ← given 6 (score (i32_of (get_or ps 6 [])))
  Got (record { key = key_of (get_or ps 0 []) (get_or ps 1 []) (get_or ps 2 []); v1 = get_or ps 3 []; v2 = get_or ps 4 []; v3 = get_or ps 5 []; score = n })

-- "A signal or operate alone: 7, 1, 2 (`|` or LF), then 5 and 6, or 4."
unfoldable pub signal_alone : List ℕ → Answer Signal
signal_alone s = do
  _ ← alone s
  signal_of s
