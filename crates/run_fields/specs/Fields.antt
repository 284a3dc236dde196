-- What the fields of a printed line are made of, and which yields can be printed: those that are numbers. Assumes nothing.
use Rattle.std.specs.Prelude.{ℕ, ◌+◌, ◌≤◌, not, T}
use mathlib.Core.List.{List, [], ◌∷◌, ◌++◌, flat_map}
use Rattle.std.specs.Float.Ieee.{is_nan}
use Rattle.double.specs.declared.Yield.{Yield}
use Rattle.double.specs.declared.Yield.TheVariants.{Absent, Bp}
use Rattle.text.specs.Text.{pipe}
use Rattle.text.specs.Read.{Put}

-- fields that others follow
unfoldable pub fields_text : List (List ℕ) → List ℕ
fields_text fields = flat_map (λ p. p ++ pipe ∷ []) fields

-- the text t was written, of at most n bytes
pub record ShortPut (n : ℕ) (before after : List ℕ) (at : ℕ) (t : List ℕ) (r : ℕ) : Type 0 where
  pub put : Put before after at t r
  pub short : r ≤ at + n

-- no NaN
abbrev pub YieldShown : Yield → Type 0
YieldShown Absent = Unit {0}
YieldShown (Bp x) = T (not (is_nan x))
