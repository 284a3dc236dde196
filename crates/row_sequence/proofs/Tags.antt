-- Whether a text starts with a spelling and `#`, and the tag that it gains. Assumes nothing.
use Prim.Native.Nat.{ℕ, ◌<◌, ◌≤◌}
use native.Mathlib.Omega.{arith}
use mathlib.Core.Path.{◌≡◌, ◌∙◌, refl, sym}
use mathlib.Core.Logic.{◌≢◌}
use mathlib.Core.Bool.{Bool, true, false, cond, ◌&&◌, and-true, and-false, and_assoc}
use mathlib.Core.List.{List, [], ◌∷◌, ◌++◌}
use borrow.Author.Tests.{eq-eqb, ne_eqb}
use lib.Dec.{eqb}
use lib.ListN.{length, get_or, take}
use lib.Seq.{slice, take-length}
use Rattle.text.specs.Literal.{bytes, encoded}
use Rattle.text.specs.Text.{same, begins}
use Rattle.operate.specs.Operate.{LO, LE, SO, SE}
use Rattle.position.specs.Rows.{tagged, event_tag}

-- ---- `starts_with`

-- a text that is no longer than the spelling
begins-not : (s d : List ℕ) (x : ℕ) → length d ≤ length s → begins (s ++ x ∷ []) d ≡ false
unfolding begins
begins-not [] [] x h = refl
begins-not [] (y ∷ d) x h = absurd (omega arith)
begins-not (a ∷ s) [] x h = refl
begins-not (a ∷ s) (y ∷ d) x h = rw (begins-not s d x (omega arith)) (and-false (eqb a y))

-- a longer one
begins-is : (s d : List ℕ) (x : ℕ) → length s < length d → begins (s ++ x ∷ []) d ≡ (same s (take (length s) d) && eqb x (get_or d (length s) 0))
unfolding begins same
begins-is s [] x h = absurd (omega arith)
begins-is [] (y ∷ d) x h = and-true (eqb x y)
begins-is (a ∷ s) (y ∷ d) x h = rw (begins-is s d x (omega arith)) (sym (and_assoc (eqb a y) (same s (take (length s) d)) (eqb x (get_or d (length s) 0))))

module _ (s d : List ℕ) where
  pub starts-short : length d ≤ length s → false ≡ begins (s ++ bytes "#") d
  unfolding bytes encoded
  starts-short h = sym (begins-not s d 35 h)

  module _ (h : length s < length d) where
    pub starts_other : get_or d (length s) 0 ≢ 35 → false ≡ begins (s ++ bytes "#") d
    unfolding bytes encoded
    starts_other n = sym (begins-is s d 35 h ∙ rw (ne_eqb 35 (get_or d (length s) 0) (λ e. n (sym e))) (and-false (same s (take (length s) d))))

    pub starts-same : get_or d (length s) 0 ≡ 35 → same (slice 0 (length s) s) (slice 0 (length s) d) ≡ begins (s ++ bytes "#") d
    unfolding bytes encoded
    starts-same e =
        rw (take-length s)
        (sym (begins-is s d 35 h ∙ rw (eq-eqb 35 (get_or d (length s) 0) (sym e)) (and-true (same s (take (length s) d)))))

-- ---- the tag

-- no tag is longer than `is_match`
pub tag_length : (d : List ℕ) → length (event_tag d) ≤ 8
unfolding event_tag bytes encoded
tag_length d = go (tagged LO d) (tagged SO d) (tagged LE d) (tagged SE d)
  where
    go : (a b c e : Bool) → length (cond a (bytes "LO") (cond b (bytes "SO") (cond c (bytes "LE") (cond e (bytes "SE") (bytes "is_match"))))) ≤ 8
    go true b c e = omega arith
    go false true c e = omega arith
    go false false true e = omega arith
    go false false false true = omega arith
    go false false false false = omega arith
