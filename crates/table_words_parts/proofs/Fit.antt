-- Few parts, none of them the wildcard: one part after another, and the invariant of `parts_fit`. Assumes nothing.
use mathlib.Core.Path.{◌≡◌, ◌∙◌, refl, sym}
use mathlib.Core.Logic.{◌≢◌}
use mathlib.Core.Bool.{Bool, true, false, not, cond}
use mathlib.Core.List.{List, [], ◌∷◌}
use Prim.Native.Nat.{ℕ, zero, suc, ◌+◌, ◌-◌, ◌≤◌, ◌<◌}
use native.Mathlib.Decide.{dec_lt}
use native.Mathlib.Omega.{arith}
use borrow.Author.Tests.{le-leb, lt-leb}
use lib.Dec.{leb}
use lib.ListN.{length}
use lib.Seq.{slice}
use Rattle.text.specs.Text.{split, underscore}
use Rattle.text.specs.Read.{FirstAt}
use Rattle.text.specs.Conditions.{all_of, every}
use Rattle.text.proofs.Parts.{split_some}
use Rattle.signal.specs.Read.{parts_from}
use Rattle.signal.proofs.Parts.{parts_all, parts_last, parts_next}
use Rattle.table_words.specs.Words.{is_wild}
use Rattle.table_words_parts.specs.Read.{fit}

-- no part fits where there is room for none
fit_none : (ps : List (List ℕ)) → 1 ≤ length ps → fit 0 ps ≡ false
unfolding all_of
fit_none ps h = rw (lt-leb (length ps) 0 h)

leb_suc : (m n : ℕ) → leb (suc m) (suc n) ≡ leb m n
leb_suc m n = elim (dec_lt n m) [ yes h ↦ lt-leb (suc m) (suc n) (omega arith) ∙ sym (lt-leb m n h) | no h ↦ le-leb (suc m) (suc n) (omega arith) ∙ sym (le-leb m n (omega arith)) ]

-- the first part and the others
fit-one : (left : ℕ) (p : List ℕ) (ps : List (List ℕ)) → 0 < left → fit left (p ∷ ps) ≡ cond (is_wild p) false (fit (left - 1) ps)
unfolding all_of every
fit-one zero p ps h = absurd (omega arith)
fit-one (suc n) p ps h =
    let e : suc n - 1 ≡ n = omega arith in
    rw (e, leb_suc (length ps) n) (go (is_wild p) (leb (length ps) n) (every (λ p. not (is_wild p)) ps))
  where
    go : (w l o : Bool) → all_of (l ∷ cond (not w) o false ∷ []) ≡ cond w false (all_of (l ∷ o ∷ []))
    go true true o = refl
    go true false o = refl
    go false l o = refl

-- k parts were looked at, those from `at` on are still to be, and all but k of limit may be there
pub record Parted (s : List ℕ) (limit k at : ℕ) : Type 0 where
  pub within : at ≤ length s
  pub still : fit limit (split underscore s) ≡ fit (limit - k) (parts_from s at)

pub parted_first : (s : List ℕ) (limit : ℕ) → Parted s limit 0 0
parted_first s limit =
    let e : limit - 0 ≡ limit = omega arith in
    record { within = omega arith; still = rw (parts_all s, e) }

module _ {s : List ℕ} {limit k at : ℕ} (c : Parted s limit k at) where
  pub parted_last : limit ≤ k → false ≡ fit limit (split underscore s)
  parted_last h =
      let e : limit - k ≡ 0 = omega arith in
      sym (c.still ∙ rw e (fit_none (parts_from s at) (split_some underscore (slice at (length s) s))))

  module _ {r : ℕ} (h : k < limit) (f : FirstAt s at (length s) underscore r) where
    only : r ≡ length s → fit limit (split underscore s) ≡ cond (is_wild (slice at r s)) false (fit (limit - k - 1) [])
    only e = c.still ∙ rw (parts_last c.within f e, e) (fit-one (limit - k) (slice at (length s) s) [] (omega arith))

    next : r ≢ length s → fit limit (split underscore s) ≡ cond (is_wild (slice at r s)) false (fit (limit - k - 1) (parts_from s (r + 1)))
    next n = c.still ∙ rw (parts_next c.within f n) (fit-one (limit - k) (slice at r s) (parts_from s (r + 1)) (omega arith))

    pub parted_wild : is_wild (slice at r s) ≡ true → false ≡ fit limit (split underscore s)
    parted_wild w = elim (dec_lt r (length s)) [ yes l ↦ sym (next (omega arith) ∙ rw w) | no l ↦ sym (only (omega (arith, f.high)) ∙ rw w) ]

    module _ (w : is_wild (slice at r s) ≡ false) where
      pub parted_end : r ≡ length s → true ≡ fit limit (split underscore s)
      unfolding all_of every
      parted_end e = sym (only e ∙ rw (w, le-leb 0 (limit - k - 1) (omega arith)))

      pub parted_more : r ≢ length s → Parted s limit (k + 1) (r + 1)
      parted_more n =
          let e : limit - (k + 1) ≡ limit - k - 1 = omega arith in
          record { within = omega (arith, f.high); still = next n ∙ rw (w, e) }
