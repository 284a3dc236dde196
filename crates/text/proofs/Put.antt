-- Laws of `Put`: texts written one behind another, and a part that is copied. Assumes nothing.
use mathlib.Core.Path.{◌≡◌, ◌∙◌, refl, ap, ap₂}
use mathlib.Core.List.{List, [], ◌∷◌, ◌++◌, append_assoc}
use Prim.Native.Nat.{ℕ, suc, ◌+◌, ◌-◌, ◌≤◌, ◌<◌}
use native.Mathlib.Omega.{arith}
use lib.ListN.{length, take, drop, set, get_or, length-append}
use lib.Seq.{slice, length-slice, length-take-le, take-length, sets-eq, paste-zero, take-suc, set_at}
use Rattle.le.specs.Le.{patch}
use Rattle.le.proofs.Laws.{length-patch, patch-patch, copied}
use Rattle.text.specs.Read.{Part, Put}
use Rattle.text.proofs.Laws.{part-size}

-- ---- `patch`

pub patch-none : (l : List ℕ) (at : ℕ) → l ≡ patch l at []
unfolding patch
patch-none l at = paste-zero l at []

-- one more in front of what was written
pub patch_front : (l : List ℕ) (at x : ℕ) (xs : List ℕ) → at < length l → set (patch l (suc at) xs) at x ≡ patch l at (x ∷ xs)
unfolding patch
patch_front l at x xs h =
    let e : suc at + length xs ≡ at + suc (length xs) = omega arith in
    rw (take-suc l at 0 h, e) (simp append_assoc (set_at (take at l) (get_or l at 0) (xs ++ drop (at + suc (length xs)) l) x at (length-take-le at l (omega arith))))

-- ---- writing

pub put-patch : {l m t : List ℕ} {at : ℕ} → m ≡ patch l at t → at + length t ≤ length l → Put l m at t (at + length t)
put-patch {l} {m} {t} {at} e h = record { written = e; end = refl; fit = h; kept = ap length e ∙ length-patch l at t h }

pub put-none : (l : List ℕ) (at : ℕ) → at ≤ length l → Put l l at [] at
put-none l at h =
    let e : at + 0 ≡ at = omega arith in
    rw e at (put-patch (patch-none l at) (omega arith))

pub put_byte : (l : List ℕ) (at x : ℕ) → at < length l → Put l (set l at x) at (x ∷ []) (at + 1)
unfolding patch
put_byte l at x h = put-patch (sets-eq (x ∷ []) l at (omega arith)) (omega arith)

-- one text behind another
pub put-put : {l m n t u : List ℕ} {at r q : ℕ} → Put l m at t r → Put m n r u q → Put l n at (t ++ u) q
put-put {l} {m} {n} {t} {u} {at} a b = record {
  written = b.written ∙ ap₂ (λ (x : List ℕ) (k : ℕ). patch x k u) a.written a.end ∙ patch-patch l at t u (omega arith);
  end = rw length-append (omega arith);
  fit = omega arith;
  kept = b.kept ∙ a.kept;
}

-- ---- `put_part`

-- src in from..to is copied to the part of d that starts at `at` and has its length: q stands there then
pub put_copy : {src : List ℕ} {from to : ℕ} → Part src from to → (d q : List ℕ) (at : ℕ) → at + (to - from) ≤ length d
    → q ≡ take (to - from) (drop from src)
    → Put d (take at d ++ (q ++ drop (at + (to - from) - at) (drop at d))) at (slice from to src) (at + (to - from))
put_copy {src} {from} {to} p d q at h e = rw size at (put-patch written (omega (arith, size)))
  where
    size : length (slice from to src) ≡ to - from
    size = length-slice from to src p.within

    written : take at d ++ (q ++ drop (at + (to - from) - at) (drop at d)) ≡ patch d at (slice from to src)
    written = copied d q (slice from to src) at (to - from) (e ∙ part-size from to src p.order) size

-- the whole of a text
pub put_whole : (x : List ℕ) {l m : List ℕ} {at r : ℕ} → Put l m at (slice 0 (length x) x) r → Put l m at x r
put_whole x p = rw (take-length x) at p
