-- Writing into bytes that are filled from their start, with zeros after: what is written next stands behind what was. Assumes nothing.
use Prim.Native.Nat.{ℕ, ◌+◌, ◌-◌, ◌≤◌}
use native.Mathlib.Omega.{arith}
use mathlib.Core.List.{List, [], ◌++◌, append_assoc}
use mathlib.Core.Path.{◌≡◌, refl, sym, ap, ◌∙◌, subst}
use lib.ListN.{length, replicate, length-append, length-replicate, replicate-append-replicate}
use Rattle.le.specs.Le.{patch, le_bytes}
use Rattle.le.proofs.Laws.{length-le_bytes}
use Rattle.le.proofs.Places.{patch_mid}
use Rattle.text.specs.Read.{Put}
use Rattle.text.proofs.Put.{put-patch}
use Rattle.table.specs.Layout.{table_length, Parts}
use Rattle.table_layout.specs.Build.{used_bytes, table_of}

-- n of k zeros in front
zeros : (n k : ℕ) → n ≤ k → replicate {A = ℕ} k 0 ≡ replicate n 0 ++ replicate (k - n) 0
zeros n k h =
    let e : n + (k - n) ≡ k = omega arith in
    sym (replicate-append-replicate {A = ℕ} n (k - n) 0 ∙ rw e)

module _ (done : List ℕ) (k : ℕ) {before after : List ℕ} {at : ℕ} (e : before ≡ done ++ replicate k 0) (here : at ≡ length done) where
  pub patch-on : (x : List ℕ) → length x ≤ k → after ≡ patch before at x → after ≡ done ++ x ++ replicate (k - length x) 0
  patch-on x h w =
      let n = length x in
      w ∙ rw (e, zeros n k h, ← append_assoc done (replicate n 0) (replicate (k - n) 0))
      (patch_mid done (replicate n 0) x (replicate (k - n) 0) at (sym here) (length-replicate {A = ℕ} n 0))

  -- a text
  pub put_on : {x : List ℕ} {r : ℕ} → Put before after at x r → after ≡ done ++ x ++ replicate (k - length x) 0
  put_on {x} w = patch-on x (omega (arith, ap (λ (l : List ℕ). length l) e, length-append done (replicate k 0), length-replicate {A = ℕ} k 0)) w.written

-- a number in n bytes is put as a text is
pub put-number : (n v : ℕ) {before after : List ℕ} {at : ℕ} → after ≡ patch before at (le_bytes n v) → at + n ≤ length before
    → Put before after at (le_bytes n v) (at + n)
put-number n v {before} {after} {at} w h =
    subst (λ (m : ℕ). Put before after at (le_bytes n v) (at + m)) (length-le_bytes n v) (put-patch w (omega (arith, length-le_bytes n v)))

-- all that is used, put into zeros: the table
pub put_table : (p : Parts) {before after : List ℕ} {r : ℕ} → before ≡ replicate table_length 0 → Put before after 0 (used_bytes p) r → after ≡ table_of p
unfolding table_of
put_table p e w = put_on [] table_length e refl w
