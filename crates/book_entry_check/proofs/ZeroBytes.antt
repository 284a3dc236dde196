-- Bytes each of which is zero are the same as zeros. Assumes nothing.
use Rattle.std.specs.Prelude.{IsTrue, EachIndex, ◌↔◌}
use Prim.Native.Nat.{ℕ, ◌+◌, ◌-◌, ◌≤◌, ◌<◌}
use native.Mathlib.Omega.{arith}
use mathlib.Core.Bool.{Bool, true, false}
use mathlib.Core.List.{List}
use mathlib.Core.Path.{◌≡◌, refl, sym, ap, ◌∙◌}
use lib.ListN.{length, get_or, take, drop, replicate, length-replicate, length-drop}
use lib.Seq.{length-take-le}
use Rattle.std.proofs.lemmas.List.{get_or-replicate, ext_get_or}
use Rattle.le.specs.Le.{part}
use Rattle.text.specs.Text.{same}
use Rattle.text.proofs.Same.{same_refl, same_eq}
use Rattle.book.specs.Check.{zeros}

-- r says of each byte of s that it is zero
each_zero : (r : Bool) (s : List ℕ) (n : ℕ) → length s ≡ n → (IsTrue r ↔ EachIndex s (λ k. get_or s k 0 ≡ 0)) → r ≡ same s (replicate n 0)
each_zero r s n e h = go r (same s (replicate n 0)) h refl
  where
    zero_at : (i : ℕ) → i < n → get_or {A = ℕ} (replicate n 0) i 0 ≡ 0
    zero_at i l = get_or-replicate n i 0 0 l

    go : (r t : Bool) → (IsTrue r ↔ EachIndex s (λ k. get_or s k 0 ≡ 0)) → same s (replicate n 0) ≡ t → r ≡ t
    go true true h k = refl
    go false false h k = refl
    go true false h k =
        let z : s ≡ replicate n 0 = ext_get_or 0 s (replicate n 0) (e ∙ sym (length-replicate n 0)) (λ i l. h.0 refl i l ∙ sym (zero_at i (omega arith))) in
        sym (same_refl s) ∙ ap (same s) z ∙ k
    go false true h k =
        let z : s ≡ replicate n 0 = same_eq s (replicate n 0) k in
        h.1 (λ i l. ap (λ (t : List ℕ). get_or t i 0) z ∙ zero_at i (omega arith))

pub are_zeros : (r : Bool) (b : List ℕ) (at n : ℕ) → at + n ≤ length b
    → (IsTrue r ↔ EachIndex (take (at + n - at) (drop at b)) (λ k. get_or (take (at + n - at) (drop at b)) k 0 ≡ 0))
    → r ≡ zeros b at n
unfolding part
are_zeros r b at n l h =
    let size : at + n - at ≡ n = omega arith in
    each_zero r (take n (drop at b)) n (length-take-le n (drop at b) (omega (arith, length-drop at b))) (rw size at h)
