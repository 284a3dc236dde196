-- Laws of a stop that is read: its whole part, and the decimals behind a point. Assumes nothing.
use Prim.Native.Nat.{ℕ, ◌+◌, ◌*◌, ◌-◌, ◌≤◌, ◌<◌}
use native.Mathlib.Decide.{dec_le}
use native.Mathlib.Omega.{arith}
use mathlib.Core.Bool.{Bool, true, false, not, cond}
use mathlib.Core.List.{List, [], ◌∷◌}
use mathlib.Core.Logic.{◌≢◌}
use mathlib.Core.Path.{◌≡◌, refl, sym, ap, ◌∙◌}
use Rattle.std.specs.Prelude.{Option, None, Some}
use Rattle.std.specs.Bool.{then_some}
use Rattle.std.proofs.lemmas.Option.{none-some, same_Some}
use lib.Dec.{eqb, leb}
use lib.ListN.{length}
use lib.Seq.{slice, length-slice}
use Rattle.text.specs.Number.{at_most, digits_to}
use Rattle.text.specs.Read.{Part, FirstAt}
use Rattle.text.specs.Text.{point, split, joined}
use Rattle.text.proofs.Joined.{joined-split}
use Rattle.text.proofs.Parts.{split_some, split-next, split-last}
use Rattle.stop.specs.Stop.{unit_of, together, hundredths_in, stop_in}
use Rattle.stop.proofs.Back.{split-whole}
use Rattle.stop.proofs.Digits.{digits_to-plain, digits_to-small}

-- a whole part w, with the parts ps behind it
no_whole : (w : List ℕ) (ps : List (List ℕ)) → digits_to 10 w ≡ None → hundredths_in (w ∷ ps) ≡ None
no_whole w [] h = rw h
no_whole w (d ∷ []) h = rw h
no_whole w (d ∷ e ∷ ps) h = refl

-- what stands behind a point is no decimals
no_decimals : (w l : List ℕ) → digits_to 2 l ≡ None → hundredths_in (w ∷ split point l) ≡ None
unfolding joined
no_decimals w l h = go (split point l) (split_some point l) (joined-split point l)
  where
    none : (o : Option ℕ) → together o None (unit_of (length l)) ≡ None
    none None = refl
    none (Some v) = refl

    go : (ps : List (List ℕ)) → 1 ≤ length ps → joined (point ∷ []) ps ≡ l → hundredths_in (w ∷ ps) ≡ None
    go [] k e = absurd (omega arith)
    go (d ∷ []) k e = rw (e, h) (none (digits_to 10 w))
    go (d ∷ f ∷ ps) k e = refl

-- the limit
pub limited : (v hi : ℕ) → then_some (leb v hi) v ≡ at_most hi (Some v)
limited v hi = go (leb v hi)
  where
    go : (t : Bool) → then_some t v ≡ cond t (Some v) None
    go true = refl
    go false = refl

-- decimals that are read, or not
behind_none : (o : Option ℕ) (u : ℕ) → None ≡ together (Some 0) o u → o ≡ None
behind_none None u e = refl
behind_none (Some d) u e = absurd (none-some (0 * 100 + d * u) e)

behind_some : (o : Option ℕ) (u : ℕ) {h : ℕ} → Some h ≡ together (Some 0) o u → (d : ℕ) × (o ≡ Some d) × (h ≡ d * u)
behind_some None u {h} e = absurd (none-some h (sym e))
behind_some (Some d) u {h} e = (d, refl, let k = same_Some h (0 * 100 + d * u) e in omega arith)

pub behind-small : (l : List ℕ) (n : ℕ) {h : ℕ} → Some h ≡ together (Some 0) (digits_to 2 l) (unit_of n) → h < 1_000
behind-small l n e = go (eqb n 1) e
  where
    go : (t : Bool) {h : ℕ} → Some h ≡ together (Some 0) (digits_to 2 l) (cond t 10 1) → h < 1_000
    go true e = let r = behind_some (digits_to 2 l) 10 e in omega (arith, digits_to-small 2 l r.0 r.1, r.2)
    go false e = let r = behind_some (digits_to 2 l) 1 e in omega (arith, digits_to-small 2 l r.0 r.1, r.2)

module _ {s : List ℕ} {from to p : ℕ} (hi : ℕ) (part : Part s from to) (f : FirstAt s from to point p) where
  behind : p ≢ to → split point (slice from to s) ≡ slice from p s ∷ split point (slice (p + 1) to s)
  behind n = split-next part f (omega (arith, f.high))

  pub whole_none : digits_to 10 (slice from p s) ≡ None → None ≡ stop_in hi (slice from to s)
  unfolding stop_in
  whole_none h = elim (dec_le to p) [ yes e ↦ here (omega (arith, f.high)) | no n ↦ rw (behind (omega arith), no_whole (slice from p s) (split point (slice (p + 1) to s)) h) ]
    where
      here : p ≡ to → None ≡ stop_in hi (slice from to s)
      here e = rw (split-last part f e, ← e, h)

  pub decimals_none : p ≢ to → None ≡ together (Some 0) (digits_to 2 (slice (p + 1) to s)) (unit_of (to - (p + 1))) → None ≡ stop_in hi (slice from to s)
  unfolding stop_in
  decimals_none n h =
      rw (behind n, no_decimals (slice from p s) (slice (p + 1) to s) (behind_none (digits_to 2 (slice (p + 1) to s)) (unit_of (to - (p + 1))) h))

  module _ {w : ℕ} (W : Some w ≡ digits_to 10 (slice from p s)) where
    pub no_point : p ≡ to → at_most hi (Some (w * 100 + 0)) ≡ stop_in hi (slice from to s)
    unfolding stop_in
    no_point e = rw (split-last part f e, ← e, ← W)

    with_decimals : p ≢ to → (d : ℕ) → digits_to 2 (slice (p + 1) to s) ≡ Some d → at_most hi (Some (w * 100 + d * unit_of (to - (p + 1)))) ≡ stop_in hi (slice from to s)
    unfolding stop_in
    with_decimals n d D =
        let l : List ℕ = slice (p + 1) to s in
        rw (behind n, split-whole l (ap not (digits_to-plain 2 l d D)), ← W, D, length-slice (p + 1) to s part.within)

    pub one-point : p ≢ to → {h : ℕ} → Some h ≡ together (Some 0) (digits_to 2 (slice (p + 1) to s)) (unit_of (to - (p + 1)))
        → at_most hi (Some (w * 100 + h)) ≡ stop_in hi (slice from to s)
    one-point n e =
        let r = behind_some (digits_to 2 (slice (p + 1) to s)) (unit_of (to - (p + 1))) e in
        ap (λ v. at_most hi (Some (w * 100 + v))) r.2 ∙ with_decimals n r.0 r.1
