-- Laws of the steps that look for the end of a field: the invariants of `plain_block`, `near_end` and `field_end`. Assumes nothing.
use mathlib.Core.Path.{◌≡◌, refl}
use mathlib.Core.Logic.{◌≢◌}
use mathlib.Core.List.{List}
use Prim.Native.Nat.{ℕ, min, ◌+◌, ◌≤◌, ◌<◌}
use native.Mathlib.Decide.{dec_lt}
use native.Mathlib.Omega.{arith}
use lib.ListN.{length, get_or}
use Rattle.text.specs.Text.{LF, pipe}
use Rattle.event_line.specs.Fields.{Placed, mark, plain, FieldEnd}

-- ---- the end of a field

-- no byte is looked at
pub end-start : (s : List ℕ) (i : ℕ) → FieldEnd s i i i
end-start s i = record { low = omega arith; high = omega arith; lines = λ j a b. absurd (omega arith); fields = λ j a b. absurd (omega arith); last = λ h. absurd (omega arith) }

module _ {s : List ℕ} {from i : ℕ} (f : FieldEnd s from i i) where
  -- what follows a part without an end of a field
  pub end_on : {to r : ℕ} → FieldEnd s i to r → FieldEnd s from to r
  end_on {to} {r} g = record {
    low = omega (arith, f.low, g.low);
    high = g.high;
    lines = λ j a b. elim (dec_lt j i) [ yes l ↦ f.lines j a l | no l ↦ g.lines j (omega arith) b ];
    fields = λ j a b. elim (dec_lt j i) [ yes l ↦ f.fields j a l | no l ↦ g.fields j (omega arith) b ];
    last = g.last;
  }

  -- one byte more that ends none
  pub end_more : get_or s i 0 ≢ LF → get_or s i 0 ≢ pipe → FieldEnd s from (i + 1) (i + 1)
  end_more a b = end_on (record {
    low = omega arith;
    high = omega arith;
    lines = λ j l h. at (λ (x : ℕ). x ≢ LF) j a (omega arith);
    fields = λ j l h. at (λ (x : ℕ). x ≢ pipe) j b (omega arith);
    last = λ h. absurd (omega arith);
  })
    where
      at : (P : ℕ → Type 0) (j : ℕ) → P (get_or s i 0) → j ≡ i → P (get_or s j 0)
      at P j p e = rw e p

  -- one byte more that ends a field
  pub end-here : {to : ℕ} → i < to → (get_or s i 0 ≢ LF → get_or s i 0 ≡ pipe) → FieldEnd s from to i
  end-here {to} h m = record { low = f.low; high = omega arith; lines = f.lines; fields = f.fields; last = λ _. m }

-- an end of a field within a part is that within a longer one
pub end_wide : {s : List ℕ} {from to r wide : ℕ} → FieldEnd s from to r → r < to → to ≤ wide → FieldEnd s from wide r
end_wide f h w = record { low = f.low; high = omega arith; lines = f.lines; fields = f.fields; last = λ _. f.last h }

-- ---- `near_end` and `field_end`

-- no byte before i ends a field
pub record Passing (s : List ℕ) (from i : ℕ) : Type 0 where
  pub ends : FieldEnd s from i i
  pub within : i ≤ length s

pub passing_start : (s : List ℕ) (from : ℕ) → from ≤ length s → Passing s from from
passing_start s from h = record { ends = end-start s from; within = h }

pub passing_end : {s : List ℕ} {from i : ℕ} → Passing s from i → length s ≤ i → FieldEnd s from (length s) (length s)
passing_end {s} {from} {i} p h =
    let e : i ≡ length s = omega (arith, p.within) in
    rw e at p.ends

module _ {s : List ℕ} {from i k : ℕ} (p : Passing s from i) (f : FieldEnd s i (i + 64) (i + k)) (w : i + 64 ≤ length s) where
  pub passing_found : k < 64 → FieldEnd s from (length s) (i + k)
  passing_found h = end_wide (end_on p.ends f) (omega arith) w

  pub passing_block : 64 ≤ k → Passing s from (i + 64)
  passing_block h =
      let e : k ≡ 64 = omega (arith, f.high) in
      record { ends = end_on p.ends (rw e at f); within = w }

-- ---- `plain_block`

-- k bytes from i on are looked at, and the first of them that ends a field stands at i + first
pub data Looking (s : List ℕ) (i first k : ℕ) : Type 0 where
  nothing : first ≡ 64 → FieldEnd s i (i + k) (i + k) → Looking s i first k
  found : first < k → FieldEnd s i (i + k) (i + first) → Looking s i first k

looking_start : (s : List ℕ) (i : ℕ) → Looking s i 64 0
looking_start s i =
    let e : i + 0 ≡ i = omega arith in
    nothing refl (rw e (end-start s i))

module _ {s : List ℕ} {i first k : ℕ} where
  looking_more : Looking s i first k → k < 64 → {x r : ℕ} → Placed (get_or s (i + k) 0) k x → r ≡ min first x → Looking s i r (k + 1)
  looking_more (nothing e f) h {x} {r} (mark g m) l =
      let n : r ≡ k = omega arith in
      rw n (found (omega arith) (end-here f (omega arith) m))
  looking_more (nothing e f) h {x} {r} (plain g a b) l =
      let n : r ≡ 64 = omega arith in
      let j : i + (k + 1) ≡ i + k + 1 = omega arith in
      nothing n (rw j (end_more f a b))
  looking_more (found e f) h {x} {r} p l =
      let n : r ≡ first = omega (arith, beyond p) in
      rw n (found (omega arith) (end_wide f (omega arith) (omega arith)))
    where
      beyond : Placed (get_or s (i + k) 0) k x → first ≤ x
      beyond (mark g m) = omega arith
      beyond (plain g a b) = omega arith

  looking_end : Looking s i first k → k ≡ 64 → FieldEnd s i (i + 64) (i + first)
  looking_end (nothing e f) n = rw (e, ← n) f
  looking_end (found e f) n = rw n at f

-- the loop's way
pub record Looked (s : List ℕ) (i first k : ℕ) : Type 0 where
  pub few : k ≤ 64
  pub most : first ≤ 64
  pub looking : Looking s i first k

pub looked_start : (s : List ℕ) (i : ℕ) → Looked s i 64 0
looked_start s i = record { few = omega arith; most = omega arith; looking = looking_start s i }

module _ {s : List ℕ} {i first k : ℕ} (l : Looked s i first k) where
  pub looked_more : k < 64 → {x r : ℕ} → Placed (get_or s (i + k) 0) k x → r ≡ min first x → Looked s i r (k + 1)
  looked_more h p m = record { few = omega arith; most = omega (arith, l.most); looking = looking_more l.looking h p m }

  pub looked_end : 64 ≤ k → FieldEnd s i (i + 64) (i + first)
  looked_end h = looking_end l.looking (omega (arith, l.few))
