-- Laws of lines with other fingerprints: the invariants of `has_print` and `skip_lines`. Assumes nothing.
use mathlib.Core.Path.{◌≡◌, ◌∙◌, refl, sym}
use mathlib.Core.Bool.{Bool, true, false, false≢true}
use borrow.Author.Tests.{eq-eqb}
use lib.Dec.{eqb}
use mathlib.Core.Logic.{◌≢◌}
use mathlib.Core.List.{List}
use Prim.Native.Nat.{ℕ, ◌+◌, ◌%◌, ◌≤◌, ◌<◌}
use native.Mathlib.Decide.{dec_lt}
use native.Mathlib.Omega.{arith}
use lib.ListN.{get_or}
use Rattle.std.specs.Int.{from_bool}
use Rattle.event_find.specs.Steps.{Others}

-- ---- `has_print`

pub others_none : (prints : List ℕ) (h i : ℕ) → Others prints h i i
others_none prints h i = record { other = λ j a b. absurd (omega arith) }

-- two parts
pub others_on : {prints : List ℕ} {h i k m : ℕ} → Others prints h i k → Others prints h k m → Others prints h i m
others_on {k = k} o p = record { other = λ j a b. elim (dec_lt j k) [ yes l ↦ o.other j a l | no l ↦ p.other j (omega arith) b ] }

-- one line more
others_more : {prints : List ℕ} {h i k : ℕ} → Others prints h i k → get_or prints k 0 ≢ h → Others prints h i (k + 1)
others_more {prints} {h} {i} {k} o n = others_on o (record { other = λ j a b. last j (omega arith) })
  where
    last : (j : ℕ) → j ≡ k → get_or prints j 0 ≢ h
    last j e = rw e n

-- k lines from i on are counted, and count of them have the fingerprint h
pub record Counting (prints : List ℕ) (h i count k : ℕ) : Type 0 where
  pub few : k ≤ 64
  pub most : count ≤ k
  pub others : count ≡ 0 → Others prints h i (i + k)

pub counting_start : (prints : List ℕ) (h i : ℕ) → Counting prints h i 0 0
counting_start prints h i =
    let e : i + 0 ≡ i = omega arith in
    record { few = omega arith; most = omega arith; others = λ _. rw e (others_none prints h i) }

module _ {prints : List ℕ} {h i count k : ℕ} (c : Counting prints h i count k) where
  pub counting_more : {x : ℕ} → k < 64 → x ≡ from_bool (eqb (get_or prints (i + k) 0) h) → Counting prints h i (count + x) (k + 1)
  counting_more {x} l e = go (eqb (get_or prints (i + k) 0) h) refl e
    where
      go : (t : Bool) → eqb (get_or prints (i + k) 0) h ≡ t → x ≡ from_bool t → Counting prints h i (count + x) (k + 1)
      go true q e = record { few = omega arith; most = omega (arith, c.most); others = λ n. absurd (omega arith) }
      go false q e =
          let j : i + (k + 1) ≡ i + k + 1 = omega arith in
          record {
            few = omega arith;
            most = omega (arith, c.most);
            others = λ n. rw j (others_more (c.others (omega arith)) (λ z. false≢true (sym q ∙ eq-eqb (get_or prints (i + k) 0) h z)));
          }

  pub counting_end : 64 ≤ k → count ≤ 0 → Others prints h i (i + 64)
  counting_end l n =
      let e : k ≡ 64 = omega (arith, c.few) in
      rw e at (c.others (omega arith))

-- ---- `skip_lines`

-- the lines before i have other fingerprints
pub record Skipping (prints : List ℕ) (h i : ℕ) : Type 0 where
  pub whole : i % 64 ≡ 0
  pub most : i ≤ 256
  pub others : Others prints h 0 i

pub skipping_start : (prints : List ℕ) (h : ℕ) → Skipping prints h 0
skipping_start prints h = record { whole = omega arith; most = omega arith; others = others_none prints h 0 }

module _ {prints : List ℕ} {h i n : ℕ} (k : Skipping prints h i) (few : n ≤ 256) where
  pub skipping_more : i < n → Others prints h i (i + 64) → Skipping prints h (i + 64)
  skipping_more l o = record { whole = omega (arith, k.whole); most = omega (arith, k.whole); others = others_on k.others o }

  pub skipping_end : n ≤ i → Others prints h 0 n
  skipping_end l = record { other = λ j a b. k.others.other j a (omega arith) }
