-- The first LF by blocks of 64 bytes: the invariants of `lf_block` and `find_lf`. Assumes nothing.
use Prim.Native.Nat.{ℕ, zero, suc, ◌+◌, ◌<◌, ◌≤◌}
use Rattle.std.specs.Prelude.{min}
use native.Mathlib.Decide.{dec_lt, ℕ_discrete}
use native.Mathlib.Omega.{arith}
use mathlib.Core.List.{List}
use mathlib.Core.Logic.{◌≢◌}
use mathlib.Core.Path.{◌≡◌, subst}
use borrow.Author.Tests.{eq-eqb, ne_eqb}
use lib.ListN.{length, get_or}
use Rattle.text.specs.Read.{index_of, index_after}
use Rattle.text.specs.Read.{FirstAt}
use Rattle.text.specs.Text.{LF}
use Rattle.text.proofs.Laws.{part_cons}
use Rattle.revise_line.specs.Find.{Placed, BlockEnd, FirstLf}

-- ---- the first b

module _ {s : List ℕ} {b to : ℕ} (w : to ≤ length s) where
  first-here : {r : ℕ} → r < to → get_or s r 0 ≡ b → FirstAt s r to b r
  unfolding index_of index_after
  first-here {r} h e = record { low = omega arith; high = omega arith; at = rw (part_cons r to s h w, index_of, eq-eqb (get_or s r 0) b e) (omega arith) }

  -- behind one byte that is not b
  first_next : {from r : ℕ} → from < to → get_or s from 0 ≢ b → FirstAt s (from + 1) to b r → FirstAt s from to b r
  unfolding index_of index_after
  first_next {from} {r} h n f = record {
    low = omega (arith, f.low);
    high = f.high;
    at = rw (part_cons from to s h w, index_of, ne_eqb (get_or s from 0) b n) (omega (arith, f.at));
  }

  -- behind d bytes that are not b
  first-behind : (d from : ℕ) {r : ℕ} → from + d ≤ to → ((j : ℕ) → j < d → get_or s (from + j) 0 ≢ b) → FirstAt s (from + d) to b r → FirstAt s from to b r
  first-behind zero from {r} h n f =
      let e : from + 0 ≡ from = omega arith in
      rw e at f
  first-behind (suc d) from {r} h n f =
      let e : from + suc d ≡ from + 1 + d = omega arith in
      first_next (omega arith) (same (omega arith) (n 0 (omega arith)))
      (first-behind d (from + 1) (omega arith) (λ j l. same (omega arith) (n (suc j) (omega arith))) (rw e at f))
    where
      same : {i j : ℕ} → i ≡ j → get_or s i 0 ≢ b → get_or s j 0 ≢ b
      same e = subst (λ (k : ℕ). get_or s k 0 ≢ b) e

-- ---- `lf_block`

-- of k bytes from i on, the first LF is number `first`, or it is 64
pub record Looked (s : List ℕ) (i first k : ℕ) : Type 0 where
  pub few : k ≤ 64
  pub most : first ≤ 64
  pub none : (j : ℕ) → j < k → j < first → get_or s (i + j) 0 ≢ LF
  pub last : first < 64 → get_or s (i + first) 0 ≡ LF

pub looked_start : (s : List ℕ) (i : ℕ) → Looked s i 64 0
looked_start s i = record { few = omega arith; most = omega arith; none = λ j l. absurd (omega arith); last = λ l. absurd (omega arith) }

module _ {s : List ℕ} {i first k : ℕ} (l : Looked s i first k) where
  pub looked_more : k < 64 → {x r : ℕ} → Placed (get_or s (i + k) 0) k x → r ≡ min first x → Looked s i r (k + 1)
  looked_more h {x} {r} p m = record { few = omega arith; most = omega (arith, l.most, m); none = none; last = last }
    where
      none : (j : ℕ) → j < k + 1 → j < r → get_or s (i + j) 0 ≢ LF
      none j a b e =
          elim (dec_lt j k) [
            | yes g ↦ l.none j g (omega (arith, m)) e
            | no g ↦
                let z : j ≡ k = omega arith in
                absurd (omega (arith, m, p.mark (rw z at e)))
          ]

      last : r < 64 → get_or s (i + r) 0 ≡ LF
      last b =
          elim (ℕ_discrete r first) [
            | yes g ↦ rw g (l.last (omega arith))
            | no g ↦
                elim (ℕ_discrete (get_or s (i + k) 0) LF) [
                  | yes e ↦
                      let z : r ≡ k = omega (arith, m, g, p.mark e) in
                      rw z e
                  | no e ↦ absurd (omega (arith, m, g, p.plain e))
                ]
          ]

  pub looked_end : 64 ≤ k → BlockEnd s i first
  looked_end h = record { few = l.most; none = λ j a. l.none j (omega (arith, l.most)) a; last = l.last }

-- ---- `find_lf`

-- what is looked for behind i is what was looked for
pub record Passing (s : List ℕ) (from i : ℕ) : Type 0 where
  pub within : i ≤ length s
  pub rest : (r : ℕ) → FirstLf s i r → FirstLf s from r

pub passing_start : (s : List ℕ) (from : ℕ) → from ≤ length s → Passing s from from
passing_start s from h = record { within = h; rest = λ r f. f }

module _ {s : List ℕ} {from i k : ℕ} (p : Passing s from i) (e : BlockEnd s i k) (w : i + 64 ≤ length s) where
  pub passing_found : k < 64 → FirstLf s from (i + k)
  passing_found h = p.rest (i + k) (first-behind (omega arith) k i (omega arith) e.none (first-here (omega arith) (omega arith) (e.last h)))

  pub passing_block : 64 ≤ k → Passing s from (i + 64)
  passing_block h = record { within = w; rest = λ r f. p.rest r (first-behind (omega arith) 64 i w (λ j a. e.none j (omega arith)) f) }
