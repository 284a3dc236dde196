-- The invariant of `ascii_block`. Assumes nothing.
use mathlib.Core.Path.{◌≡◌}
use mathlib.Core.List.{List}
use Prim.Native.Nat.{ℕ, ◌+◌, ◌-◌, ◌/◌, ◌≤◌, ◌<◌}
use native.Mathlib.Omega.{arith}
use lib.ListN.{length, get_or, drop}
use Rattle.utf8.specs.Utf8.{utf8}
use Rattle.utf8.specs.Read.{Passed}
use Rattle.utf8.proofs.Laws.{passed_start, passed_ascii}

-- k bytes of a block are read, and low of them are ASCII
pub record Block (s : List ℕ) (i low k : ℕ) : Type 0 where
  pub few : k ≤ 16
  pub most : low ≤ k
  pub ascii : low ≡ k → Passed s i (utf8 (drop i s)) (i + k)

pub block_start : (s : List ℕ) (i : ℕ) → i + 16 ≤ length s → Block s i 0 0
block_start s i h =
    let e : i + 0 ≡ i = omega arith in
    record { few = omega arith; most = omega arith; ascii = λ _. rw e (passed_start s i (omega arith)) }

module _ {s : List ℕ} {i low k : ℕ} (b : Block s i low k) where
  pub block_more : (x : ℕ) → i + 16 ≤ length s → k < 16 → x ≡ get_or s (i + k) 0 → Block s i (low + (255 - x) / 128) (k + 1)
  block_more x h l e =
      let n : i + (k + 1) ≡ i + k + 1 = omega arith in
      record {
        few = omega arith;
        most = omega arith;
        ascii = λ z. rw n (passed_ascii (b.ascii (omega arith)) (omega arith) (omega arith));
      }
