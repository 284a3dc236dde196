-- Laws of common characters, and the invariant of `common_block`. Assumes nothing.
use mathlib.Core.Path.{◌≡◌, refl}
use mathlib.Core.List.{List}
use mathlib.Core.Bool.{Bool}
use Prim.Native.Nat.{ℕ, ◌+◌, ◌-◌, ◌≤◌, ◌<◌}
use native.Mathlib.Omega.{arith}
use lib.ListN.{length, get_or, drop}
use Rattle.utf8.specs.Utf8.{utf8}
use Rattle.utf8.specs.Read.{Passed}
use Rattle.utf8_common.specs.Common.{Tail, First, Start, ascii, first, Behind, ZeroFor}
use Rattle.utf8.proofs.Laws.{after_three, read_first, range_among, passed_start, passed_ascii, passed_char}

pub passed_common : {s : List ℕ} {i : ℕ} {whole : Bool} {j : ℕ} → Passed s i whole j → j + 2 < length s → First (get_or s j 0) → Tail (get_or s (j + 1) 0) → Tail (get_or s (j + 2) 0)
    → Passed s i whole (j + 3)
passed_common {s} {j = j} r h f t u =
    let one : j + 2 ≡ j + 1 + 1 = omega arith in
    let two : j + 3 ≡ j + 1 + 1 + 1 = omega arith in
    let v = rw one at u in
    let a = read_first s j _ (omega arith) (after_three _ f.low f.other f.high) in
    rw two (passed_char r (range_among (range_among a (omega arith) t.low t.high) (omega arith) v.low v.high))

start_first : {b : ℕ} → Start b → 0xe0 < b → First b
start_first (ascii l) h = absurd (omega arith)
start_first (first f) h = f

-- a common character that starts at i
pub common_at : (s : List ℕ) (i : ℕ) {x y z : ℕ} → i + 2 < length s → 0xe0 < get_or s i 0 → ZeroFor (Start (get_or s i 0)) x → ZeroFor (Tail (get_or s (i + 1) 0)) y → ZeroFor (Tail (get_or s (i + 2) 0)) z
    → x + y + z ≡ 0 → Passed s (i + 1) (utf8 (drop i s)) (i + 3)
common_at s i h l a b c e =
    let r = passed_common (passed_start s i (omega arith)) h (start_first (a.zero (omega arith)) l) (b.zero (omega arith)) (c.zero (omega arith)) in
    record { onward = omega arith; within = r.within; same = r.same }

-- ---- byte by byte

-- how the bytes from i to k stand, of which the last two are q and p: they are whole characters, or behind these the first byte, or two, of a common one
pub data Stand (s : List ℕ) (i : ℕ) (whole : Bool) (q p k : ℕ) : Type 0 where
  clear : q ≤ 0xe0 → p ≤ 0xe0 → Passed s i whole k → Stand s i whole q p k
  one : (j : ℕ) → k ≡ j + 1 → p ≡ get_or s j 0 → First p → Passed s i whole j → Stand s i whole q p k
  two : (j : ℕ) → k ≡ j + 2 → q ≡ get_or s j 0 → p ≡ get_or s (j + 1) 0 → First q → Tail p → Passed s i whole j → Stand s i whole q p k

module _ {s : List ℕ} {i : ℕ} {whole : Bool} {q p k : ℕ} where
  -- one byte more
  pub stand_on : Stand s i whole q p k → (b : ℕ) → k < length s → b ≡ get_or s k 0 → Behind q p b → Stand s i whole p b (k + 1)
  stand_on (clear hq hp r) b h e g = go (g.start hp hq)
    where
      go : Start b → Stand s i whole p b (k + 1)
      go (ascii l) = clear hp (omega arith) (passed_ascii r h (omega arith))
      go (first f) = one k refl e f r
  stand_on (one j ek ep f r) b h e g =
      let x : b ≡ get_or s (j + 1) 0 = rw ek at e in
      two j (omega arith) ep x f (g.second f.low) r
  stand_on (two j ek eq ep f t r) b h e g =
      let u = g.third f.low in
      let x : b ≡ get_or s (j + 2) 0 = rw ek at e in
      let n : k + 1 ≡ j + 3 = omega arith in
      clear (omega (arith, t.high)) (omega (arith, u.high)) (rw n (passed_common r (omega arith) (rw eq at f) (rw ep at t) (rw x at u)))

-- ---- `common_block`

-- the bytes from i to k are looked at, and odds of them are odd
pub record Counted (s : List ℕ) (i odds k : ℕ) : Type 0 where
  pub least : i + 2 ≤ k
  pub most : k ≤ i + 66
  pub few : odds ≤ k - i
  pub stand : odds ≡ 0 → Stand s i (utf8 (drop i s)) (get_or s (k - 2) 0) (get_or s (k - 1) 0) k

pub counted_start : (s : List ℕ) (i : ℕ) {x y : ℕ} → i + 66 ≤ length s → ZeroFor (Behind 0 0 (get_or s i 0)) x → ZeroFor (Behind 0 (get_or s i 0) (get_or s (i + 1) 0)) y
    → Counted s i (x + y) (i + 2)
counted_start s i {x} {y} h a b =
    let p : i + 2 - 2 ≡ i = omega arith in
    let q : i + 2 - 1 ≡ i + 1 = omega arith in
    let n : i + 2 ≡ i + 1 + 1 = omega arith in
    record {
      least = omega arith;
      most = omega arith;
      few = omega (arith, a.most, b.most);
      stand = λ e.
          let start : Stand s i (utf8 (drop i s)) 0 0 i = clear (omega arith) (omega arith) (passed_start s i (omega arith)) in
          let one = stand_on start (get_or s i 0) (omega arith) refl (a.zero (omega arith)) in
          rw (p, q, n) (stand_on one (get_or s (i + 1) 0) (omega arith) refl (b.zero (omega arith)));
    }

module _ {s : List ℕ} {i odds k : ℕ} (c : Counted s i odds k) (h : i + 66 ≤ length s) where
  pub counted-more : {x : ℕ} → k < i + 66 → ZeroFor (Behind (get_or s (k - 2) 0) (get_or s (k - 1) 0) (get_or s k 0)) x → Counted s i (odds + x) (k + 1)
  counted-more {x} l a =
      let p : k + 1 - 2 ≡ k - 1 = omega (arith, c.least) in
      let q : k + 1 - 1 ≡ k = omega arith in
      record {
        least = omega (arith, c.least);
        most = omega arith;
        few = omega (arith, c.few, a.most, c.least);
        stand = λ e. rw (p, q) (stand_on (c.stand (omega arith)) (get_or s k 0) (omega arith) refl (a.zero (omega arith)));
      }
