-- Laws of UTF-8: what each first byte asks for, and what one byte more tells of a text. Assumes nothing.
use mathlib.Core.Path.{◌≡◌, ◌∙◌, refl, sym, ap}
use mathlib.Core.Logic.{◌≢◌}
use mathlib.Core.List.{List, [], ◌∷◌}
use mathlib.Core.Bool.{Bool, true, false, and-false}
use Rattle.std.specs.Prelude.{Option, None, Some}
use Prim.Native.Nat.{ℕ, suc, ◌+◌, ◌≤◌, ◌<◌}
use native.Mathlib.Decide.{dec_le}
use native.Mathlib.Numerals.{add-one}
use native.Mathlib.Omega.{arith}
use borrow.Author.Tests.{le-leb, lt-leb}
use lib.Dec.{leb}
use lib.Seq.{drop-cons}
use lib.ListN.{length, get_or, drop, replicate, drop_of_length-le}
use Rattle.utf8.specs.Utf8.{Range, to, inside, utf8_tail, after, step, right, utf8}
use Rattle.utf8.specs.Read.{Read, Passed, CharAt}

-- ---- a byte and a range

pub above : (lo hi b : ℕ) → hi < b → inside (to lo hi) b ≡ false
above lo hi b h = rw (lt-leb b hi h) (and-false (leb lo b))

pub below : (lo hi b : ℕ) → b < lo → inside (to lo hi) b ≡ false
below lo hi b h = rw (lt-leb lo b h)

pub among : (lo hi b : ℕ) → lo ≤ b → b ≤ hi → inside (to lo hi) b ≡ true
among lo hi b h k = rw (le-leb lo b h, le-leb b hi k)

-- ---- the rows of `after`

module _ (b : ℕ) where
  pub after-ascii : b ≤ 0x7f → after b ≡ Some []
  unfolding after
  after-ascii h = rw (among 0x00 0x7f b (omega arith) h)

  pub after_three : 0xe0 < b → b ≢ 0xed → b ≤ 0xef → after b ≡ Some (utf8_tail ∷ utf8_tail ∷ [])
  unfolding after
  after_three h e k =
      rw (above 0x00 0x7f b (omega arith), above 0xc2 0xdf b (omega arith), above 0xe0 0xe0 b h)
      (elim (dec_le b 0xec) [
        | yes l ↦ rw (among 0xe1 0xec b h l)
        | no l ↦ rw (above 0xe1 0xec b (omega arith), above 0xed 0xed b (omega arith), among 0xee 0xef b (omega arith) k)
      ])

-- ---- one byte more

pub right-none : (l : List ℕ) → right None l ≡ false
unfolding right step
right-none [] = refl
right-none (b ∷ l) = right-none l

-- before the first byte
pub read-start : (s : List ℕ) (st : Option (List Range)) (i : ℕ) → i ≤ length s → Read s i (right st (drop i s)) st i
read-start s st i h = record { onward = omega arith; within = h; same = refl }

pub passed_start : (s : List ℕ) (i : ℕ) → i ≤ length s → Passed s i (utf8 (drop i s)) i
unfolding utf8
passed_start s i h = read-start s (Some []) i h

module _ {s : List ℕ} {i : ℕ} {whole : Bool} {st : Option (List Range)} {j : ℕ} (r : Read s i whole st j) where
  -- a byte takes the state one step on
  read_byte : (next : Option (List Range)) → j < length s → step st (get_or s j 0) ≡ next → Read s i whole next (j + 1)
  unfolding right
  read_byte next h e =
      record {
        onward = omega arith;
        within = omega arith;
        same = r.same ∙ rw (add-one, drop-cons s j 0 h) (ap (λ x. right x (drop (suc j) s)) e);
      }

  -- what was read from j on was read from i on
  pub read-on : {next : Option (List Range)} {k : ℕ} → Read s j (right st (drop j s)) next k → Read s i whole next k
  read-on q = record { onward = omega arith; within = q.within; same = r.same ∙ q.same }

-- where no character goes on so, the whole is wrong
pub read_none : {s : List ℕ} {i : ℕ} {whole : Bool} {j : ℕ} → Read s i whole None j → whole ≡ false
read_none {s} {j = j} r = r.same ∙ right-none (drop j s)

-- the first byte of a character
pub read_first : (s : List ℕ) (i : ℕ) (next : Option (List Range)) → i < length s → after (get_or s i 0) ≡ next → Read s (i + 1) (utf8 (drop i s)) next (i + 1)
unfolding step
read_first s i next h e =
    let r = read_byte (passed_start s i (omega arith)) next h e in
    record { onward = omega arith; within = r.within; same = r.same }

-- ---- a byte that must be in lo..hi

module _ {s : List ℕ} {i : ℕ} {whole : Bool} {lo hi : ℕ} {xs : List Range} {j : ℕ} (r : Read s i whole (Some (to lo hi ∷ xs)) j) where
  -- a text that is cut within a character is wrong
  pub range_cut : length s ≤ j → whole ≡ false
  unfolding right
  range_cut h = r.same ∙ rw (drop_of_length-le s h)

  module _ (h : j < length s) where
    pub range_below : get_or s j 0 < lo → whole ≡ false
    unfolding step
    range_below k = read_none (read_byte r None h (rw (below lo hi (get_or s j 0) k)))

    pub range_above : hi < get_or s j 0 → whole ≡ false
    unfolding step
    range_above k = read_none (read_byte r None h (rw (above lo hi (get_or s j 0) k)))

    pub range_among : lo ≤ get_or s j 0 → get_or s j 0 ≤ hi → Read s i whole (Some xs) (j + 1)
    unfolding step
    range_among k l = read_byte r (Some xs) h (rw (among lo hi (get_or s j 0) k l))

module _ {s : List ℕ} {i : ℕ} {whole : Bool} {k j : ℕ} (r : Read s i whole (Some (replicate k utf8_tail)) j) where
  -- where tails are to come, the first is one
  pub tails_some : (n : ℕ) → k ≡ suc n → Read s i whole (Some (utf8_tail ∷ replicate n utf8_tail)) j
  tails_some n e = rw e at r

-- a character that was taken from j on was taken from i on
pub char_on : {s : List ℕ} {i : ℕ} {whole : Bool} {st : Option (List Range)} {j : ℕ} → Read s i whole st j → (c : Option ℕ) → CharAt s j (right st (drop j s)) c → CharAt s i whole c
char_on r (Some k) q = read-on r q
char_on r None q = r.same ∙ q

-- ---- whole characters

module _ {s : List ℕ} {i : ℕ} {whole : Bool} {j : ℕ} (r : Passed s i whole j) where
  pub passed_on : {k : ℕ} → Passed s j (utf8 (drop j s)) k → Passed s i whole k
  unfolding utf8
  passed_on q = read-on r q

  pub passed_ascii : j < length s → get_or s j 0 ≤ 0x7f → Passed s i whole (j + 1)
  unfolding step
  passed_ascii h k = read_byte r (Some []) h (after-ascii (get_or s j 0) k)

  -- behind a whole character
  pub passed_char : {k : ℕ} → Passed s (j + 1) (utf8 (drop j s)) k → Passed s i whole k
  passed_char q = passed_on (record { onward = omega arith; within = q.within; same = q.same })

  pub passed_wrong : utf8 (drop j s) ≡ false → false ≡ whole
  unfolding utf8
  passed_wrong e = sym (r.same ∙ e)

  pub passed_all : length s ≤ j → true ≡ whole
  unfolding right
  passed_all h = sym (r.same ∙ rw (drop_of_length-le s h))
