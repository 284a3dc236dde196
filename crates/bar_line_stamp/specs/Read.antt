-- What the code's answers mean for the definition of a line's time. Assumes nothing.
use Rattle.std.specs.Prelude.{ℕ, ◌≤◌, ◌≡◌, ℤ, pos, neg_ℤ, ◌≤ℤ◌, Option, Some, None}
use Rattle.text.specs.Answer.{Answer, Refused, Got, given}
use Rattle.bar_line.specs.declared.Stamp.{Stamp}

abbrev pub AtMost : ℕ → Option ℕ → Type 0
AtMost hi (Some v) = v ≤ hi
AtMost hi None = Unit {0}

-- r is the number that a answers, not above hi, or 16
pub record NumberAs (a : Answer ℕ) (hi : ℕ) (r : Option ℕ) : Type 0 where
  pub is : given 16 r ≡ a
  pub small : AtMost hi r

-- less than a day
abbrev pub OffsetIn : Option ℤ → Type 0
OffsetIn (Some x) = (neg_ℤ (pos 86_340) ≤ℤ x) × (x ≤ℤ pos 86_340)
OffsetIn None = Unit {0}

-- r is the offset that a answers, the seconds that the wall clock is ahead of UTC
pub record OffsetAs (a : Answer ℤ) (r : Option ℤ) : Type 0 where
  pub is : given 16 r ≡ a
  pub small : OffsetIn r

abbrev pub stamp_read_of : Option Stamp → Answer Stamp
stamp_read_of (Some t) = Got t
stamp_read_of None = Refused 16
