-- What the code's answers mean, and what its contracts say of places in a text. Assumes nothing.
use Rattle.std.specs.Prelude.{ℕ, ◌≤◌, ◌≡◌, Bool, false, List, [], ◌∷◌, length, drop, replicate, Option, Some, None}
use Rattle.utf8.specs.Utf8.{Range, to, utf8_tail, right}
use Rattle.utf8.specs.declared.Need.{Need}

-- a byte in lo..hi and `more` tails are to come
abbrev pub asks : ℕ → ℕ → ℕ → Option (List Range)
asks lo hi more = Some (to lo hi ∷ replicate more utf8_tail)

-- what must follow a first byte, if it is one
abbrev pub needs : Option Need → Option (List Range)
needs None = None
needs (Some n) = asks n.lo n.hi n.more

-- i..j of s is read: whether the whole is right is whether the bytes from j on are where the ranges of the state are still to come
pub record Read (s : List ℕ) (i : ℕ) (whole : Bool) (st : Option (List Range)) (j : ℕ) : Type 0 where
  pub onward : i ≤ j
  pub within : j ≤ length s
  pub same : whole ≡ right st (drop j s)

-- i..r of s is read up to the end of a character
abbrev pub Passed : List ℕ → ℕ → Bool → ℕ → Type 0
Passed s i whole r = Read s i whole (Some []) r

-- a character that ends before the place, or what no character is
abbrev pub CharAt : List ℕ → ℕ → Bool → Option ℕ → Type 0
CharAt s i whole (Some r) = Passed s i whole r
CharAt s i whole None = whole ≡ false
