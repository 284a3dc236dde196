-- What the steps that look for an LF answer. Assumes nothing.
use Rattle.std.specs.Prelude.{ℕ, ◌+◌, ◌<◌, ◌≤◌, List, ◌≢◌, ◌≡◌, length, get_or}
use Rattle.text.specs.Read.{FirstAt}
use Rattle.text.specs.Text.{LF}

-- x is the place k of an LF, or 64
pub record Placed (b k x : ℕ) : Type 0 where
  pub mark : b ≡ LF → x ≡ k
  pub plain : b ≢ LF → x ≡ 64

-- of 64 bytes of s from i on, the first LF is number r, or r is 64
pub record BlockEnd (s : List ℕ) (i r : ℕ) : Type 0 where
  pub few : r ≤ 64
  pub none : (j : ℕ) → j < r → get_or s (i + j) 0 ≢ LF
  pub last : r < 64 → get_or s (i + r) 0 ≡ LF

-- r is where the first LF of s from `from` on stands, or the end
abbrev pub FirstLf : List ℕ → ℕ → ℕ → Type 0
FirstLf s from r = FirstAt s from (length s) LF r
