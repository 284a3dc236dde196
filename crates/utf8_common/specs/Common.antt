-- Texts of ASCII and of common characters, which are three bytes that start with e1..ec, ee or ef, so that the others are any tails: what can stand behind what. Assumes nothing.
use Rattle.std.specs.Prelude.{ℕ, ◌<◌, ◌≤◌, ◌≡◌, ◌≢◌}

pub record Tail (b : ℕ) : Type 0 where
  pub low : 0x80 ≤ b
  pub high : b ≤ 0xbf

-- the first byte of a common character
pub record First (b : ℕ) : Type 0 where
  pub low : 0xe0 < b
  pub high : b ≤ 0xef
  pub other : b ≢ 0xed

pub data Start (b : ℕ) : Type 0 where
  ascii : b ≤ 0x7f → Start b
  first : First b → Start b

-- b can stand behind q and p: as the second or third byte of a character, or as a start
pub record Behind (q p b : ℕ) : Type 0 where
  pub second : 0xe0 < p → Tail b
  pub third : 0xe0 < q → Tail b
  pub start : p ≤ 0xe0 → q ≤ 0xe0 → Start b

-- r is 0 or 1, and 0 only where it is as asked
pub record ZeroFor (asked : Type 0) (r : ℕ) : Type 0 where
  pub most : r ≤ 1
  pub zero : r ≡ 0 → asked
