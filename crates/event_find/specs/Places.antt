-- What the code keeps of a bar's signals: places in their text and a fingerprint of each key; and the lines that these mean. Assumes nothing.
use Rattle.std.specs.Prelude.{ℕ, ◌+◌, ◌-◌, ◌*◌, ◌/◌, ◌%◌, ◌<◌, ◌≤◌, ◌≡◌, List, [], ◌∷◌, length, get_or}
use Rattle.std.proofs.Math.Seq.{slice}
use Rattle.list.specs.Numbered.{numbered}
use Rattle.event.specs.Signals.{Line, line_limit}

-- ---- a number that equal texts share, so that most unequal ones need no comparison

-- a fingerprint with one number more
abbrev pub mixed : ℕ → ℕ → ℕ
mixed h w = (h * 2654435761 + w) % 4294967296

-- by words of four bytes, then by bytes
unfoldable pub print_from : ℕ → List ℕ → ℕ
print_from h [] = h
print_from h (a ∷ []) = mixed h a
print_from h (a ∷ b ∷ []) = mixed (mixed h a) b
print_from h (a ∷ b ∷ c ∷ []) = mixed (mixed (mixed h a) b) c
print_from h (a ∷ b ∷ c ∷ d ∷ s) = print_from (mixed h (a + 256 * (b + 256 * (c + 256 * d)))) s

-- the upper half
abbrev pub print : List ℕ → ℕ
print s = print_from 0 s / 65536

-- ---- places

-- line i of s starts at starts[i], its `|` stands at mids[i], and the next line starts at starts[i + 1]
abbrev pub key_at : List ℕ → List ℕ → List ℕ → ℕ → List ℕ
key_at s starts mids i = slice (get_or starts i 0) (get_or mids i 0) s

abbrev pub line_at : List ℕ → List ℕ → List ℕ → ℕ → Line
line_at s starts mids i = record { key = key_at s starts mids i; value = slice (get_or mids i 0 + 1) (get_or starts (i + 1) 0 - 1) s }

-- n lines
unfoldable pub lines_at : List ℕ → List ℕ → List ℕ → ℕ → List Line
lines_at s starts mids n = numbered (line_at s starts mids) n

-- the places of a line follow each other within the text, and its print is its key's
pub record LineOk (s starts mids prints : List ℕ) (i : ℕ) : Type 0 where
  pub key : get_or starts i 0 ≤ get_or mids i 0
  pub value : get_or mids i 0 < get_or starts (i + 1) 0 - 1
  pub within : get_or starts (i + 1) 0 ≤ length s
  pub printed : get_or prints i 0 ≡ print (key_at s starts mids i)

pub record LinesOk (s starts mids prints : List ℕ) (n : ℕ) : Type 0 where
  pub starts-room : line_limit < length starts
  pub mids_room : line_limit ≤ length mids
  pub prints_room : line_limit ≤ length prints
  pub few : n ≤ line_limit
  pub lines : (i : ℕ) → i < n → LineOk s starts mids prints i
