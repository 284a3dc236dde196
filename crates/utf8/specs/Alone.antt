-- A text, and a text that stands alone. Assumes nothing.
use Rattle.std.specs.Prelude.{ℕ, not, ◌||◌, List, leb, length}
use Rattle.text.specs.Answer.{Answer, ◌>>=◌, must}
use Rattle.text.specs.Text.{has, LF, pipe}
use Rattle.utf8.specs.Utf8.{utf8}

abbrev pub text_limit : ℕ
text_limit = 16384

-- "A text is at most 16,384 bytes of UTF-8": 7, then 1
unfoldable pub text : List ℕ → Answer (Unit {0})
text s = do
  _ ← must 7 (leb (length s) text_limit)
  must 1 (utf8 s)

-- "A signal or operate alone: 7, 1, 2 (`|` or LF)"
unfoldable pub alone : List ℕ → Answer (Unit {0})
alone s = do
  _ ← text s
  must 2 (not (has pipe s || has LF s))
