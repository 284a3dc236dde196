-- "A bar's signals are a text of `key|value` lines, at most 256, keys distinct." Assumes nothing.
use Rattle.std.specs.Prelude.{ℕ, Bool, not, List, [], ◌∷◌, ◌++◌, ltb, eqb, length, get_or}
use Rattle.text.specs.Answer.{Answer, Got, ◌>>=◌, must}
use Rattle.text.specs.Text.{same, split, each_line, LF}
use Rattle.text.specs.Conditions.{any_of}
use Rattle.utf8.specs.Alone.{text}

pub record Line : Type 0 where
  pub key : List ℕ
  pub value : List ℕ

abbrev pub line_limit : ℕ
line_limit = 256

-- whether some line has the key
abbrev pub has_key : List ℕ → List Line → Bool
has_key k ls = any_of (λ l. same k l.key) ls

-- "per line 2, 12, count"
unfoldable pub signal_line : List Line → List (List ℕ) → Answer (List Line)
signal_line ls f = do
  _ ← must 2 (eqb (length f) 2)
  _ ← must 12 (not (has_key (get_or f 0 []) ls))
  _ ← must 7 (ltb (length ls) line_limit)
  Got (ls ++ record { key = get_or f 0 []; value = get_or f 1 [] } ∷ [])

-- "signals (7, 1, then per line 2, 12, count)"; "An empty signal text has no lines"
unfoldable pub read_signals : List ℕ → Answer (List Line)
read_signals s = do
  _ ← text s
  each_line signal_line [] (split LF s)
