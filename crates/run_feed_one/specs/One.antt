-- One bar of the run program: its feed and its line. Assumes nothing.
use Rattle.std.specs.Prelude.{ℕ, ◌≡◌, List, [], ◌∷◌}
use Rattle.text.specs.Answer.{Answer, number}
use Rattle.text.specs.Literal.{bytes}
use Rattle.text.specs.Number.{decimal_of, integer_of}
use Rattle.sheet.specs.Sheet.{Sheet}
use Rattle.position.specs.State.{State, pos_sign}
use Rattle.position.specs.Feed.{Input, Accepted}
use Rattle.position.specs.Run.{run_bars, line, flag_text}
use Rattle.book.specs.Layout.{head_of}
use Rattle.book.specs.Calls.{feed_do, feed_bytes}
use Rattle.history.proofs.Invariant.{BookOf}
use Rattle.run_fields.specs.Fields.{ShortPut}
use Rattle.run_output.specs.Shown.{feed_room}

-- b is the book of a state that bars can reach, with room for 900 of them
abbrev pub Held : Sheet → State → List ℕ → Type 0
Held s st b = (k : BookOf s st b) × (k.bars ≡ run_bars)

-- the line of a bar, by the answer of its feed and the book then
abbrev pub bar_line_of : Answer (Accepted (List ℕ)) → List ℕ → List ℕ
bar_line_of a b = line (bytes "F" ∷ decimal_of (number a) ∷ integer_of (pos_sign (head_of b).pos) ∷ flag_text (head_of b).changed ∷ [])

pub record FedOne (table b next : List ℕ) (i : Input) (out more : List ℕ) (at r : ℕ) : Type 0 where
  pub book : next ≡ feed_bytes b (feed_do table b i)
  pub line : ShortPut feed_room out more at (bar_line_of (feed_do table b i) next) r
