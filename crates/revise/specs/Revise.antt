-- The call: a list of bars with revisions, turned into a book. Where it is refused the book's bytes are unchanged: at exit they are `got_or`
-- those at entry. Assumes nothing.
use Rattle.std.specs.Prelude.{ℕ, List, leb, length}
use Rattle.text.specs.Answer.{Answer, Got, ◌>>=◌, must}
use Rattle.table.specs.Table.{read_table}
use Rattle.position.specs.Step.{Fed, plain}
use Rattle.book.specs.Layout.{encode}
use Rattle.book.specs.Calls.{sized}
use Rattle.revise.specs.Lines.{lines, bar_count}
use Rattle.revise.specs.Entries.{read_entries}
use Rattle.revise.specs.Chosen.{chosen, feds, agree}

-- "a list of up to 900 bars"
abbrev pub revised_limit : ℕ
revised_limit = 900

-- the bars and signals that a text has chosen
unfoldable pub revised_bars : List ℕ → Answer (List Fed)
revised_bars s = read_entries s >>= λ es. Got (feds (chosen es))

-- "More than 900 lines starting `B|` give 7 first, then come 8 and 9, then entry by entry ..": "19 .. found before any bar is fed and after all
-- entries pass", "a book with fewer places than instants gives 14 last", "its old bytes are not read"
unfoldable pub revise_do : List ℕ → List ℕ → List ℕ → Answer (List ℕ)
revise_do table b s = do
  _ ← must 7 (leb (bar_count (lines s)) revised_limit)
  c ← sized table b
  sheet ← read_table table
  es ← read_entries s
  _ ← must 19 (agree es)
  _ ← must 14 (leb (length (chosen es)) c)
  Got (encode c (plain sheet (feds (chosen es))))
