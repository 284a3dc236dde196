-- Pair row i of a book that passed the full check, and each refusal. Assumes nothing.
use Prim.Native.Nat.{ℕ, ◌<◌, ◌≤◌}
use mathlib.Core.Path.{◌≡◌, ◌∙◌, refl, sym, ap}
use mathlib.Core.List.{List}
use Rattle.row.specs.Read.{row_refusal}
use Rattle.row.specs.declared.RowError.{RowError}
use Rattle.book.specs.declared.OpenError.{OpenError}
use Rattle.std.specs.Prelude.{Option, None, Some, Ok, Err, Result}
use borrow.Author.Tests.{le-leb, lt-leb}
use lib.IntN.{ℤ}
use lib.ListN.{length}
use Rattle.text.specs.Answer.{Answer, Refused, Got, ◌>>=◌, given}
use Rattle.sheet.specs.Sheet.{Sheet}
use Rattle.position.specs.Rows.{Pair, pairs_of}
use Rattle.position.specs.declared.PairRow.{PairRow}
use Rattle.book.specs.Layout.{records_of}
use Rattle.book.specs.Calls.{sized, checked}
use Rattle.table.specs.Layout.{parts_in}
use Rattle.table.specs.Table.{sheet_of}
use Rattle.row.specs.Calls.{row_buffer, row_at, pair_do, pair_bytes, pair_row}
use Rattle.row_open.specs.Open.{OpenedAs}
use Rattle.row_open.proofs.Laws.{short, opened, not_opened}
use Rattle.row_pairs.specs.Read.{PairAs}
use Rattle.row_pairs.specs.Row.{PairPut, Answered}

-- ---- the answer to a row

pub answered-none : {o : Option Pair} (before : List ℕ) → o ≡ None → Answered (given 15 o) before before (Err RowError.PastLast)
answered-none before e = record { is = rw e; bytes = rw e }

pub answered-row : {o : Option Pair} {p : Pair} {before after : List ℕ} {r : PairRow} → o ≡ Some p → PairPut p before after r → Answered (given 15 o) before after (Ok r)
answered-row e w = record { is = rw e (ap Got w.is); bytes = rw e w.bytes }

-- ---- the whole answer

module _ (t b : List ℕ) (i : ℤ) (before : List ℕ) where
  -- the pair of a book of c bars, by the sheet
  abbrev asked : ℕ → Sheet → Answer Pair
  asked c s = given 15 (row_at (pairs_of s (records_of c b)) i)

  as_asked : {x : Answer Pair} {after : List ℕ} {r : (Result PairRow RowError)} → x ≡ pair_do t b i before → Answered x before after r → PairAs t b i before after r
  as_asked e w = record { is = w.is ∙ ap (λ x. x >>= λ p. Got (pair_row p)) e; bytes = w.bytes ∙ ap (pair_bytes before) e }

  -- a refusal leaves the buffer
  refused : (e : RowError) → Refused (row_refusal e) ≡ pair_do t b i before → PairAs t b i before before (Err e)
  refused e f = as_asked {x = Refused (row_refusal e)} f (record { is = refl; bytes = refl })

  pub short_buffer : length before < row_buffer → PairAs t b i before before (Err (RowError.Open OpenError.WrongLength))
  unfolding pair_do
  short_buffer h = refused _ (rw (lt-leb row_buffer (length before) h) (sym (short t b (λ c. checked t c b >>= asked c))))

  module _ (room : row_buffer ≤ length before) where
    -- behind the buffer's length
    behind : {x : Answer Pair} → x ≡ (sized t b >>= λ c. checked t c b >>= asked c) → x ≡ pair_do t b i before
    unfolding pair_do
    behind e = rw (le-leb row_buffer (length before) room) e

    pub no_book : {e : OpenError} → OpenedAs t b (Err e) → PairAs t b i before before (Err (RowError.Open e))
    no_book z = refused _ (behind (not_opened asked z))

    pub passed : {c : ℕ} {after : List ℕ} {r : (Result PairRow RowError)} → OpenedAs t b (Ok c) → Answered (asked c (sheet_of (parts_in t))) before after r → PairAs t b i before after r
    passed z w = as_asked (behind (opened asked z)) w
