-- A block of a book that passed the full check, and each refusal. Assumes nothing.
use Prim.Native.Nat.{ℕ, ◌<◌, ◌≤◌}
use native.Mathlib.Omega.{arith}
use mathlib.Core.Path.{◌≡◌, ◌∙◌, refl, sym, ap, subst}
use mathlib.Core.List.{List}
use Rattle.row.specs.declared.RowError.{RowError}
use Rattle.row.specs.declared.RowError.TheVariants as RowError
use Rattle.book.specs.declared.OpenError.TheVariants as OpenError
use Rattle.book.specs.declared.OpenError.{OpenError}
use Rattle.std.specs.Prelude.{None, Some, Ok, Err, Result, slice_get}
use borrow.Author.Tests.{le-leb, lt-leb}
use lib.IntN.{ℤ, pos, negsuc}
use lib.ListN.{length, drop}
use mir.Syntax.{w64}
use mir.Val.{SFits}
use mir.Facts.{to_z-of_z}
use Rattle.le.proofs.Signs.{back}
use Rattle.text.specs.Answer.{Answer, Refused, Got, ◌>>=◌}
use Rattle.sheet.specs.Sheet.{Sheet}
use Rattle.table.specs.Layout.{parts_in}
use Rattle.table.specs.Table.{sheet_of}
use Rattle.book.specs.Calls.{sized, checked}
use Rattle.row.specs.Calls.{row_at}
use Rattle.row.specs.Read.{row_refusal, index_of}
use Rattle.row.proofs.Index.{index_below, index_is}
use Rattle.row_open.specs.Open.{OpenedAs}
use Rattle.row_open.proofs.Laws.{short, opened, not_opened}
use Rattle.row_blocks.specs.Blocks.{rows_from, block_from, block_do, block_of, block_bytes}
use Rattle.row_blocks.specs.Read.{Filled, BlockAs}
use Rattle.row_blocks.specs.declared.Block.{Block}

-- ---- the rows of a book

-- those from an index on
from_is : {X : Type 0} (rows : List X) (i : ℤ) {k : ℕ} → Ok k ≡ index_of i → rows_from rows i ≡ drop k rows
from_is rows (pos n) {k} h = ap (λ (m : ℕ). drop m rows) (let e : n ≡ k = cc in e)
from_is rows (negsuc n) h = absurd (let z : ◌≡◌ {A = ℕ} 0 1 = cc in omega arith)

module _ (rows : List (List ℕ)) (before : List ℕ) where
  block_none : (i : ℤ) → row_at rows i ≡ None → BlockAs (block_from rows i (length before)) before before (Err RowError.PastLast)
  block_none i e = record { is = rw e; bytes = rw e }

  module _ {i : ℤ} (F : SFits w64 i) where
    pub block_below : {e : RowError} → Err e ≡ index_of (back w64 i) → BlockAs (block_from rows i (length before)) before before (Err e)
    block_below h = let b = index_below rows F h in rw b.0 (block_none i b.1)

    module _ {k : ℕ} (h : Ok k ≡ index_of (back w64 i)) where
      pub block_past : slice_get rows k ≡ None → BlockAs (block_from rows i (length before)) before before (Err RowError.PastLast)
      block_past e = block_none i (index_is rows F h ∙ e)

      pub block_rows : {r after : List ℕ} {q : Block} → slice_get rows k ≡ Some r → Filled (drop k rows) before after q → BlockAs (block_from rows i (length before)) before after (Ok q)
      block_rows {r} {after} {q} e f =
          let there : row_at rows i ≡ Some r = index_is rows F h ∙ e in
          let same : rows_from rows i ≡ drop k rows = ap (rows_from rows) (sym (to_z-of_z {w = w64} F)) ∙ from_is rows (back w64 i) h in
          record { is = rw (there, same) (ap Got f.is); bytes = rw (there, same) f.bytes }

    -- handed on, the index is read back
    pub block_back : {after : List ℕ} {r : Result Block RowError} → BlockAs (block_from rows (back w64 i) (length before)) before after r → BlockAs (block_from rows i (length before)) before after r
    block_back {after} {r} w = subst (λ (z : ℤ). BlockAs (block_from rows z (length before)) before after r) (to_z-of_z {w = w64} F) w

-- ---- the whole answer

module _ (limit : ℕ) (rows : ℕ → Sheet → List (List ℕ)) (t b : List ℕ) (i : ℤ) (before : List ℕ) where
  -- the rows of a book that is opened
  abbrev asked : ℕ → Sheet → Answer (List (List ℕ))
  asked c s = block_from (rows c s) i (length before)

  as_asked : {d : Answer (List (List ℕ))} {after : List ℕ} {r : Result Block RowError} → d ≡ block_do limit rows t b i before → BlockAs d before after r
      → BlockAs (block_do limit rows t b i before) before after r
  as_asked e w = record { is = w.is ∙ ap (λ d. d >>= λ q. Got (block_of q)) e; bytes = w.bytes ∙ ap (block_bytes before) e }

  -- a refusal leaves the buffer
  refused : (e : RowError) → Refused (row_refusal e) ≡ block_do limit rows t b i before → BlockAs (block_do limit rows t b i before) before before (Err e)
  refused e f = as_asked {d = Refused (row_refusal e)} f (record { is = refl; bytes = refl })

  pub short_buffer : length before < limit → BlockAs (block_do limit rows t b i before) before before (Err (RowError.Open OpenError.WrongLength))
  unfolding block_do
  short_buffer h = refused _ (rw (lt-leb limit (length before) h) (sym (short t b (λ c. checked t c b >>= asked c))))

  module _ (room : limit ≤ length before) where
    -- behind the buffer's length
    behind : {d : Answer (List (List ℕ))} → d ≡ (sized t b >>= λ c. checked t c b >>= asked c) → d ≡ block_do limit rows t b i before
    unfolding block_do
    behind e = rw (le-leb limit (length before) room) e

    pub no_book : {e : OpenError} → OpenedAs t b (Err e) → BlockAs (block_do limit rows t b i before) before before (Err (RowError.Open e))
    no_book z = refused _ (behind (not_opened asked z))

    pub passed : {c : ℕ} {after : List ℕ} {r : Result Block RowError} → OpenedAs t b (Ok c) → BlockAs (block_from (rows c (sheet_of (parts_in t))) i (length before)) before after r
        → BlockAs (block_do limit rows t b i before) before after r
    passed z w = as_asked (behind (opened asked z)) w
