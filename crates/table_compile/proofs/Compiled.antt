-- What compiling promises, from what its parts answer. Assumes nothing.
use Prim.Native.Nat.{ℕ}
use mathlib.Core.Bool.{true}
use mathlib.Core.List.{List}
use mathlib.Core.Path.{◌≡◌, refl, sym, ◌∙◌}
use mathlib.Core.Logic.{◌≢◌}
use borrow.Author.Tests.{eq-eqb, ne_eqb}
use lib.ListN.{length}
use Rattle.std.specs.Prelude.{Ok, Err}
use Rattle.text.specs.Answer.{Refused, Got}
use Rattle.sheet.specs.Read.{read_sheet}
use Rattle.sheet.specs.Places.{sheet_at, SheetAs}
use Rattle.sheet.specs.declared.SheetAt.{SheetAt}
use Rattle.sheet.specs.declared.SheetError.{SheetError}
use Rattle.table_limits.specs.Fine.{fine_sheet}
use Rattle.table.specs.Layout.{table_length}
use Rattle.table.specs.Compile.{compile_do, Means}
use Rattle.table_layout.specs.Build.{table_of}
use Rattle.table_layout.proofs.Table.{table_means}
use Rattle.table_wordbook.specs.Wordbook.{Words}
use Rattle.table_parts.specs.Draft.{draft, Drafted}
use Rattle.table_parts.proofs.Right.{draft-ok, draft_means, draft-sized}
use Rattle.table_compile.specs.declared.CompileError.{CompileError}
use Rattle.table_compile.specs.Outcome.{compile_refusal, CompiledAs}

-- the table that is written means the sheet
pub written_means : {s es cs : List ℕ} {a : SheetAt} {numbers codes : List ℕ} {ks vs : Words} {after : List ℕ} → Drafted s es cs a numbers codes ks vs
    → fine_sheet (sheet_at s es cs a) ≡ true → after ≡ table_of (draft s es cs a numbers codes ks vs) → Means after (sheet_at s es cs a)
written_means d f e = rw (e, ← draft_means d f) (table_means (draft-sized d f) (draft-ok d f))

-- "Compiling checks 8" first
other_length : (s before : List ℕ) → length before ≢ table_length → compile_do s before ≡ Refused 8
unfolding compile_do
other_length s before h = rw (ne_eqb (length before) table_length h)

right-length : (s before : List ℕ) → length before ≡ table_length → compile_do s before ≡ read_sheet s
unfolding compile_do
right-length s before h = rw (eq-eqb (length before) table_length h)

-- a refusal leaves every byte
kept : {s before : List ℕ} (e : CompileError) → compile_do s before ≡ Refused (compile_refusal e) → CompiledAs s before before (Err e)
kept e c = record { answer = rw c; bytes = rw c refl }

module _ {s before : List ℕ} where
  pub wrong_length : length before ≢ table_length → CompiledAs s before before (Err CompileError.WrongLength)
  wrong_length h = kept CompileError.WrongLength (other_length s before h)

  module _ (h : length before ≡ table_length) {es cs : List ℕ} where
    -- the sheet is refused
    pub refused : {e : SheetError} → SheetAs s es cs (Err e) → CompiledAs s before before (Err (CompileError.Sheet e))
    refused {e} r = kept (CompileError.Sheet e) (right-length s before h ∙ sym r.is)

    -- or the table means it
    pub done : {a : SheetAt} {after : List ℕ} → SheetAs s es cs (Ok a) → Means after (sheet_at s es cs a) → CompiledAs s before after (Ok tt)
    done {a} {after} r m =
        let c : compile_do s before ≡ Got (sheet_at s es cs a) = right-length s before h ∙ sym r.is in
        record { answer = rw c refl; bytes = rw c m }
