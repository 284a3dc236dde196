-- From the input's bytes to its bars: what is refused, what is begun, and what a refusal prints. Assumes nothing.
use Prim.Native.Nat.{ℕ, ◌+◌, ◌≤◌, ◌<◌}
use native.Mathlib.Omega.{arith}
use mathlib.Core.List.{List, [], ◌∷◌}
use mathlib.Core.Logic.{◌≢◌}
use Rattle.table_compile.specs.declared.CompileError.{CompileError}
use Rattle.std.specs.Prelude.{None, Result, Ok, Err}
use mathlib.Core.Path.{◌≡◌, refl, sym, ap, subst, ◌∙◌}
use lib.ListN.{length, take, replicate}
use borrow.Author.Tests.{le-leb, lt-leb, eq-eqb}
use Rattle.text.specs.Answer.{Answer, Refused, Got, number}
use Rattle.text.specs.Literal.{bytes}
use Rattle.text.specs.Number.{decimal_of}
use Rattle.text.specs.Read.{Put}
use Rattle.text.specs.Text.{LF, split}
use Rattle.text.proofs.Laws.{part_end}
use Rattle.text.proofs.Lines.{lines_from}
use Rattle.text.proofs.Refusals.{Gives, refuses, gives, Any}
use Rattle.sheet.specs.Sheet.{Sheet}
use Rattle.sheet.specs.Read.{read_sheet}
use Rattle.table.specs.Layout.{table_length}
use Rattle.table.specs.Compile.{compile_do, Compiled, Means}
use Rattle.table_compile.specs.Outcome.{compile_refusal, number_of, CompiledAs}
use Rattle.table_compile.specs.declared.CompileError.TheVariants as CompileError
use Rattle.sheet.specs.declared.SheetError.TheVariants as SheetError
use Rattle.signal.specs.declared.SignalError.TheVariants as SignalError
use Rattle.position.specs.Run.{input_limit, cut, input_line, read_input, line, run_do}
use Rattle.history.proofs.Answered.{compile_gives}
use Rattle.run_input.specs.Lines.{CutAt}
use Rattle.run_feed.specs.Steps.{output_room, asked}
use Rattle.run_bars.specs.Steps.{Begun}

-- 0 is said only where something is got
got_of : {X : Type 0} {a : Answer X} → Gives Any a → number a ≡ 0 → (x : X) × (a ≡ Got x)
got_of refuses z = absurd (omega arith)
got_of (gives {x} u) z = (x, refl)

-- no refusal of a sheet is 0
refused_some : (e : CompileError) → compile_refusal e ≢ 0
refused_some CompileError.WrongLength z = omega arith
refused_some (CompileError.Sheet SheetError.PastLimit) z = omega arith
refused_some (CompileError.Sheet SheetError.NotUtf8) z = omega arith
refused_some (CompileError.Sheet SheetError.Malformed) z = omega arith
refused_some (CompileError.Sheet SheetError.BadNumber) z = omega arith
refused_some (CompileError.Sheet SheetError.UnknownOperate) z = omega arith
refused_some (CompileError.Sheet (SheetError.Signal SignalError.NotSeven)) z = omega arith
refused_some (CompileError.Sheet (SheetError.Signal SignalError.BadScore)) z = omega arith
refused_some (CompileError.Sheet SheetError.BadLots) z = omega arith

-- ---- refusals of the input

-- "input past 65,536 bytes (7)"
pub input-long : (s : List ℕ) → input_limit < length s → read_input s ≡ Refused 7
unfolding read_input
input-long s h = rw (lt-leb (length s) input_limit h)

module _ (s : List ℕ) (short : length s ≤ input_limit) where
  -- "no `-` line (2)"
  pub input-whole : cut (split LF s) ≡ None → read_input s ≡ Refused 2
  unfolding read_input
  input-whole e = rw (le-leb (length s) input_limit short, e)

  module _ {p : ℕ} (c : CutAt s p) where
    -- "a refused sheet"
    sheet-refused : (n : ℕ) → read_sheet (take p s) ≡ Refused n → read_input s ≡ Refused n
    unfolding read_input
    sheet-refused n e = rw (le-leb (length s) input_limit short, c.is, c.text, e)

    -- the lines behind `-`
    sheet-read : (sheet : Sheet) → read_sheet (take p s) ≡ Got sheet → read_input s ≡ asked sheet (lines_from input_line [] s (p + 2))
    unfolding read_input
    sheet-read sheet e = rw (le-leb (length s) input_limit short, c.is, c.text, e, part_end (p + 2) s)

    module _ {before after : List ℕ} {r : (Result (Unit {0}) CompileError)} (sized : length before ≡ table_length) (d : CompiledAs (take p s) before after r) where
      compile_is : compile_do (take p s) before ≡ read_sheet (take p s)
      unfolding compile_do
      compile_is = rw (eq-eqb (length before) table_length sized)

      -- an error is the sheet's refusal
      pub not_compiled : (q : CompileError) → r ≡ Err q → read_input s ≡ Refused (compile_refusal q)
      not_compiled q h = go (compile_do (take p s) before) refl
        where
          go : (a : Answer Sheet) → compile_do (take p s) before ≡ a → read_input s ≡ Refused (compile_refusal q)
          go (Refused n) e =
              let is : compile_refusal q ≡ n = sym (ap number_of h) ∙ d.answer ∙ ap number e in
              rw is (sheet-refused n (sym compile_is ∙ e))
          go (Got x) e = absurd (refused_some q (sym (ap number_of h) ∙ d.answer ∙ ap number e))

      -- else the table means the sheet
      was_compiled : number_of r ≡ 0 → (sheet : Sheet) × (Means after sheet) × (read_input s ≡ asked sheet (lines_from input_line [] s (p + 2)))
      was_compiled h =
          let got = got_of (compile_gives (take p s) before) (sym d.answer ∙ h) in
          (got.0, subst (λ (a : Answer Sheet). Compiled a before after) got.1 d.bytes, sheet-read got.0 (sym compile_is ∙ got.1))

      -- and its bars can be run
      pub begun : {u : Unit {0}} → r ≡ Ok u → (out : List ℕ) → out ≡ replicate (length out) 0 → output_room ≤ length out → Begun s after out (p + 2)
      begun h out clear space =
          let got = was_compiled (ap number_of h) in
          record { sheet = got.0; meant = got.1.meant; read = got.2; within = c.room; short = short; clear = clear; space = space }

-- ---- what is printed

pub printed_refusal : (s : List ℕ) (n : ℕ) → read_input s ≡ Refused n → run_do s ≡ line (bytes "E" ∷ decimal_of n ∷ [])
unfolding run_do
printed_refusal s n e = rw e refl

-- what is written over zeros as long as the buffer
pub over_zeros : (n : ℕ) {x more t : List ℕ} {r : ℕ} → x ≡ replicate n 0 → Put x more 0 t r → (s : List ℕ) → run_do s ≡ t → (m : ℕ) → n ≡ m → Put (replicate m 0) more 0 (run_do s) r
over_zeros n e put s is m size = rw (is, ← size, ← e) put
