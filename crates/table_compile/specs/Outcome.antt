-- What compiling answers, and the table's bytes at exit. Assumes nothing.
use Rattle.std.specs.Prelude.{ℕ, ◌≡◌, List, Result, Ok, Err}
use Rattle.text.specs.Answer.{number}
use Rattle.sheet.specs.Places.{sheet_refusal}
use Rattle.table.specs.Compile.{compile_do, Compiled}
use Rattle.table_compile.specs.declared.CompileError.{CompileError}

-- the number of each answer
abbrev pub compile_refusal : CompileError → ℕ
compile_refusal CompileError.WrongLength = 8
compile_refusal (CompileError.Sheet e) = sheet_refusal e

abbrev pub number_of : Result (Unit {0}) CompileError → ℕ
number_of (Ok u) = 0
number_of (Err e) = compile_refusal e

-- s was compiled into a table whose bytes were `before`
pub record CompiledAs (s before after : List ℕ) (r : Result (Unit {0}) CompileError) : Type 0 where
  pub answer : number_of r ≡ number (compile_do s before)
  pub bytes : Compiled (compile_do s before) before after
