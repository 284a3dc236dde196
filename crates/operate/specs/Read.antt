-- What the code's answers mean. Assumes nothing.
use Rattle.operate.specs.declared.OperateError.{OperateError}
use Rattle.utf8_text.specs.Read.{alone_refusal}
use Rattle.std.specs.Prelude.{ℕ, ◌≡◌, List, length, Option, Some, None, Result, Ok, Err}
use Rattle.text.specs.Answer.{Answer, Refused, Got}
use Rattle.operate.specs.declared.Operate.{Operate}
use Rattle.operate.specs.declared.Operate.TheVariants.{HL, HS, HO, LO, LE, SO, SE}

-- "codes 0 to 6"
abbrev pub code_of : Operate → ℕ
code_of HL = 0
code_of HS = 1
code_of HO = 2
code_of LO = 3
code_of LE = 4
code_of SO = 5
code_of SE = 6

-- the number and the code of each answer
abbrev pub read_of : Option Operate → Answer ℕ
read_of (Some o) = Got (code_of o)
read_of None = Refused 4

abbrev pub operate_refusal : OperateError → ℕ
operate_refusal (OperateError.Text e) = alone_refusal e
operate_refusal OperateError.Unnamed = 4

abbrev pub alone_of : Result Operate OperateError → Answer ℕ
alone_of (Ok o) = Got (code_of o)
alone_of (Err e) = Refused (operate_refusal e)

-- the array r holds the n bytes of a name
pub record Name (name : List ℕ) (n : ℕ) (r : List ℕ) : Type 0 where
  pub is : r ≡ name
  pub size : n ≡ length r
