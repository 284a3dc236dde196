-- The text's own refusals first, then what it spells. Assumes nothing.
use mathlib.Core.Path.{◌≡◌, ◌∙◌, refl, ap}
use Rattle.std.specs.Prelude.{Option, Some, None}
use Rattle.std.specs.Option.{ok_or}
use Rattle.std.proofs.lemmas.Result.{err_from_is_err_and}
use Rattle.text.proofs.Answers.{refused_then, got_then}
use Rattle.operate.specs.declared.Operate.{Operate}
use Rattle.operate.specs.declared.OperateError.TheVariants.{Unnamed}
use Rattle.operate.specs.Read.{read_of, alone_of}
use Rattle.operate.specs.Operate.{operate_of, operate_alone}
use Rattle.operate.proofs.operate_alone.Goals as goal

pub returns-in_err-check_alone : goal.returns-in_err-check_alone
unfolding operate_alone
returns-in_err-check_alone c =
    let p = err_from_is_err_and c.from_residual.result c.from_residual.ensures.1 in
    rw (p.1, p.2) (refused_then _ c.in_err-check_alone.ensures)

-- what spells none is refused as unnamed
named : (o : Option Operate) → alone_of (ok_or o Unnamed) ≡ read_of o
named (Some o) = refl
named None = refl

pub returns : goal.returns
unfolding operate_alone
returns c = ap alone_of c.ok_or.ensures.value ∙ named _ ∙ c.parse_operate.ensures ∙ got_then (λ _. operate_of c.args.s.now) c.in_ok-check_alone.ensures
