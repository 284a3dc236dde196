-- Three parts, and one more that is an i32. Assumes nothing.
use mathlib.Core.Path.{ap, sym, ◌∙◌}
use borrow.Author.Rules.{rules}
use Rattle.std.specs.Prelude.{Some}
use Prim.Native.Nat.{◌+◌}
use Rattle.std.proofs.Common.{FitsSigned, w32}
use Rattle.std.proofs.lemmas.Int.{to_z-of_z}
use Rattle.signal.proofs.Parts.{more_parts, last_part}
use Rattle.signal.proofs.Says.{value-few, value-many, value_none, value-is}
use Rattle.signal.proofs.read_value.Goals as goal

pub returns-in_err-v : goal.returns-in_err-v
returns-in_err-v c = rw c.from_residual.ensures (value-few c.args.s.now c.in_err-v.ensures)

pub returns-then-is_some : goal.returns-then-is_some
returns-then-is_some c =
    value-many c.in_ok-v.ensures (more_parts c.args.s.now (c.in_ok-v.v.third + 1) c.part_end.result c.part_end.ensures (sym c.is_some.ensures ∙ c.if-is_some.true))

pub returns-in_err-score : goal.returns-in_err-score
returns-in_err-score c =
    let last = last_part c.args.s.now (c.in_ok-v.v.third + 1) c.part_end.result c.part_end.ensures (sym c.is_some.ensures ∙ c.if-is_some.false) in
    rw c.from_residual-in_err-score.ensures (value_none c.in_ok-v.ensures last c.in_err-score.ensures)

pub returns : goal.returns
returns c =
    let last = last_part c.args.s.now (c.in_ok-v.v.third + 1) c.part_end.result c.part_end.ensures (sym c.is_some.ensures ∙ c.if-is_some.false) in
    let fits : FitsSigned w32 c.in_ok-score.score = search rules in
    value-is c.in_ok-v.ensures last (ap Some (to_z-of_z w32 c.in_ok-score.score fits) ∙ c.in_ok-score.ensures)
