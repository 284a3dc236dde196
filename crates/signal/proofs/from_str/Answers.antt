-- Three parts, three parts, and one more that is a score. Assumes nothing.
use mathlib.Core.Path.{sym, ap, ◌∙◌}
use Prim.Native.Nat.{◌+◌}
use Rattle.std.proofs.lemmas.Result.{err_from_is_err_and}
use Rattle.signal.specs.Signal.{score}
use Rattle.signal.proofs.Parts.{more_parts, last_part}
use Rattle.signal.proofs.Says.{none_refused, few-first, few-second, many, bad_score, signal-is}
use Rattle.signal.proofs.from_str.Goals as goal

pub returns-in_err-k : goal.returns-in_err-k
returns-in_err-k c =
    let p = err_from_is_err_and c.from_residual.result c.from_residual.ensures.1 in
    let none = none_refused c.three_parts.result _ _ c.in_err-k.ensures.value in
    rw (p.1, p.2, none.1) (few-first c.args.s.now (rw none.0 at c.three_parts.ensures))

pub returns-in_err-v : goal.returns-in_err-v
returns-in_err-v c =
    let p = err_from_is_err_and c.from_residual-in_err-v.result c.from_residual-in_err-v.ensures.1 in
    let none = none_refused c.three_parts-2.result _ _ c.in_err-v.ensures.value in
    let keys = rw c.in_ok-k.ensures.ok_part at c.three_parts.ensures in
    rw (p.1, p.2, none.1) (few-second keys (rw none.0 at c.three_parts-2.ensures))

pub returns-then-is_some : goal.returns-then-is_some
returns-then-is_some c =
    let keys = rw c.in_ok-k.ensures.ok_part at c.three_parts.ensures in
    let values = rw c.in_ok-v.ensures.ok_part at c.three_parts-2.ensures in
    many keys values (more_parts c.args.s.now (c.in_ok-v.v.third + 1) c.part_end.result c.part_end.ensures (sym c.is_some.ensures ∙ c.if-is_some.true))

pub returns-in_err-score : goal.returns-in_err-score
returns-in_err-score c =
    let p = err_from_is_err_and c.from_residual-in_err-score.result c.from_residual-in_err-score.ensures.1 in
    let none = none_refused c.score.result _ _ c.in_err-score.ensures.value in
    let keys = rw c.in_ok-k.ensures.ok_part at c.three_parts.ensures in
    let values = rw c.in_ok-v.ensures.ok_part at c.three_parts-2.ensures in
    let last = last_part c.args.s.now (c.in_ok-v.v.third + 1) c.part_end.result c.part_end.ensures (sym c.is_some.ensures ∙ c.if-is_some.false) in
    rw (p.1, p.2, none.1) (bad_score keys values last (sym none.0 ∙ c.score.ensures ∙ ap score c.read_i32.ensures))

pub returns : goal.returns
returns c =
    let keys = rw c.in_ok-k.ensures.ok_part at c.three_parts.ensures in
    let values = rw c.in_ok-v.ensures.ok_part at c.three_parts-2.ensures in
    let last = last_part c.args.s.now (c.in_ok-v.v.third + 1) c.part_end.result c.part_end.ensures (sym c.is_some.ensures ∙ c.if-is_some.false) in
    signal-is keys values last (sym c.in_ok-score.ensures.ok_part ∙ c.score.ensures ∙ ap score c.read_i32.ensures)
