-- No code, no room, or the name. Assumes nothing.
use mathlib.Core.Path.{refl}
use native.Mathlib.Omega.{arith}
use Rattle.position_book_answer_alone.proofs.Laws.{name_case, name_unknown, name-short, name_done, name-put}
use Rattle.position_book_answer_alone.proofs.operate_name.Goals as goal

pub returns-then-code-gt6 : goal.returns-then-code-gt6
returns-then-code-gt6 c =
    let a = c.args in
    name_case a.code a.out.now (name_unknown a.code a.out.now c.if-code-gt6.true) refl refl

pub returns-then-out-lt6 : goal.returns-then-out-lt6
returns-then-out-lt6 c =
    let a = c.args in
    name_case a.code a.out.now (name-short a.code a.out.now (omega arith) c.to_chinese-name.ensures c.if-out-lt6.true) refl refl

pub returns : goal.returns
returns c =
    let a = c.args in
    let n = c.to_chinese-name.ensures in
    let p = name-put a.code a.out.now (omega arith) n c.put_part-n.ensures in
    name_case a.code a.out.now (name_done a.code a.out.now (omega arith) n c.if-out-lt6.false) p.0 p.1
