-- A text of six bytes is compared with the Chinese name, another with the letters: the other name has another length. Assumes nothing.
use mathlib.Core.Path.{refl, ◌∙◌}
use native.Mathlib.Omega.{arith}
use Rattle.operate.proofs.Laws.{compared, second_half, first_half, no_letters, no_name, either_second, either_alone}
use Rattle.operate.proofs.Operate.is_spelled.Goals as goal

pub returns-then-s-ne6 : goal.returns-then-s-ne6
returns-then-s-ne6 c =
    let s = c.args.s.now in
    compared s c.eq.ensures c.as_slice.ensures c.latin.ensures ∙ either_alone _ (no_name s c.args.self c.if-s-ne6.true)

pub returns-then-eq : goal.returns-then-eq
returns-then-eq c =
    let s = c.args.s.now in
    let name = rw c.code.ensures at c.to_chinese-name.ensures in
    let whole = second_half s _ c.eq-2.ensures c.if-s-ne6.false name.size c.if-eq.true c.eq-then-eq.ensures in
    compared s whole refl name ∙ either_second _ (no_letters s c.args.self (λ q. omega (arith, q, c.if-s-ne6.false)))

pub returns-else-eq : goal.returns-else-eq
returns-else-eq c =
    let s = c.args.s.now in
    let name = rw c.code.ensures at c.to_chinese-name.ensures in
    compared s (first_half s _ c.eq-2.ensures c.if-eq.false) refl name ∙ either_second _ (no_letters s c.args.self (λ q. omega (arith, q, c.if-s-ne6.false)))
