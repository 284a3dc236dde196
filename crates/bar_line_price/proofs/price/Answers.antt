-- The counts before the number. Assumes nothing.
use Prim.Native.Nat.{◌+◌}
use native.Mathlib.Omega.{arith}
use mathlib.Core.List.{◌++◌}
use mathlib.Core.Path.{sym, ap, ◌∙◌}
use lib.ListN.{length, length-append}
use Rattle.text.specs.Answer.{Got}
use Rattle.text.specs.Number.{digits_behind}
use Rattle.std.specs.Prelude.{Some}
use Rattle.bar_line_price.proofs.Digits.{every_both, behind-few, digits_append}
use Rattle.bar_line_price.proofs.Form.{too_many, priced-long, priced-is}
use Rattle.bar_line_price.proofs.price.Goals as goal

pub returns-then-whole-behind-gt-DIGITS_LIMIT : goal.returns-then-whole-behind-gt-DIGITS_LIMIT
returns-then-whole-behind-gt-DIGITS_LIMIT c =
    let whole = c.args.whole.now in
    let behind = c.args.behind.now in
    let size = length-append whole behind in
    priced-long (whole ++ behind) (length behind) (every_both whole behind c.requires.whole_digits c.requires.behind_digits)
    (rw size (too_many (length whole + length behind) (length behind) c.then-whole-behind-gt-DIGITS_LIMIT.either))

pub digits_behind-requires-clause-few : goal.digits_behind-requires-clause-few
digits_behind-requires-clause-few c = behind-few 0 0 (length c.args.whole.now) (omega arith) (omega arith)

pub digits_behind-v-requires-clause-few : goal.digits_behind-v-requires-clause-few
digits_behind-v-requires-clause-few c =
    behind-few c.digits_behind.result (length c.args.whole.now) (length c.args.behind.now) (omega (arith, c.digits_behind.ensures.few)) (omega arith)

pub scaled-requires : goal.scaled-requires
scaled-requires c =
    let few = behind-few c.digits_behind.result (length c.args.whole.now) (length c.args.behind.now) (omega (arith, c.digits_behind.ensures.few)) (omega arith) in
    (omega (arith, few, c.digits_behind-v.ensures.few), omega arith)

pub returns : goal.returns
returns c =
    let whole = c.args.whole.now in
    let behind = c.args.behind.now in
    let size = length-append whole behind in
    let both = c.digits_behind-v.ensures.value ∙ ap (λ o. digits_behind o behind) c.digits_behind.ensures.value ∙ sym (digits_append (Some 0) whole behind) in
    ap Got c.scaled.ensures ∙ priced-is (whole ++ behind) (length behind) (omega (arith, size)) (omega arith) both
