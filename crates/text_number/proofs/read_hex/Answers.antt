-- `text_number::read_hex` meets its contract: `Hexing` is the invariant, and each answer a law of what was read up to there. Assumes nothing.
use native.Mathlib.Omega.{arith}
use mathlib.Core.Path.{◌∙◌, sym}
use lib.ListN.{get_or}
use Rattle.text_number.proofs.Hex.{hex_small, hexing_other, hexing_first, hexing_last, hexing_fits, hexing_bad, hexing_more}
use Rattle.text_number.proofs.read_hex.Goals as goal

pub returns-then-to-from-ne16 : goal.returns-then-to-from-ne16
returns-then-to-from-ne16 c = hexing_other c.requires c.if-to-from-ne16.true

pub loop-i-init : goal.loop-i-init
loop-i-init c = hexing_first c.requires c.if-to-from-ne16.false

pub returns-in_err-v : goal.returns-in_err-v
returns-in_err-v c = c.from_residual.ensures ∙ hexing_bad c.loop-i.invariant c.loop-i-test.true (sym c.in_err-v.was ∙ c.hex_value.ensures)

pub overflow_mul-v : goal.overflow_mul-v
overflow_mul-v c =
    omega (arith, hexing_fits c.loop-i.invariant c.loop-i-test.true)

pub overflow_add-v : goal.overflow_add-v
overflow_add-v c =
    omega (arith, hexing_fits c.loop-i.invariant c.loop-i-test.true, hex_small (get_or c.args.s.now c.loop-i.i 0) _ (sym c.in_ok-v.was ∙ c.hex_value.ensures))

pub loop-i-preserved : goal.loop-i-preserved
loop-i-preserved c =
    hexing_more c.loop-i.invariant c.loop-i-test.true _ (sym c.in_ok-v.was ∙ c.hex_value.ensures)

pub returns : goal.returns
returns c = hexing_last c.loop-i.invariant c.loop-i-test.false
