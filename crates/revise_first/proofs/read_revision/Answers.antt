-- No number, one past a u32, or the revision. Assumes nothing.
use mathlib.Core.Path.{◌∙◌, sym}
use Rattle.revise_first.proofs.Numbers.{revision-none, revision-past, revision-is}
use Rattle.revise_first.proofs.read_revision.Goals as goal

pub returns-in_err-v : goal.returns-in_err-v
returns-in_err-v c = rw c.from_residual.ensures (revision-none (sym c.in_err-v.was ∙ c.decimal.ensures))

pub returns-then-v-gt4294967295 : goal.returns-then-v-gt4294967295
returns-then-v-gt4294967295 c = revision-past (sym c.in_ok-v.was ∙ c.decimal.ensures) c.if-v-gt4294967295.true

pub returns : goal.returns
returns c = revision-is (sym c.in_ok-v.was ∙ c.decimal.ensures) c.if-v-gt4294967295.false
