-- `utf8_text::stretch` meets its contract. The loop has passed i..j. Assumes nothing.
use mathlib.Core.Path.{sym}
use native.Mathlib.Omega.{arith}
use Rattle.utf8.proofs.Laws.{passed_start, passed_char, passed_wrong}
use Rattle.utf8_text.proofs.stretch.Goals as goal

pub loop-j-init : goal.loop-j-init
loop-j-init c = passed_start _ _ (omega arith)

pub loop-j-preserved : goal.loop-j-preserved
loop-j-preserved c = passed_char c.loop-j.invariant c.in_ok-j.ensures

pub returns-in_err-j : goal.returns-in_err-j
returns-in_err-j c = rw c.from_residual.ensures (sym (passed_wrong c.loop-j.invariant c.in_err-j.ensures))
