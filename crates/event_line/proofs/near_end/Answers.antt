-- `event_line::near_end` meets its contract: `Passing` is the invariant. Assumes nothing.
use native.Mathlib.Omega.{arith}
use Rattle.event_line.proofs.Blocks.{end-here, end_more, passing_start, passing_end}
use Rattle.event_line.proofs.near_end.Goals as goal
use Rattle.event_line.proofs.near_end.Goals.{then-b-eq-LF-via-then-b-eq-LF, then-b-eq-LF-via-else-b-eq-LF+then-b-eq-PIPE}

pub loop-i-init : goal.loop-i-init
loop-i-init c = passing_start _ _ c.requires

pub returns-then-b-eq-LF : goal.returns-then-b-eq-LF
returns-then-b-eq-LF c =
    elim c.then-b-eq-LF.branch [
      | then-b-eq-LF-via-then-b-eq-LF w ↦ end-here c.loop-i.invariant.ends c.loop-i-test.true (λ n. absurd (n w.if-b-eq-LF.true))
      | then-b-eq-LF-via-else-b-eq-LF+then-b-eq-PIPE w ↦ end-here c.loop-i.invariant.ends c.loop-i-test.true (λ _. w.if-b-eq-PIPE.true)
    ]

pub loop-i-preserved : goal.loop-i-preserved
loop-i-preserved c = record { ends = end_more c.loop-i.invariant.ends c.if-b-eq-LF.false c.if-b-eq-PIPE.false; within = omega arith }

pub returns : goal.returns
returns c = passing_end c.loop-i.invariant c.loop-i-test.false
