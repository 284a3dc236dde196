-- `Looking` is the invariant: no `|` was met from the end on. Assumes nothing.
use Rattle.revise_first.proofs.Pipes.{looking_first, looking_last, looking_found, looking_more}
use Rattle.revise_first.proofs.last_pipe.Goals as goal

pub loop-i-init : goal.loop-i-init
loop-i-init c = looking_first c.requires.part

pub returns-then-s-i-eq-PIPE : goal.returns-then-s-i-eq-PIPE
returns-then-s-i-eq-PIPE c = looking_found c.loop-i.invariant c.loop-i-test.true c.if-s-i-eq-PIPE.true

pub loop-i-preserved : goal.loop-i-preserved
loop-i-preserved c = looking_more c.loop-i.invariant c.loop-i-test.true c.if-s-i-eq-PIPE.false

pub returns : goal.returns
returns c = looking_last c.loop-i.invariant c.loop-i-test.false c.requires.in_bounds
