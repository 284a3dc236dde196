-- `event_line::field_end` meets its contract: `Passing` is the invariant. Assumes nothing.
use native.Mathlib.Omega.{arith}
use Rattle.event_line.proofs.Blocks.{end_on, passing_start, passing_found, passing_block}
use Rattle.event_line.proofs.field_end.Goals as goal

pub loop-i-init : goal.loop-i-init
loop-i-init c = passing_start _ _ c.requires

pub returns-then-k-lt64 : goal.returns-then-k-lt64
returns-then-k-lt64 c = passing_found c.loop-i.invariant c.plain_block-k.ensures (omega arith) c.if-k-lt64.true

pub loop-i-preserved : goal.loop-i-preserved
loop-i-preserved c = passing_block c.loop-i.invariant c.plain_block-k.ensures (omega arith) c.if-k-lt64.false

pub returns : goal.returns
returns c = end_on c.loop-i.invariant.ends c.near_end.ensures
