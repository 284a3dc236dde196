-- `Passing` is the invariant: no LF stands before i. Assumes nothing.
use native.Mathlib.Omega.{arith}
use Rattle.revise_line.proofs.Blocks.{passing_start, passing_found, passing_block}
use Rattle.revise_line.proofs.find_lf.Goals as goal

pub loop-i-init : goal.loop-i-init
loop-i-init c = passing_start _ _ c.requires

pub returns-then-k-lt64 : goal.returns-then-k-lt64
returns-then-k-lt64 c = passing_found c.loop-i.invariant c.lf_block-k.ensures (omega arith) c.if-k-lt64.true

pub loop-i-preserved : goal.loop-i-preserved
loop-i-preserved c = passing_block c.loop-i.invariant c.lf_block-k.ensures (omega arith) c.if-k-lt64.false

pub returns : goal.returns
returns c = c.loop-i.invariant.rest _ c.find.ensures
