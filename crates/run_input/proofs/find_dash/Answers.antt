-- `Seeking` is the invariant: the lines read so far, none of which is `-`. Assumes nothing.
use mathlib.Core.Path.{◌∙◌, sym}
use Rattle.run_input.proofs.Seek.{seeking_first, seeking_last, seeking_cut, seeking_found, seeking_more}
use Rattle.run_input.proofs.find_dash.Goals as goal

pub loop-at-init : goal.loop-at-init
loop-at-init c = seeking_first c.args.s.now

pub returns-then-end-n : goal.returns-then-end-n
returns-then-end-n c = seeking_cut c.loop-at.invariant c.find-end.ensures c.if-end-n.true

pub returns-then-part_eq : goal.returns-then-part_eq
returns-then-part_eq c =
    seeking_found c.loop-at.invariant c.find-end.ensures c.if-end-n.false (sym c.part_eq.ensures ∙ c.if-part_eq.true)

pub loop-at-preserved : goal.loop-at-preserved
loop-at-preserved c =
    seeking_more c.loop-at.invariant c.find-end.ensures c.if-end-n.false (sym c.part_eq.ensures ∙ c.if-part_eq.false)

pub returns : goal.returns
returns c = seeking_last c.loop-at.invariant c.loop-at-test.false
